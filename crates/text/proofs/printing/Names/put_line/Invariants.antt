use Rattle.std.proofs.Common.{◌≡◌, ◌++◌, map, drop, string_bytes}
use Rattle.text.specs.Meaning.{words, column}
use Rattle.text.specs.Shows.{show_line}
use Rattle.text.proofs.Printed.{lead}
use Rattle.text.proofs.printing.Names.put_line.Given as goal

-- what is put down, and what is left of the line
abbrev pub invariant-loop-k : goal.invariant-loop-k
invariant-loop-k l = string_bytes l.out ++ lead l.k (show_line (words l.self.places.now) l.j (drop l.k (map column l.threads))) ≡ string_bytes l.initial.out ++ show_line (words l.self.places.now) l.j (map column l.threads)
