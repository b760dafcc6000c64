use Rattle.std.proofs.Common.{◌≡◌, drop}
use Rattle.text.specs.Meaning.{words, column}
use Rattle.text.specs.Shows.{widest, width}
use Rattle.text.proofs.printing.Names.width.Given as goal

-- the instructions that are left make of it the whole width
abbrev pub invariant-loop-i : goal.invariant-loop-i
invariant-loop-i l = width (words l.self.places.now) (column l.thread) ≡ widest (words l.self.places.now) l.most (drop l.i-index (column l.thread).code)
