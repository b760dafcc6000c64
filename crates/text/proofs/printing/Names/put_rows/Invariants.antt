use Rattle.std.proofs.Common.{◌≡◌, suc, ◌-◌, ◌++◌, map, string_bytes}
use Rattle.text.specs.Meaning.{words, column}
use Rattle.text.specs.Shows.{show_lines}
use Rattle.text.proofs.printing.Names.put_rows.Given as goal

-- what is put down, and the lines that are left
abbrev pub invariant-loop-j : goal.invariant-loop-j
invariant-loop-j l =
    string_bytes l.out ++ show_lines (record { columns = map column l.threads; places = words l.self.places.now }) (suc l.j) (l.rows - l.j)
    ≡ string_bytes l.initial.out ++ show_lines (record { columns = map column l.threads; places = words l.self.places.now }) 1 l.rows
