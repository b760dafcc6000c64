-- The rows before i are written: with those from i on they are all.
use Rattle.std.proofs.Common.{◌≡◌, ◌+◌, ◌-◌, ◌++◌, length, take, drop}
use Rattle.program.specs.Meaning.{program}
use Rattle.fences.specs.Listing.{text}
use Rattle.fences.specs.Rows.{rows_from}
use Rattle.fences.proofs.listing.write_rows.Given as goal

abbrev pub invariant-loop-i : goal.invariant-loop-i
invariant-loop-i l =
    (take l.at l.out ++ text (rows_from (program l.p) l.queue l.cost l.i (l.n - l.i)) ≡ text (rows_from (program l.p) l.queue l.cost 0 l.n))
    × (l.at + length (text (rows_from (program l.p) l.queue l.cost l.i (l.n - l.i))) ≡ length (text (rows_from (program l.p) l.queue l.cost 0 l.n)))
    × (drop (length (text (rows_from (program l.p) l.queue l.cost 0 l.n))) l.out ≡ drop (length (text (rows_from (program l.p) l.queue l.cost 0 l.n))) l.initial.out)
