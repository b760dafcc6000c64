-- The finished states before i are counted: with those from i on they are all.
use Rattle.std.proofs.Common.{◌≡◌, ℕ, ◌+◌, ◌-◌, ◌≤◌, List, length}
use Rattle.program.specs.Meaning.{program}
use Rattle.fences.specs.Rows.{rows_from}
use Rattle.fences.proofs.listing.count_finished.Given as goal

abbrev pub invariant-loop-i : goal.invariant-loop-i
invariant-loop-i l = (l.count ≤ l.i) × ((cost : List ℕ) → l.count + length (rows_from (program l.p) l.queue cost l.i (l.n - l.i)) ≡ length (rows_from (program l.p) l.queue cost 0 l.n))
