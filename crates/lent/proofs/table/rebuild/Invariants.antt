-- The table has the first i records, and nothing behind it has changed.
use Rattle.std.proofs.Common.{◌≡◌, drop}
use Rattle.lent.specs.Table.{places, Probed}
use Rattle.lent.proofs.table.rebuild.Given as goal

abbrev pub invariant-loop-i : goal.invariant-loop-i
invariant-loop-i l =
    Probed l.shape l.queue l.table l.i
    × (drop (places l.shape) l.table ≡ drop (places l.shape) l.initial.table)
