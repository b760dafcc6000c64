-- A thread keeps its four registers.
use Rattle.std.proofs.Common.{◌≡◌, length}
use Rattle.orders.proofs.numbers.Known.registers_at.Given as goal

abbrev pub invariant-loop-index : goal.invariant-loop-index
invariant-loop-index l =
    (goal.iterator-loop-index).can_next l.index-iterator
    × (goal.iterator-loop-index).is_finite l.index-iterator
    × (length l.registers ≡ 4)
