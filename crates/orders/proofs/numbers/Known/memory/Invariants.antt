-- Memory keeps its eight places.
use Rattle.std.proofs.Common.{◌≡◌, length}
use Rattle.orders.proofs.numbers.Known.memory.Given as goal

abbrev pub invariant-loop-e : goal.invariant-loop-e
invariant-loop-e l =
    (goal.iterator-loop-e).can_next l.e-iterator
    × (goal.iterator-loop-e).is_finite l.e-iterator
    × (length l.memory ≡ 8)
