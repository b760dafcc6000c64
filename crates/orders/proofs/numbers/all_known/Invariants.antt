-- As many numbers as turns.
use Rattle.std.proofs.Common.{◌≡◌, vec_len}
use Rattle.orders.proofs.numbers.all_known.Given as goal

abbrev pub invariant-loop-at : goal.invariant-loop-at
invariant-loop-at l = vec_len l.known.numbers ≡ l.at
