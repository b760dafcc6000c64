-- Four registers for each turn.
use Rattle.std.proofs.Common.{◌≡◌, ◌*◌, vec_len}
use Rattle.orders.proofs.numbers.outcome_of.Given as goal

abbrev pub invariant-loop-thread : goal.invariant-loop-thread
invariant-loop-thread l = vec_len l.outcome ≡ 4 * l.thread
