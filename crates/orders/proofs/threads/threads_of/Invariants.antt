-- As many threads as turns.
use Rattle.std.proofs.Common.{◌≡◌, vec_len}
use Rattle.orders.proofs.threads.threads_of.Given as goal

abbrev pub invariant-loop-t : goal.invariant-loop-t
invariant-loop-t l = vec_len l.threads ≡ l.t-index
