-- As many threads as turns.
use Rattle.std.proofs.Common.{◌≡◌, vec_len}
use Rattle.orders.proofs.threads.with_fences.Given as goal

abbrev pub invariant-loop-thread : goal.invariant-loop-thread
invariant-loop-thread l = vec_len l.fenced ≡ l.thread
