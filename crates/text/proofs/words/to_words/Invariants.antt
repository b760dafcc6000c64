-- Behind the count stand the words of the threads so far.
use Rattle.std.proofs.Common.{◌≡◌, ◌++◌}
use Rattle.text.proofs.WordRows.{first}
use Rattle.text.proofs.words.to_words.Given as goal

abbrev pub invariant-loop-thread : goal.invariant-loop-thread
invariant-loop-thread l = l.words.items ≡ l.initial.words.items ++ first l.thread-items l.thread-index
