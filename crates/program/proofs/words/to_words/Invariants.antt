-- Behind the count stand the words of the threads so far.
use Rattle.std.proofs.Common.{◌≡◌, ◌++◌, map, take}
use Rattle.model.specs.Code.{row_ts}
use Rattle.program.specs.Meaning.{thread}
use Rattle.program.proofs.words.to_words.Given as goal

abbrev pub invariant-loop-thread : goal.invariant-loop-thread
invariant-loop-thread l = l.words.items ≡ l.initial.words.items ++ row_ts (map thread (take l.thread-index l.thread-items))
