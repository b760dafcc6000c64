-- The words of the threads read so far, with what is left, are all the words behind the count; and of every program
-- that the words are, the threads not yet read are the words that are left.
use Rattle.std.proofs.Common.{◌≡◌, T, ◌++◌, map, length}
use Rattle.model.specs.Code.{ok_ts, row_ts}
use Rattle.program.specs.Meaning.{thread}
use Rattle.program.proofs.ReadProgram.{Stands}
use Rattle.program.proofs.words.from_words.Given as goal

abbrev pub invariant-loop-n : goal.invariant-loop-n
invariant-loop-n l = record {
  so_many : length l.threads.items ≡ l._n;
  words : row_ts (map thread l.threads.items) ++ l.rest ≡ l.initial.rest;
  fine : T (ok_ts (map thread l.threads.items));
  stands : Stands l.words l._n l.rest;
}
