-- The words of the instructions read so far, with what is left, are all the words behind the count.
use Rattle.std.proofs.Common.{◌≡◌, T, ◌++◌, map, length}
use Rattle.model.specs.Code.{ok_t, row_t}
use Rattle.program.specs.Instructions.{instruction}
use Rattle.program.proofs.words.thread_from_words.Given as goal

abbrev pub invariant-loop-k : goal.invariant-loop-k
invariant-loop-k l = record {
  so_many : length l.code.items ≡ l._k;
  words : row_t (map instruction l.code.items) ++ l.rest ≡ l.initial.rest;
  fine : T (ok_t (map instruction l.code.items));
}
