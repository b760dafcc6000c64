-- Behind what was there stand the words of the instructions so far.
use Rattle.std.proofs.Common.{◌≡◌, ◌++◌, map, take}
use Rattle.model.specs.Code.{row_t}
use Rattle.program.specs.Instructions.{instruction}
use Rattle.program.proofs.words.push_code.Given as goal

abbrev pub invariant-loop-i : goal.invariant-loop-i
invariant-loop-i l = l.words.items ≡ l.initial.words.items ++ row_t (map instruction (take l.i-index l.code))
