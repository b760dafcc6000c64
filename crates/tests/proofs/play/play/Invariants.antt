-- The state is one of the program, and none of the two loses words.
use Rattle.std.proofs.Common.{◌≡◌, ◌+◌, ◌*◌, length}
use Rattle.program.specs.Meaning.{program}
use Rattle.machine.specs.Post.{Holds}
use Rattle.tests.proofs.play.play.Given as goal

abbrev pub invariant-loop-i : goal.invariant-loop-i
invariant-loop-i l = Holds (program l.p) l.state × (length l.state ≡ 1 + 3 * length (program l.p)) × (length l.spare ≡ 1 + 3 * length (program l.p))
