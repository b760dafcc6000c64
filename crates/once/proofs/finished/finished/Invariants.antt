-- The threads before n are at their end, and nothing of them waits.
use Rattle.program.specs.Meaning.{program}
use Rattle.once.proofs.Ended.{DoneBefore}
use Rattle.once.proofs.finished.finished.Given as goal

abbrev pub invariant-loop-n : goal.invariant-loop-n
invariant-loop-n l = DoneBefore (program l.p) l.state l.n
