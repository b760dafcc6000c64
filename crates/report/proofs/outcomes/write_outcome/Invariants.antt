-- Once, and the registers of the first n threads, are written.
use Rattle.report.proofs.Written.{Written}
use Rattle.report.proofs.outcomes.write_outcome.Given as goal

abbrev pub invariant-loop-n : goal.invariant-loop-n
invariant-loop-n l = Written l.row l.state l.once l.n
