-- Every candidate up to `from` lies within what is left, up to `x`.
use Rattle.hitting.proofs.Steps.{Down}
use Rattle.hitting.proofs.candidates.next_candidate.Given as goal

abbrev pub invariant-down : goal.invariant-down
invariant-down l = Down l.clauses l.among l.bits l.from l.x

abbrev pub decreases-down : goal.decreases-down
decreases-down l = l.x
