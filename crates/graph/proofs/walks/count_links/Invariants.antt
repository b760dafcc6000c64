-- The links so far, and that some are left.
use Rattle.graph.proofs.Tracing.{Counted}
use Rattle.graph.proofs.walks.count_links.Given as goal

abbrev pub invariant-back : goal.invariant-back
invariant-back l = Counted l.from l.to l.len l.node

abbrev pub decreases-back : goal.decreases-back
decreases-back l = l.node
