-- The moves from this node on are written.
use Rattle.graph.proofs.Tracing.{Filled}
use Rattle.graph.proofs.walks.fill_path.Given as goal

abbrev pub invariant-loop-at : goal.invariant-loop-at
invariant-loop-at g l =
    Filled (g.R.Rule.can l.rule) (g.R.Rule.next l.rule) l.moves l.from l.to l.len l.initial.path l.at l.node l.path
