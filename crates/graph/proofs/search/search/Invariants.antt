-- The nodes before this one are done.
use Rattle.graph.proofs.Passing.{Passed}
use Rattle.graph.proofs.search.search.Given as goal

abbrev pub invariant-loop-node : goal.invariant-loop-node
invariant-loop-node g l =
    Passed (g.R.Rule.next l.rule) l.moves l.n l.node l.initial.cost l.initial.from l.cost l.from
