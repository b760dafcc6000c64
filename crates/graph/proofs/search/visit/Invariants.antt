-- The edges of the moves so far.
use Rattle.graph.specs.Walks.{Leads}
use Rattle.graph.specs.Search.{Grown}
use Rattle.graph.proofs.search.visit.Given as goal

abbrev pub invariant-loop-m : goal.invariant-loop-m
invariant-loop-m g l = Grown (Leads (g.R.Rule.next l.rule) l.m l.node) l.node l.initial.cost l.initial.from l.cost l.from
