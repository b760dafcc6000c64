use Rattle.std.proofs.Common.{◌≡◌, suc, ◌<◌, sym, arith}
use Rattle.graph.proofs.Growing.{grown_none, leads_more, leads_same, leads_all}
use Rattle.graph.proofs.search.visit.Goals as goal
use Rattle.graph.proofs.search.visit.Goals.{in-Some, in_default}

pub relax-requires : goal.relax-requires
relax-requires g c =
    let s = c.requires.steps in
    let h : c.loop-m.m < c.args.moves = omega arith in
    let e : g.R.Rule.next c.args.rule.now c.args.node c.loop-m.m ≡ suc c.in-Some.edge.target = sym c.in-Some.ensures in
    record { come = omega arith; ahead = s.up _ _ h e; in_cost = let l = s.in_cost _ _ h e in omega arith; in_from = let l = s.in_from _ _ h e in omega arith }

pub loop-m-init : goal.loop-m-init
loop-m-init g c =
    grown_none _ c.args.node c.args.cost.now c.args.from.now (λ k e. let h = e.1 in omega arith)

pub loop-m-preserved : goal.loop-m-preserved
loop-m-preserved g c =
    let next = g.R.Rule.next c.args.rule.now in
    let m = c.loop-m.m in
    elim c.match-edge.branch [
      | in-Some w ↦
          rw (w.cost-is, w.from-is)
          (leads_more next m c.args.node c.args.cost.now c.args.from.now c.loop-m.cost c.loop-m.from w.relax.new.cost w.relax.new.from w.in-Some.edge.target
          w.in-Some.ensures c.loop-m.invariant w.relax.ensures)
      | in_default w ↦
          rw (w.cost-is, w.from-is)
          (leads_same next m c.args.node c.args.cost.now c.args.from.now c.loop-m.cost c.loop-m.from w.in_default.ensures c.loop-m.invariant)
    ]

pub returns : goal.returns
returns g c =
    leads_all (g.R.Rule.next c.args.rule.now) c.args.moves c.loop-m.m c.args.node c.args.cost.now c.args.from.now
    c.loop-m.cost c.loop-m.from (omega arith) (omega arith) c.loop-m.invariant
