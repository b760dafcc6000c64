use Rattle.std.proofs.Common.{arith}
use Rattle.graph.proofs.Tracing.{filled_some, filled_more, filled_all, traced_leads, traced_may}
use Rattle.graph.proofs.walks.fill_path.Goals as goal

pub find_move-requires : goal.find_move-requires
find_move-requires g c =
    let can = g.R.Rule.can c.args.rule.now in
    let next = g.R.Rule.next c.args.rule.now in
    let traced = c.loop-at.invariant.traced in
    let some =
    filled_some can next c.args.moves c.args.from.now c.args.to c.args.len c.args.path.now c.loop-at.at c.loop-at.node c.loop-at.path
    c.loop-at-test.true c.loop-at.invariant in
    record {
      may = traced_may can next c.args.moves c.args.from.now c.loop-at.node some traced;
      leads = traced_leads can next c.args.moves c.args.from.now c.loop-at.node some traced;
    }

pub loop-at-preserved : goal.loop-at-preserved
loop-at-preserved g c =
    filled_more (g.R.Rule.can c.args.rule.now) (g.R.Rule.next c.args.rule.now) c.args.moves c.args.from.now c.args.to c.args.len
    c.args.path.now c.loop-at.at _ c.loop-at.node c.loop-at.path c.find_move.result (omega arith)
    (let l = c.loop-at.invariant.long in omega arith) c.find_move.ensures.below c.find_move.ensures.leads c.loop-at.invariant

pub returns : goal.returns
returns g c =
    filled_all (g.R.Rule.can c.args.rule.now) (g.R.Rule.next c.args.rule.now) c.args.moves c.args.from.now c.args.to c.args.len
    c.args.path.now c.loop-at.at c.loop-at.node c.loop-at.path (omega arith) (omega arith) c.loop-at.invariant
