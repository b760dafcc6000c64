use Rattle.std.proofs.Common.{◌∙◌, arith}
use Rattle.graph.proofs.Growing.{steps_of}
use Rattle.graph.proofs.Passing.{passed_none, passed_more, passed_all, drop_behind}
use Rattle.graph.proofs.search.search.Goals as goal

pub visit-requires : goal.visit-requires
visit-requires g c =
    record {
      within = omega arith;
      steps =
          steps_of (g.R.Rule.can c.args.rule.now) (g.R.Rule.next c.args.rule.now) c.args.moves c.args.n c.loop-node.node
          c.loop-node.cost c.loop-node.from c.requires.ahead (omega arith) (omega arith) (omega arith);
    }

pub loop-node-init : goal.loop-node-init
loop-node-init g c =
    passed_none (g.R.Rule.next c.args.rule.now) c.args.moves c.args.n c.args.cost.now c.begin.new.cost c.args.from.now c.begin.ensures

pub loop-node-preserved : goal.loop-node-preserved
loop-node-preserved g c =
    passed_more (g.R.Rule.can c.args.rule.now) (g.R.Rule.next c.args.rule.now) c.args.moves c.args.n c.requires.ahead c.loop-node.node
    c.begin.new.cost c.args.from.now c.loop-node.cost c.loop-node.from c.visit.new.cost c.visit.new.from
    (omega arith) c.loop-node.invariant c.visit.ensures

pub returns : goal.returns
returns g c =
    record {
      searched =
          passed_all (g.R.Rule.can c.args.rule.now) (g.R.Rule.next c.args.rule.now) c.args.moves c.args.n c.requires.ahead c.loop-node.node
          c.begin.new.cost c.args.from.now c.loop-node.cost c.loop-node.from c.requires.some (omega arith) (omega arith) c.loop-node.invariant;
      cost_behind = drop_behind c.args.n c.begin.new.cost c.loop-node.cost (omega arith) c.loop-node.invariant.cost_behind ∙ c.begin.ensures.behind;
      from_behind = drop_behind c.args.n c.args.from.now c.loop-node.from (omega arith) c.loop-node.invariant.from_behind;
    }
