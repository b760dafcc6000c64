use Rattle.std.proofs.Common.{arith}
use Rattle.graph.proofs.Tracing.{traced_links, traced_long}
use Rattle.graph.proofs.walks.walk_back.Goals as goal

pub count_links-len-requires : goal.count_links-len-requires
count_links-len-requires g c =
    traced_links (g.R.Rule.can c.args.rule.now) (g.R.Rule.next c.args.rule.now) c.args.moves c.args.from.now c.args.to c.requires.traced

pub returns-then-len-path : goal.returns-then-len-path
returns-then-len-path g c =
    traced_long (g.R.Rule.can c.args.rule.now) (g.R.Rule.next c.args.rule.now) c.args.moves c.args.from.now c.args.to
    c.count_links-len.result c.args.path.now c.requires.traced c.count_links-len.ensures (omega arith)
