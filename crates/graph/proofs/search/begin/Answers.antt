use Rattle.std.proofs.Common.{arith}
use Rattle.graph.proofs.Passing.{begun}
use Rattle.graph.proofs.search.begin.Goals as goal

pub returns : goal.returns
returns c =
    begun c.args.n _ c.args.cost.now c.fill.new.self (omega arith) c.requires.some c.requires.room (c.fill.ensures.after (λ y e. e))
