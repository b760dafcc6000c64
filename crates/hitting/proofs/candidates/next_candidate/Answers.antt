use Rattle.std.proofs.Common.{arith}
use Rattle.hitting.proofs.Steps.{some_bit, down_lowered}
use Rattle.hitting.proofs.candidates.next_candidate.Goals as goal

pub without_lowest-x-requires : goal.without_lowest-x-requires
without_lowest-x-requires c = some_bit c.args.bits c.down.x (omega arith)

pub down-preserved-then-x-bits : goal.down-preserved-then-x-bits
down-preserved-then-x-bits c =
    down_lowered c.args.clauses.now c.args.among c.args.bits c.args.from c.down.x c.without_lowest-x.result c.down.invariant (omega arith) c.without_lowest-x.ensures
