use lib.Bits.{and_le_l}
use Rattle.std.proofs.Common.{arith}
use Rattle.hitting.proofs.Steps.{leading_small, greatest_fill}
use Rattle.hitting.proofs.candidates.greatest_within.Goals as goal

pub overflow_sub-highest : goal.overflow_sub-highest
overflow_sub-highest c = and_le_l c.args.from c.args.among

pub overflow_sub-highest-2 : goal.overflow_sub-highest-2
overflow_sub-highest-2 c = leading_small c.args.from c.args.among (omega arith) c.if-inside-from.false

pub returns : goal.returns
returns c = greatest_fill c.args.from c.args.among (omega arith) c.if-inside-from.false
