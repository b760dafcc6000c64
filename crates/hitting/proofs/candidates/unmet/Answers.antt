use Rattle.std.proofs.Common.{arith}
use Rattle.hitting.proofs.Steps.{too_few}
use Rattle.hitting.proofs.candidates.unmet.Goals as goal

pub returns-then-x-bits : goal.returns-then-x-bits
returns-then-x-bits c =
    too_few c.args.clauses.now c.args.among c.args.bits c.args.x c.requires.within (omega arith)
