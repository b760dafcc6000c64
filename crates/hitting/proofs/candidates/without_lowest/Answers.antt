use Rattle.hitting.proofs.Steps.{lowered}
use Rattle.hitting.proofs.candidates.without_lowest.Goals as goal

pub returns : goal.returns
returns c = lowered c.args.x c.requires
