use Rattle.hitting.proofs.Theorems.{theorems}
use Rattle.hitting.proofs.theorems_hold.Goals as goal

pub returns : goal.returns
returns c = theorems
