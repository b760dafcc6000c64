use mathlib.Core.Path.{refl}
use Rattle.model.proofs.theorems_hold.Goals as goal
use Rattle.model.proofs.Theorems.{theorems}

pub returns : goal.returns
returns c = (refl, theorems)
