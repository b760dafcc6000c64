use Rattle.std.proofs.Common.{refl}
use Rattle.lent.specs.Hash.{stir}
use Rattle.lent.proofs.hash.stirred.Goals as goal

pub returns : goal.returns
unfolding stir
returns c = refl
