use Rattle.std.proofs.Common.{refl}
use Rattle.lent.specs.Hash.{spread}
use Rattle.lent.proofs.hash.spread_out.Goals as goal

pub returns : goal.returns
unfolding spread
returns c = refl
