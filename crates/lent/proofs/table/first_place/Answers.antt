use Rattle.std.proofs.Common.{◌-◌, ◌/◌, ◌^◌, ap, arith}
use Rattle.lent.specs.Table.{home}
use Rattle.lent.proofs.Mixing.{high_below}
use Rattle.lent.proofs.table.first_place.Goals as goal

pub returns : goal.returns
unfolding home
returns c =
    record {
      value = ap (λ h. h / 2 ^ (64 - c.args.shape.bits)) c.hash.ensures;
      below = high_below c.hash.result c.args.shape.bits c.hash.type_inv (omega arith);
    }
