use Rattle.std.proofs.Common.{◌+◌, ◌-◌, ◌*◌, arith}
use Rattle.std.proofs.lemmas.Nat.{one_shl}
use Rattle.spots.proofs.Adding.{mask_row_more, row_small}
use Rattle.spots.proofs.row_of.Goals as goal

pub overflow_add-bits-in-loop-k : goal.overflow_add-bits-in-loop-k
overflow_add-bits-in-loop-k c =
    let s = 8 * c.args.n in
    let k = c.loop-k.k in
    omega (arith, one_shl (31 - (s + k)) 32 (omega arith), mask_row_more s k, row_small s (k + 1) (omega arith))

pub loop-k-preserved : goal.loop-k-preserved
loop-k-preserved c =
    let s = 8 * c.args.n in
    let k = c.loop-k.k in
    omega (arith, one_shl (31 - (s + k)) 32 (omega arith), mask_row_more s k)
