-- The bits of the first k instructions.
use Rattle.std.proofs.Common.{◌≡◌, ◌*◌}
use Rattle.hitting.specs.Spots.{mask_of}
use Rattle.spots.specs.Masks.{row}
use Rattle.spots.proofs.row_of.Given as goal

abbrev pub invariant-loop-k : goal.invariant-loop-k
invariant-loop-k l = l.bits ≡ mask_of (row (8 * l.n) l.k)
