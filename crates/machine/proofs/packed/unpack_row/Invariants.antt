-- The first k stores are read.
use Rattle.std.proofs.Common.{◌≡◌, length}
use Rattle.machine.specs.Stores.{row, AllSmall}
use Rattle.machine.specs.Packed.{pairs}
use Rattle.machine.proofs.packed.unpack_row.Given as goal

abbrev pub invariant-loop-k : goal.invariant-loop-k
invariant-loop-k l = (length l.items ≡ 8) × AllSmall l.items × (row l.items 0 l.k ≡ pairs l.k l.values l.places)
