-- The bits of the first n threads.
use Rattle.std.proofs.Common.{◌≡◌, map, take}
use Rattle.hitting.specs.Spots.{mask_of}
use Rattle.program.specs.Meaning.{thread}
use Rattle.spots.specs.Masks.{rows}
use Rattle.spots.proofs.every_spot.Given as goal

abbrev pub invariant-loop-n : goal.invariant-loop-n
invariant-loop-n l = l.bits ≡ mask_of (rows 0 (map thread (take l.n l.t-items)))
