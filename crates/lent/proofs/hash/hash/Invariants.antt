-- What is left of the key, stirred into the hash so far, gives the hash of the whole key.
use Rattle.std.proofs.Common.{◌≡◌, length}
use Rattle.lent.specs.Hash.{hash_of, hash_from}
use Rattle.lent.proofs.hash.hash.Given as goal

abbrev pub invariant-loop-rest : goal.invariant-loop-rest
invariant-loop-rest l = hash_from l.h l.rest ≡ hash_of l.key

abbrev pub decreases-loop-rest : goal.decreases-loop-rest
decreases-loop-rest l = length l.rest
