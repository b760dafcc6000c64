use Rattle.std.proofs.Common.{◌∙◌, ◌≤◌, length, refl, arith}
use Rattle.lent.specs.Hash.{hash_of}
use Rattle.lent.proofs.Mixing.{hash_more}
use Rattle.lent.proofs.hash.hash.Goals as goal

pub loop-rest-init : goal.loop-rest-init
unfolding hash_of
loop-rest-init c = refl

pub loop-rest-preserved : goal.loop-rest-preserved
loop-rest-preserved c =
    let two : 2 ≤ length c.loop-rest.rest.now = omega arith in
    hash_more c.loop-rest.rest.now c.loop-rest.h c.stirred-h.result two c.stirred-h.ensures ∙ c.loop-rest.invariant
