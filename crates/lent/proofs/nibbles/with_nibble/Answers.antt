use Rattle.std.proofs.Common.{ap, ◌∙◌, arith}
use Rattle.lent.specs.Nibbles.{nibbles}
use Rattle.lent.proofs.Fields.{shifted_in, nibbles_poked, poked_below}
use Rattle.lent.proofs.nibbles.with_nibble.Goals as goal

pub returns : goal.returns
returns c =
    let n = c.args.n in
    let at = c.args.at in
    let v = c.args.v in
    let e = shifted_in at n v c.requires.place c.requires.value (omega arith) in
    record {
      after = λ k h. ap (nibbles k) e ∙ nibbles_poked at k n v c.requires.value h;
      below = λ k h b. let l = poked_below at k n v c.requires.value h b in omega arith;
    }
