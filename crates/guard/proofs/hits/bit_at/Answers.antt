use Rattle.std.proofs.Common.{◌<◌, sym, ◌∙◌, arith}
use Rattle.std.proofs.lemmas.Nat.{one_shl}
use Rattle.guard.specs.Masks.{place}
use Rattle.guard.proofs.MaskLaws.{bit_of_is, bit_of_past}
use Rattle.guard.proofs.hits.bit_at.Goals as goal

pub returns-then-pc-ge8 : goal.returns-then-pc-ge8
returns-then-pc-ge8 c = sym (bit_of_past c.args.thread c.args.pc (omega arith))

pub returns : goal.returns
returns c =
    let h : place c.args.thread c.args.pc < 32 = omega arith in
    one_shl (place c.args.thread c.args.pc) 32 h ∙ sym (bit_of_is c.args.thread c.args.pc (omega arith) (omega arith))
