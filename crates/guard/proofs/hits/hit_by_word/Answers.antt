use Rattle.std.proofs.Common.{◌/◌, ◌%◌, sym, ap, ◌∙◌, arith}
use Rattle.std.proofs.lemmas.Nat.{and_mask}
use Rattle.guard.specs.Masks.{bit_of}
use Rattle.guard.proofs.HitWords.{some_wait}
use Rattle.guard.proofs.hits.hit_by_word.Goals as goal

pub returns : goal.returns
returns c =
    c.bit_at.ensures
    ∙ ap (bit_of c.args.thread) (and_mask (c.args.word / 65536) 4)
    ∙ sym (some_wait c.args.thread (c.args.word / 65536 % 16) (c.args.word / 1048576) (omega arith))
