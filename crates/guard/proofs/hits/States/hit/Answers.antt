use Rattle.std.proofs.Common.{sym, ◌∙◌, arith}
use Rattle.guard.proofs.HitWords.{hit_next, hit_out}
use Rattle.guard.proofs.hits.States.hit.Goals as goal

pub returns-then-by-self : goal.returns-then-by-self
returns-then-by-self c = sym (hit_out c.args.self.now.threads c.args.self.now.queue.now c.args.node c.args.by (omega arith))

pub returns : goal.returns
returns c =
    c.hit_by_word.ensures
    ∙ sym (hit_next c.args.self.now.threads c.args.self.now.queue.now c.args.node c.args.by (omega arith) c.requires.words)
