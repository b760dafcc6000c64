use Rattle.std.proofs.Common.{eqb, ap, ◌∙◌}
use Rattle.machine.proofs.FirstWord.{word_says, none_waits}
use Rattle.machine.proofs.standing.nothing_waits.Goals as goal

pub returns : goal.returns
returns c s a h e = ap (λ n. eqb n 0) (word_says c.args.state.now s c.args.n a h e).1 ∙ none_waits a.waits
