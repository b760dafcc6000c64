use Rattle.std.proofs.Common.{◌+◌, ◌*◌, ◌/◌, get_or, ◌∙◌}
use Rattle.std.proofs.lemmas.Nat.{and_mask}
use Rattle.machine.proofs.FirstWord.{word_says}
use Rattle.machine.proofs.standing.pc.Goals as goal

pub returns : goal.returns
returns c s a h e = and_mask (get_or c.args.state.now (1 + 3 * c.args.n) 0 / 65536) 4 ∙ (word_says c.args.state.now s c.args.n a h e).0
