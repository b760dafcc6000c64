use Rattle.std.proofs.Common.{ℕ, List, sym, subst}
use Rattle.machine.specs.Packed.{Packs}
use Rattle.replay.proofs.StateWords.{value_past, value_is}
use Rattle.replay.proofs.runs.Run.value.Goals as goal

pub returns-then-at-threads : goal.returns-then-at-threads
returns-then-at-threads c s k =
    value_past c.count-threads.result c.args.at c.write_outcome.new.out s c.write_outcome.auto.out c.count-threads.ensures.few c.if-at-threads.true
    (c.write_outcome.ensures.written s (subst (λ (ws : List ℕ). Packs ws s) (sym c.state.ensures.words) k))

pub returns : goal.returns
returns c s k =
    value_is c.count-threads.result c.args.at c.write_outcome.new.out s c.if-at-threads.false
    (c.write_outcome.ensures.written s (subst (λ (ws : List ℕ). Packs ws s) (sym c.state.ensures.words) k))
