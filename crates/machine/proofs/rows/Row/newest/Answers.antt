use Rattle.std.proofs.Common.{map, ap, ◌∙◌}
use Rattle.std.proofs.lemmas.List.{take_all}
use Rattle.model.specs.Machine.{newest}
use Rattle.machine.specs.Stores.{wait}
use Rattle.machine.proofs.RowLaws.{newest_more}
use Rattle.machine.proofs.rows.Row.newest.Goals as goal

pub loop-s-preserved : goal.loop-s-preserved
loop-s-preserved c = c.over-value.ensures ∙ newest_more c.stores-s-items.result.now c.loop-s.s-index _ c.args.place.0 c.args.memory c.loop-s.value c.loop-s-test.true c.loop-s.invariant

pub returns : goal.returns
returns c =
    c.loop-s.invariant
    ∙ ap (λ ss. newest (map wait ss) c.args.place.0 c.args.memory) (take_all c.loop-s.s-index c.stores-s-items.result.now c.loop-s-test.false)
    ∙ ap (λ ws. newest ws c.args.place.0 c.args.memory) c.stores-s-items.ensures.are
