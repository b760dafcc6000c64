use Rattle.std.proofs.Common.{ap, ◌∙◌}
use Rattle.lent.specs.Table.{home}
use Rattle.lent.proofs.RecordLaws.{rec_part}
use Rattle.lent.proofs.Probing.{some_free, entered_here}
use Rattle.lent.proofs.table.enter.Goals as goal

pub free_place-at-requires : goal.free_place-at-requires
free_place-at-requires c =
    some_free c.args.shape c.args.queue.now c.args.table.now c.args.n c.first_place-from.result c.requires.probed c.requires.room c.first_place-from.ensures.below

pub returns : goal.returns
returns c =
    let s = c.args.shape in
    let q = c.args.queue.now in
    let from_is = c.first_place-from.ensures.value ∙ ap (home s) (rec_part q s.width c.args.n) in
    let r = entered_here s q c.args.table.now c.args.n c.first_place-from.result c.free_place-at.result c.requires.probed c.requires.room c.requires.ends from_is c.first_place-from.ensures.below c.free_place-at.ensures in
    record { probed = r.0; rest = r.1 }
