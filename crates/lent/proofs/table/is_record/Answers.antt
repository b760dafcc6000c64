use Rattle.std.proofs.Common.{sym, ◌∙◌}
use Rattle.std.proofs.lemmas.Slice.Eq.{slice_eq-Decides}
use Rattle.lent.proofs.RecordLaws.{rec_part}
use Rattle.lent.proofs.table.is_record.Goals as goal
use Rattle.std.proofs.lemmas.Bool.Decides.{Decides-eqb}

pub returns : goal.returns
returns c =
    let part = rec_part c.args.queue.now c.args.shape.width c.args.i in
    let test = slice_eq-Decides Decides-eqb _ _ _ c.eq.ensures in
    (λ yes. sym part ∙ test.0 yes, λ same. test.1 (part ∙ same))
