use Rattle.std.proofs.Common.{◌+◌, arith, rules}
use Rattle.std.proofs.lemmas.List.{length-set}
use Rattle.machine.proofs.RowLaws.{row_pushed, small_set}
use Rattle.machine.proofs.rows.Row.pushed.Goals as goal

pub invariant_of-result : goal.invariant_of-result
invariant_of-result c =
    let q = c.args.self.now in
    let l = length-set q.items (q.begin + q.len) c.args.s in
    let e = q.eight in
    record { eight = omega arith; room = omega arith; small = small_set q.items (q.begin + q.len) c.args.s c.requires.place c.requires.value q.small }

pub returns : goal.returns
returns c =
    let q = c.args.self.now in
    let e = q.eight in
    record { more = row_pushed q.items q.begin q.len c.args.s (omega arith); begin = search rules; len = search rules }
