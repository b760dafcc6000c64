use Rattle.std.proofs.Common.{◌+◌, ◌-◌, arith}
use Rattle.machine.specs.Stores.{row}
use Rattle.machine.proofs.RowLaws.{row_popped}
use Rattle.machine.proofs.rows.Row.oldest.Goals as goal

pub returns : goal.returns
returns c =
    let q = c.args.self.now in
    let e = q.eight in
    let r = q.room in
    let h = c.requires in
    let s = q.small q.begin _ (omega arith) in
    record {
      first = (row q.items (q.begin + 1) (q.len - 1), row_popped q.items q.begin q.len _ h (omega arith));
      place = s.0;
      value = s.1;
    }
