use Rattle.std.proofs.Common.{get_or, arith}
use Rattle.machine.specs.declared.stores.Store.{Store}
use Rattle.machine.specs.Stores.{wait}
use Rattle.machine.proofs.RowLaws.{row_popped}
use Rattle.machine.proofs.rows.Row.rest.Goals as goal

-- any store, where the array has none
unused : Store
unused = record { place = record { 0 = 0 }; value = 0 }

pub returns : goal.returns
returns c =
    let q = c.args.self.now in
    let e = q.eight in
    let r = q.room in
    let h = c.requires in
    record { first = (wait (get_or q.items q.begin unused), row_popped q.items q.begin q.len unused h (omega arith)); end = omega arith }
