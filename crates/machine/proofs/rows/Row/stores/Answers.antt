use Rattle.machine.proofs.RowLaws.{small_part}
use Rattle.machine.proofs.rows.Row.stores.Goals as goal

pub returns-clause-small : goal.returns-clause-small
returns-clause-small c = let q = c.args.self.now in small_part q.items q.begin _ q.small
