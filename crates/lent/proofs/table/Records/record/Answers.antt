use Rattle.lent.proofs.RecordLaws.{rec_part}
use Rattle.lent.proofs.table.Records.record.Goals as goal

pub returns : goal.returns
returns c = rec_part c.args.self.now.queue.now c.args.self.now.shape.width c.args.i
