use Rattle.lent.proofs.Probing.{written}
use Rattle.lent.proofs.table.Records.insert.Goals as goal

pub returns-clause-inserted : goal.returns-clause-inserted
returns-clause-inserted c =
    let r = c.args.self.now in
    written r.shape r.queue.now r.table.now r.n c.args.key.now c.args.place c.copy_from_slice.new.self c.requires.probed c.requires.room c.requires.ends c.requires.whole c.requires.free c.copy_from_slice.ensures.after
