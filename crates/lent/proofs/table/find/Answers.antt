use Rattle.std.proofs.Common.{arith}
use Rattle.std.proofs.lemmas.Bool.{both_ways}
use Rattle.lent.proofs.Probing.{looked_more, looked_known, looked_free, told_words}
use Rattle.lent.proofs.table.find.Goals as goal

pub is_record-requires : goal.is_record-requires
is_record-requires c =
    told_words c.args.shape c.args.queue.now c.args.table.now c.args.n c.probe.at c.requires.probed (omega arith) (omega arith)

pub probe-preserved : goal.probe-preserved
probe-preserved c =
    looked_more c.args.shape c.args.queue.now c.args.table.now c.args.n c.args.key.now c.probe.at c.requires.probed c.requires.room c.probe.invariant (omega arith)
    (λ same. both_ways c.is_record.result c.if-is_record.false (c.is_record.ensures.1 same))

pub returns-then-entry-eq0 : goal.returns-then-entry-eq0
returns-then-entry-eq0 c =
    looked_free c.args.shape c.args.queue.now c.args.table.now c.args.n c.args.key.now c.probe.at c.requires.probed c.requires.room c.probe.invariant c.if-entry-eq0.true

pub returns-then-is_record : goal.returns-then-is_record
returns-then-is_record c =
    looked_known c.args.shape c.args.queue.now c.args.table.now c.args.n c.args.key.now c.probe.at c.requires.probed c.requires.room c.probe.invariant (omega arith)
    (c.is_record.ensures.0 c.if-is_record.true)
