use Rattle.std.proofs.Common.{suc, length, arith}
use Rattle.report.proofs.Written.{fields_none, field_more, fields_all}
use Rattle.report.proofs.outcomes.write_fields.Goals as goal

pub loop-f-init : goal.loop-f-init
loop-f-init c = fields_none c.args.out.now c.args.word

pub loop-f-preserved : goal.loop-f-preserved
loop-f-preserved c =
    let f = c.loop-f.f in
    field_more c.loop-f.out f c.args.word c.nibble.result (omega arith) c.loop-f.invariant (c.nibble.ensures.value (suc f) (omega arith))

pub returns : goal.returns
returns c = fields_all c.loop-f.out c.loop-f.f (length c.args.out.now) c.args.word (omega arith) (omega arith) c.loop-f.invariant
