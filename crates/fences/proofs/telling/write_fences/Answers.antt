use Rattle.std.proofs.Common.{arith}
use Rattle.fences.proofs.TellLaws.{spot_more, spot_room, all_written}
use Rattle.fences.proofs.telling.write_fences.Goals as goal

pub write_spot-end-requires : goal.write_spot-end-requires
write_spot-end-requires c =
    let r = spot_room c.args.fences c.loop-s.s c.args.out.now c.loop-s.out c.args.at c.loop-s.end c.loop-s.invariant in
    record { below = omega arith; room = omega arith }

pub loop-s-preserved : goal.loop-s-preserved
loop-s-preserved c =
    spot_more c.args.fences c.loop-s.s c.args.out.now c.loop-s.out c.write_spot-end.new.out c.args.at c.loop-s.end c.write_spot-end.result c.loop-s.invariant c.write_spot-end.ensures

pub returns : goal.returns
returns c =
    let w = all_written c.args.fences c.loop-s.s c.args.out.now c.loop-s.out c.args.at c.loop-s.end (omega arith) (omega arith) c.loop-s.invariant in
    record { count = w.count; few = w.few; written = w.written; behind = w.behind }
