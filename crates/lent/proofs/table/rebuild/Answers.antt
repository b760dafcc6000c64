use Rattle.std.proofs.Common.{arith}
use Rattle.lent.proofs.RecordLaws.{more_words, ends_within}
use Rattle.lent.proofs.table.rebuild.Goals as goal

pub enter-requires : goal.enter-requires
enter-requires c =
    record {
      probed = c.loop-i.invariant.0;
      room = omega arith;
      told = omega arith;
      ends = omega (arith, more_words c.loop-i.i c.args.shape.width, ends_within c.args.shape.width c.args.n c.loop-i.i c.loop-i-test.true);
    }
