use Rattle.program.proofs.WriteWords.{instruction_added}
use Rattle.program.proofs.words.push_code.Goals as goal

pub loop-i-preserved : goal.loop-i-preserved
loop-i-preserved c =
    instruction_added _ _ _ _ c.args.code.now c.loop-i.i-index _ c.loop-i-test.true c.loop-i.invariant c.in_ok-extend_from_slice.ensures.items c.instruction_to_words.ensures
