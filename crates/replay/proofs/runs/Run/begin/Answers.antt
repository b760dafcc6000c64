use Rattle.std.proofs.Common.{[], refl}
use Rattle.program.specs.Meaning.{program}
use Rattle.program.proofs.WriteWords.{few_threads}
use Rattle.replay.proofs.RunLaws.{begins}
use Rattle.replay.proofs.runs.Run.begin.Goals as goal

pub invariant_of-result : goal.invariant_of-result
invariant_of-result c =
    let p = c.args.p in
    record { long = refl; reached = ∣ ([], begins (program p) (few_threads p)) ∣₁ }

pub returns : goal.returns
returns c =
    let p = c.args.p in
    record { program = refl; begins = begins (program p) (few_threads p) }
