use Rattle.std.proofs.Common.{◌^◌, ◌<◌, ap, ◌∙◌, arith}
use Rattle.model.specs.Machine.{done}
use Rattle.machine.specs.Meaning.{at}
use Rattle.machine.proofs.Did.{field_written}
use Rattle.machine.proofs.threads.ThreadState.with_register.Goals as goal

pub done-requires-clause-four : goal.done-requires-clause-four
done-requires-clause-four c =
    let f = c.args.self.now.four in
    let b : c.with_nibble.result < 16 ^ 4 = c.with_nibble.ensures.below 4 c.requires.register (omega arith) in
    omega arith

pub returns : goal.returns
returns c =
    let t = c.args.self.now in
    c.done.ensures
    ∙ ap (λ rs. done (at t) rs (at t).waits) (field_written 4 t.regs c.with_nibble.result c.args.r.0 c.args.value (c.with_nibble.ensures.after 4 c.requires.register))
