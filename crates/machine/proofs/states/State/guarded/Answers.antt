use Rattle.std.proofs.Common.{arith}
use Rattle.program.specs.Meaning.{program}
use Rattle.machine.proofs.HeldState.{held}
use Rattle.machine.proofs.MoveLaws.{room, missing, guarded_missing}
use Rattle.machine.proofs.states.State.guarded.Goals as goal

pub returns-then-n-count : goal.returns-then-n-count
returns-then-n-count c s k =
    let st = c.args.self.now in
    let v = c.count.ensures.value in
    guarded_missing (λ _ _. c.args.guard) (program st.p.now) s c.args.n (missing (program st.p.now) st.words.now s c.args.n (held _ _ st.held) k (omega arith))

pub nothing_waits-requires : goal.nothing_waits-requires
nothing_waits-requires c =
    let st = c.args.self.now in
    let v = c.count.ensures.value in
    let r = room (program st.p.now) st.words.now c.args.n (held _ _ st.held) (omega arith) in
    omega arith
