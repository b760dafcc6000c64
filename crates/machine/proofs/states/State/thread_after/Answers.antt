use Rattle.std.proofs.Common.{ℕ, List, subst}
use Rattle.program.specs.Meaning.{program}
use Rattle.program.specs.Instructions.{instruction}
use Rattle.machine.specs.Meaning.{at}
use Rattle.machine.specs.Post.{Did}
use Rattle.machine.proofs.HeldState.{held}
use Rattle.machine.proofs.MoveLaws.{memory_is, some_words, after_is}
use Rattle.machine.proofs.states.State.thread_after.Goals as goal

pub bounds-self-0 : goal.bounds-self-0
bounds-self-0 c = some_words _ _ (held _ _ c.args.self.now.held)

pub returns : goal.returns
returns c s k =
    let st = c.args.self.now in
    let a = at c.in_ok-thread.thread in
    let i = instruction c.in_ok-i.i in
    after_is (program st.p.now) s c.args.n a i c.does.result (c.in_ok-thread.ensures s k) c.in_ok-i.ensures.0
    (subst (λ (m : List ℕ). Did m a i c.does.result) (memory_is st.words.now s k) c.does.ensures)
