use Rattle.std.proofs.Common.{ℕ, true, List, sym, refl, subst}
use Rattle.model.specs.Machine.{St, next, out, move}
use Rattle.program.specs.Instructions.{instruction}
use Rattle.program.specs.Meaning.{program}
use Rattle.machine.specs.Post.{Holds, Stepped}
use Rattle.machine.proofs.FirstWord.{few_words}
use Rattle.machine.proofs.HeldState.{held}
use Rattle.machine.proofs.MoveLaws.{stepped_holds}
use Rattle.machine.proofs.StepLaws.{once_none, once_done, once_stored}
use Rattle.machine.proofs.states.State.at_once.Goals as goal

pub returns-in_default : goal.returns-in_default
returns-in_default c s k = once_none (program c.args.self.now.p.now) s c.args.n (c.in_default.ensures s k)

pub returns-then-not-is_store : goal.returns-then-not-is_store
returns-then-not-is_store c =
    once_done (program c.args.self.now.p.now) c.args.n (instruction c.in-Some.i) c.args.self.now.words.now c.next.new.to
    c.in-Some.ensures
    (sym c.if-not-is_store.ensures)
    c.if-not-next.ensures

pub slice_bounds-words-end : goal.slice_bounds-words-end
slice_bounds-words-end c = few_words c.args.self.now.p.now c.args.self.now.words.now (held _ _ c.args.self.now.held)

pub invariant_of-stored : goal.invariant_of-stored
invariant_of-stored c =
    let st = c.args.self.now in
    let p = program st.p.now in
    record { held = ∣ subst (Holds p) (sym c.copy_from_slice.ensures.after) (stepped_holds p _ st.words.now c.next.new.to true (held _ _ st.held) c.if-not-next.ensures refl) ∣₁ }

pub returns : goal.returns
returns c =
    let p = program c.args.self.now.p.now in
    let n = c.args.n in
    once_stored p n (instruction c.in-Some.i) c.args.self.now.words.now c.next.new.to c.out.new.to c.out.result
    c.in-Some.ensures
    (sym c.if-not-is_store.ensures)
    c.if-not-next.ensures
    (subst (λ (ws : List ℕ). Stepped (λ (s : St). move p s (out n)) ws c.out.result c.out.new.to) c.copy_from_slice.ensures.after c.out.ensures)
