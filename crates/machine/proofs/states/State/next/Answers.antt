use Rattle.std.proofs.Common.{ℕ, List, sym, ◌∙◌, subst}
use Rattle.model.specs.Machine.{with_thread}
use Rattle.machine.specs.Meaning.{at}
use Rattle.machine.specs.Packed.{Packs}
use Rattle.machine.proofs.HeldState.{held}
use Rattle.machine.proofs.MoveLaws.{put_room, put_held, length_put}
use Rattle.machine.proofs.states.State.next.Goals as goal

pub put_thread-requires : goal.put_thread-requires
put_thread-requires c =
    let ws = c.args.self.now.words.now in
    let (s, k, l) = held _ _ c.args.self.now.held in
    let b = (c.in-Some.ensures s k).0 in
    record {
      room = put_room ws _ s c.args.n k b (c.copy_from_slice.ensures.len ∙ c.requires);
      held = put_held ws _ s c.args.n k b c.copy_from_slice.ensures.after;
    }

pub returns : goal.returns
returns c s h =
    let b = at c.in-Some.done in (
      with_thread s c.args.n b,
      (c.in-Some.ensures s h).1,
      c.put_thread.ensures s (subst (λ (w : List ℕ). Packs w s) (sym c.copy_from_slice.ensures.after) h),
      length_put s.threads c.args.n b,
    )
