use Rattle.std.proofs.Common.{ℕ, List, sym, ◌∙◌, subst, arith}
use Rattle.lent.specs.Nibbles.{nibbles}
use Rattle.model.specs.Code.{put}
use Rattle.model.specs.Machine.{At}
use Rattle.model.proofs.Tools.{nth_below}
use Rattle.program.specs.Meaning.{program}
use Rattle.machine.specs.Stores.{wait}
use Rattle.machine.specs.Meaning.{at, waits}
use Rattle.machine.specs.Packed.{Packs}
use Rattle.machine.proofs.HeldState.{held}
use Rattle.machine.proofs.MoveLaws.{some_words, put_room, put_held, out_packs, same_first, out_some, length_put}
use Rattle.machine.proofs.states.State.out.Goals as goal

pub put_thread-requires : goal.put_thread-requires
put_thread-requires c =
    let ws = c.args.self.now.words.now in
    let (s, k, l) = held _ _ c.args.self.now.held in
    let b = nth_below s.threads c.args.n (c.in-Some.ensures s k) in
    record {
      room = put_room ws _ s c.args.n k b (c.copy_from_slice.ensures.len ∙ c.requires);
      held = put_held ws _ s c.args.n k b c.copy_from_slice.ensures.after;
    }

pub bounds-self-0 : goal.bounds-self-0
bounds-self-0 c = some_words _ _ (held _ _ c.args.self.now.held)

pub bounds-to-0 : goal.bounds-to-0
bounds-to-0 c = let w = some_words _ _ (held _ _ c.args.self.now.held) in let l = c.put_thread.auto.state in let k = c.copy_from_slice.ensures.len in let r = c.requires in omega arith

pub returns : goal.returns
returns c s h =
    let t = c.in-Some.thread in
    let a = at t in
    let o = c.oldest-oldest.result in
    let (us, e) = c.oldest-oldest.ensures.first in
    let (w, f) = c.rest.ensures.first in
    let first = same_first (wait o) w (waits t.row) us (waits c.rest.result) e f in
    let b : At = record { pc = t.pc; regs = nibbles 4 t.regs; waits = waits c.rest.result } in
    let place = c.oldest-oldest.ensures.place in (
      record { mem = put s.mem o.place.0 o.value; threads = put s.threads c.args.n b },
      out_some (program c.args.self.now.p.now) s c.args.n a (wait o) (waits c.rest.result) (c.in-Some.ensures s h) first,
      out_packs c.args.self.now.words.now c.put_thread.new.state s c.args.n b o.place.0 o.value c.with_nibble.result h
          (c.put_thread.ensures s (subst (λ (w : List ℕ). Packs w s) (sym c.copy_from_slice.ensures.after) h))
          c.with_nibble.type_inv
          (c.with_nibble.ensures.after 8 place),
      length_put s.threads c.args.n b,
    )
