-- A thread run on quietly: it does its instructions until it is at its end, at a load, or at a fence while something
-- of its row waits. What is to come stays the same, so at each of these the thread's next event shows its next move.
-- And where nothing is to come, all threads run on so to their ends.
use mathlib.Core.Path.{◌≡◌, refl, sym, ◌∙◌, ap, subst}
use mathlib.Core.Logic.{◌⊎◌, inl, inr}
use mathlib.Core.Bool.{true, false}
use mathlib.Core.List.{List, [], ◌∷◌, ◌++◌}
use mathlib.Core.Option.{Option, some, none}
use Prim.Native.Nat.{ℕ, zero, suc, ◌+◌, ◌≤◌}
use native.Mathlib.Omega.{arith}
use lib.ListN.{length}
use Rattle.model.specs.Code.{nth, I, sets, adds, loads, stores, fence, Thread, Prog}
use Rattle.model.specs.Machine.{At, St, Move, next, does, done, with_thread, move, moves, all_done}
use Rattle.model.specs.Orders.{Ev, Alone, writes_in}
use Rattle.model.proofs.Tools.{nil_cons, same_or, opt_is, does_pc, Next, of_next, moves_then, at_done, past_nth, nth_below, below_nth, nth_put_same}
use Rattle.model.proofs.Orders.Going.{waits_of, Took, upd}
use Rattle.model.proofs.Orders.Rows.{row_after, is_load, Row, load_rest, end_rest}
use Rattle.model.proofs.Orders.States.{code, code_is, code_here, row_here, Stopped, absent, stand, stand_is, stand_there, future, events, Pending, step_pending, step_events, step_regs}
use Rattle.model.proofs.Orders.FromRuns.{Same, same_from}

-- a thread that can't run on quietly
abbrev pub Rests : Thread → At → List Ev → Type 0
Rests t a ws = (a.pc ≡ length t) ⊎ (((r : ℕ) × (x : ℕ) × (nth t a.pc ≡ some (loads r x))) ⊎ ((nth t a.pc ≡ some fence) × ((w : Ev) × (us : List Ev) × (ws ≡ w ∷ us))))

-- an instruction that is no load can be done
abbrev RunsOn : List ℕ → Thread → At → Type 0
RunsOn m t a = (i : I) × (b : At) × (nth t a.pc ≡ some i) × (does m a i ≡ some b) × (is_load i ≡ false)

rests_or : (m : List ℕ) (t : Thread) (a : At) (ws : List Ev) → Row t a ws → Rests t a ws ⊎ RunsOn m t a
rests_or m t a ws row = go (nth t a.pc) refl
  where
    at_fence : (us : List Ev) → ws ≡ us → nth t a.pc ≡ some fence → Rests t a ws ⊎ RunsOn m t a
    at_fence [] z q = inr (fence, done a a.regs a.waits, q, rw (row.line ∙ ap waits_of z), refl)
    at_fence (u ∷ us) z q = inl (inr (inr (q, (u, us, z))))

    go : (o : Option I) → nth t a.pc ≡ o → Rests t a ws ⊎ RunsOn m t a
    go none q = let h = past_nth t a.pc q in let l = row.inside in inl (inl (omega arith))
    go (some (sets r c)) q = inr (sets r c, _, q, refl, refl)
    go (some (adds r x y)) q = inr (adds r x y, _, q, refl, refl)
    go (some (loads r x)) q = inl (inr (inl (r, x, q)))
    go (some (stores x r)) q = inr (stores x r, _, q, refl, refl)
    go (some fence) q = at_fence ws refl q

-- a quiet run of thread n, from s to where it rests
pub record Settled (p : Prog) (vs : ℕ → List ℕ) (s : St) (ws : ℕ → List Ev) (n : ℕ) : Type 0 where
  pub to : St
  pub rows : ℕ → List Ev
  pub ms : List Move
  pub run : moves p s ms ≡ some to
  pub mem : to.mem ≡ s.mem
  pub pend : Pending p to.threads rows
  pub evs : (k : ℕ) → events p to.threads rows vs k ≡ events p s.threads ws vs k
  pub regs : (k : ℕ) → (future p to.threads vs k).regs ≡ (future p s.threads vs k).regs
  pub others : (k : ℕ) → (n ≡ k → ⊥) → stand to.threads k ≡ stand s.threads k
  pub rests : Rests (code p n) (stand to.threads n) (rows n)

module _ (p : Prog) (vs : ℕ → List ℕ) (n : ℕ) where
  stays : (s : St) (ws : ℕ → List Ev) → Pending p s.threads ws → Rests (code p n) (stand s.threads n) (ws n) → Settled p vs s ws n
  stays s ws pend r = record { to = s; rows = ws; ms = []; run = refl; mem = refl; pend = pend; evs = λ k. refl; regs = λ k. refl; others = λ k d. refl; rests = r }

  one_more : (s : St) (ws : ℕ → List Ev) → Pending p s.threads ws → (a b : At) (i : I) → nth s.threads n ≡ some a → nth (code p n) a.pc ≡ some i → does s.mem a i ≡ some b → is_load i ≡ false → Settled p vs (with_thread s n b) (upd ws n (row_after n a i (ws n))) n → Settled p vs s ws n
  one_more s ws pend a b i stands q e c z =
      let x : Next p s n (with_thread s n b) = record { was = a; stands = stands; code = code p n; of = code_here p n a.pc q; i = i; at = q; now = b; did = e; gives = refl } in
      record {
        to = z.to;
        rows = z.rows;
        ms = next n ∷ z.ms;
        run = opt_is (move p s (next n)) none (λ t. moves p t z.ms) (of_next p s n (with_thread s n b) x) ∙ z.run;
        mem = z.mem;
        pend = z.pend;
        evs = λ k. z.evs k ∙ step_events p s.mem s.threads ws pend n a b i stands q e vs c k;
        regs = λ k. z.regs k ∙ step_regs p s.mem s.threads ws pend n a b i stands q e vs c k;
        others = λ k d. z.others k d ∙ stand_there s.threads n a b stands k d;
        rests = z.rests;
      }

  pub settle : (j : ℕ) (s : St) (ws : ℕ → List Ev) → Pending p s.threads ws → (a : At) → nth s.threads n ≡ some a → length (code p n) ≤ a.pc + j → Settled p vs s ws n
  settle zero s ws pend a stands l =
      let h = (row_here p s.threads ws pend n a stands).inside in
      stays s ws pend (subst (λ (z : At). Rests (code p n) z (ws n)) (sym (stand_is s.threads n stands)) (inl (omega arith)))
  settle (suc j) s ws pend a stands l = elim (rests_or s.mem (code p n) a (ws n) (row_here p s.threads ws pend n a stands)) [
    | inl r ↦ stays s ws pend (subst (λ (z : At). Rests (code p n) z (ws n)) (sym (stand_is s.threads n stands)) r)
    | inr (i, b, q, e, c) ↦
        let h = does_pc s.mem a b i e in
        one_more s ws pend a b i stands q e c (settle j (with_thread s n b) (upd ws n (row_after n a i (ws n))) (step_pending p s.mem s.threads ws pend n a b i stands q e) b (nth_put_same s.threads n b stands) (omega arith))
  ]

-- a run from s to the end that gives what the order es gives, if the threads read vs
pub record Runs (p : Prog) (s : St) (vs : ℕ → List ℕ) (es : List Ev) : Type 0 where
  pub ms : List Move
  pub to : St
  pub run : moves p s ms ≡ some to
  pub ended : all_done p to.threads ≡ true
  pub same : Same p s to vs es

pub settled_runs : (p : Prog) (vs : ℕ → List ℕ) (s : St) (ws : ℕ → List Ev) (n : ℕ) (es : List Ev) (z : Settled p vs s ws n) → Runs p z.to vs es → Runs p s vs es
settled_runs p vs s ws n es z r = record {
  ms = z.ms ++ r.ms;
  to = r.to;
  run = moves_then p s z.to r.to z.ms r.ms z.run r.run;
  ended = r.ended;
  same = same_from p s z.to r.to vs vs es es z.regs (ap (writes_in es) z.mem) r.same;
}

-- what is to come can still be taken, or is still nothing
module _ (p : Prog) (vs : ℕ → List ℕ) (s : St) (ws : ℕ → List Ev) (n : ℕ) (z : Settled p vs s ws n) where
  abbrev pub settled_took : (e : Ev) (B : ℕ → List Ev) → Took p (events p s.threads ws vs) e B → Took p (events p z.to.threads z.rows vs) e B
  settled_took e B st = record { n = st.n; t = st.t; code = st.code; older = st.older; newer = st.newer; was = z.evs st.n ∙ st.was; is = st.is; others = λ k d. st.others k d ∙ sym (z.evs k); over = st.over }

  settled_none : ((k : ℕ) → events p s.threads ws vs k ≡ []) → (k : ℕ) → events p z.to.threads z.rows vs k ≡ []
  settled_none h k = z.evs k ∙ h k

-- a join that is empty
both_nil : {A : Type 0} (xs ys : List A) → xs ++ ys ≡ [] → (xs ≡ []) × (ys ≡ [])
both_nil [] ys q = (refl, q)
both_nil (x ∷ xs) ys q = absurd (nil_cons (sym q))

-- a thread that rests with nothing to come has stopped
stopped : (p : Prog) (as₁ : List At) (ws : ℕ → List Ev) (vs : ℕ → List ℕ) → Pending p as₁ ws → (n : ℕ) → events p as₁ ws vs n ≡ [] → Rests (code p n) (stand as₁ n) (ws n) → Stopped p as₁ n
stopped p as₁ ws vs pend n h r =
    let (no_row, no-rest) = both_nil (ws n) _ h in
    elim r [
      | inl q ↦ (q, (pend.rows n).line ∙ ap waits_of no_row)
      | inr (inl (x, y, q)) ↦ absurd (nil_cons (sym no-rest ∙ ap (λ (z : Alone). z.evs) (load_rest n (code p n) (stand as₁ n) x y (vs n) q)))
      | inr (inr (q, (w, us, z))) ↦ absurd (nil_cons (sym no_row ∙ z))
    ]

all_stopped : (p : Prog) (s : St) (ws : ℕ → List Ev) (vs : ℕ → List ℕ) → Pending p s.threads ws → ((n : ℕ) → Stopped p s.threads n) → Runs p s vs []
all_stopped p s ws vs pend f = record {
  ms = [];
  to = s;
  run = refl;
  ended = at_done p s.threads (λ n c q.
      let below = nth_below p n q in
      let many = pend.many in
      let (a, h) = below_nth s.threads n (omega arith) in
      let (x, y) = f n in
      let z = stand_is s.threads n h in
      (a, h, (ap (λ (b : At). b.pc) (sym z) ∙ (x ∙ ap length (code_is p n q)), ap (λ (b : At). b.waits) (sym z) ∙ y)));
  same = record {
    regs = λ n. sym (ap (λ (z : Alone). z.regs) (end_rest n (code p n) (stand s.threads n) (vs n) (f n).0));
    mem = refl;
    many = pend.many;
  };
}

-- thread after thread, from the last to the first: those from j on have stopped
finish : (p : Prog) (vs : ℕ → List ℕ) (j : ℕ) (s : St) (ws : ℕ → List Ev) → Pending p s.threads ws → ((n : ℕ) → events p s.threads ws vs n ≡ []) → j ≤ length p → ((n : ℕ) → j ≤ n → Stopped p s.threads n) → Runs p s vs []
finish p vs zero s ws pend h l f = all_stopped p s ws vs pend (λ n. f n (omega arith))
finish p vs (suc j) s ws pend h l f =
    let many = pend.many in
    let (a, stands) = below_nth s.threads j (omega arith) in
    let z = settle p vs j (length (code p j)) s ws pend a stands (omega arith) in
    let nothing = settled_none p vs s ws j z h in
    let here = stopped p z.to.threads z.rows vs z.pend j (nothing j) z.rests in
    settled_runs p vs s ws j [] z (finish p vs j z.to z.rows z.pend nothing (omega arith) (λ n k. elim (same_or j n) [
      | inl q ↦ subst (λ (i : ℕ). Stopped p z.to.threads i) q here
      | inr d ↦ subst (λ (b : At). (b.pc ≡ length (code p n)) × (b.waits ≡ [])) (sym (z.others n d)) (f n (omega arith))
    ]))

pub run_to_end : (p : Prog) (vs : ℕ → List ℕ) (s : St) (ws : ℕ → List Ev) → Pending p s.threads ws → ((n : ℕ) → events p s.threads ws vs n ≡ []) → Runs p s vs []
run_to_end p vs s ws pend h = finish p vs (length p) s ws pend h (omega arith) (absent p s.threads ws pend)
