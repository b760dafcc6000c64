-- From events taken one after the other to a run of the machine. The thread of the next event runs on quietly until it
-- rests; then the event is its next move: the oldest store of its row goes out, or it does the load that it stands at.
use mathlib.Core.Path.{◌≡◌, refl, sym, ◌∙◌, ap, subst}
use mathlib.Core.Logic.{◌⊎◌, inl, inr}
use mathlib.Core.Bool.{Bool, true, false}
use mathlib.Core.List.{List, [], ◌∷◌, ◌++◌, append-nil}
use mathlib.Core.Option.{some, none}
use Prim.Native.Nat.{ℕ, suc}
use native.Mathlib.Omega.{arith}
use lib.ListN.{length, drop}
use Rattle.model.specs.Code.{pick, nth, put, loads, fence, Thread, Prog}
use Rattle.model.specs.Machine.{Wait, At, St, Move, next, out, does, at_mem, newest, done, with_thread, move, moves}
use Rattle.model.specs.Orders.{Ev, Alone, In, first, writes_in}
use Rattle.model.proofs.Tools.{false_true, same_or, opt_is, Next, of_next, Out, of_out, rest_of, gone, nth_below, below_nth}
use Rattle.model.proofs.Orders.Events.{within, in_left, in_right}
use Rattle.model.proofs.Orders.Going.{wait, waits_of, Gives, after, Took, Goes, upd, upd_here, upd_there}
use Rattle.model.proofs.Orders.Rows.{rest, read_ev, head_or, tail_of, Row, alone_fits, load_rest, fence_rest, end_rest}
use Rattle.model.proofs.Orders.States.{code, code_is, code_here, row_here, stand, stand_is, future, events, goes_same, Pending, step_pending}
use Rattle.model.proofs.Orders.Taking.{load_evs, load_took, load_regs, out_evs, out_pending, out_took, out_regs}
use Rattle.model.proofs.Orders.FromRuns.{same_from}
use Rattle.model.proofs.Orders.Settling.{Rests, settle, Runs, settled_runs, settled_took, run_to_end}

-- two joins of lists that are equal: e stands in the first part of the one, or in its second
abbrev Cut : List Ev → List Ev → List Ev → Ev → List Ev → Type 0
Cut rs fs xs e ys = ((us : List Ev) × (rs ≡ xs ++ (e ∷ us)) × (ys ≡ us ++ fs)) ⊎ ((us : List Ev) × (xs ≡ rs ++ us) × (fs ≡ us ++ (e ∷ ys)))

cut : (rs fs xs : List Ev) (e : Ev) (ys : List Ev) → rs ++ fs ≡ xs ++ (e ∷ ys) → Cut rs fs xs e ys
cut [] fs xs e ys q = inr (xs, refl, q)
cut (r ∷ rs) fs [] e ys q = inl (rs, cc, cc)
cut (r ∷ rs) fs (x ∷ xs) e ys q =
    let z : r ≡ x = cc in
    elim (cut rs fs xs e ys (cc)) [
      | inl (us, a, b) ↦ inl (us, cc, b)
      | inr (us, a, b) ↦ inr (us, cc, b)
    ]

cons_is : {A : Type 0} {x y : A} {xs ys : List A} → x ∷ xs ≡ y ∷ ys → (x ≡ y) × (xs ≡ ys)
cons_is q = (cc, cc)

-- what is left after an event is taken goes by the thread and by what stood on either side of the event
took_same : (p : Prog) (A : ℕ → List Ev) (e f : Ev) (B C : ℕ → List Ev) (st : Took p A e B) (su : Took p A f C) → st.n ≡ su.n → st.older ++ st.newer ≡ su.older ++ su.newer → (k : ℕ) → B k ≡ C k
took_same p A e f B C st su n q k = elim (same_or st.n k) [
  | inl z ↦ ap B (sym z) ∙ (st.is ∙ (q ∙ (sym su.is ∙ ap C (sym n ∙ z))))
  | inr d ↦ st.others k d ∙ sym (su.others k (λ z. d (n ∙ z)))
]

-- the next event e, and what is known of the rest: that it has a run from wherever e leads (go_on)
module _ (p : Prog) (es : List Ev) (s : St) (ws : ℕ → List Ev) (vs : ℕ → List ℕ) (pend : Pending p s.threads ws) (e : Ev) (B : ℕ → List Ev) (st : Took p (events p s.threads ws vs) e B) (gives : e.write ≡ false → Gives s.mem st.older e) (g : Goes p (after s.mem e) B es)
    (go_on : (t : St) (us : ℕ → List Ev) (ys : ℕ → List ℕ) → Pending p t.threads us → Goes p t.mem (events p t.threads us ys) es → Runs p t ys es) (a : At) (stands : nth s.threads st.n ≡ some a) where
  row : Row (code p st.n) a (ws st.n)
  row = row_here p s.threads ws pend st.n a stands

  -- a run from where one move leads
  run_more : (m : Move) (t : St) (ys : ℕ → List ℕ) → move p s m ≡ some t → ((k : ℕ) → (future p t.threads ys k).regs ≡ (future p s.threads vs k).regs) → t.mem ≡ after s.mem e → Runs p t ys es → Runs p s vs (e ∷ es)
  run_more m t ys q h z r = record {
    ms = m ∷ r.ms;
    to = r.to;
    run = opt_is (move p s m) none (λ u. moves p u r.ms) q ∙ r.run;
    ended = r.ended;
    same = same_from p s t r.to vs ys es (e ∷ es) h (ap (writes_in es) z) r.same;
  }

  -- the event is the oldest of the row
  take_out : (us : List Ev) → ws st.n ≡ e ∷ us → st.older ≡ [] → st.newer ≡ us ++ (future p s.threads vs st.n).evs → Runs p s vs (e ∷ es)
  take_out us q z y =
      let n = st.n in
      let w : e.write ≡ true = (row.held e (subst (λ (x : List Ev). In e x) (sym q) first)).0 in
      let to_memory : put s.mem e.place e.val ≡ after s.mem e = sym (ap (λ (x : Bool). pick x (put s.mem e.place e.val) s.mem) w) in
      let b = rest_of a (waits_of us) in
      let t = gone s n (wait e) b in
      let x : Out s n t = record { was = a; stands = stands; w = wait e; ws = waits_of us; line = row.line ∙ ap waits_of q; gives = refl } in
      let left = took_same p (events p s.threads ws vs) e e B _ st (out_took p s.threads ws pend n a stands st.t st.code e us q vs) refl (ap (λ (l : List Ev). l ++ st.newer) z ∙ (y ∙ ap (λ (l : List Ev). us ++ l) (out_evs p s.threads ws pend n a stands st.t st.code e us q vs))) in
      run_more (out n) t vs (of_out p s n t x) (out_regs p s.threads ws pend n a stands st.t st.code e us q vs) to_memory
      (go_on t (upd ws n us) vs (out_pending p s.threads ws pend n a stands st.t st.code e us q vs)
      (subst (λ (m : List ℕ). Goes p m (events p (put s.threads n b) (upd ws n us) vs) es) (sym to_memory) (goes_same p (after s.mem e) B _ es left g)))

  -- the event is the read of the load that the thread stands at
  take_load : (r x : ℕ) → nth (code p st.n) a.pc ≡ some (loads r x) → st.older ≡ ws st.n → (future p s.threads vs st.n).evs ≡ e ∷ st.newer → Runs p s vs (e ∷ es)
  take_load r x q z y =
      let n = st.n in
      let v = head_or (vs n) in
      let ys = upd vs n (tail_of (vs n)) in
      let leaves = sym (upd_here vs n (tail_of (vs n))) in
      let keeps = upd_there vs n (tail_of (vs n)) in
      let b = done a (put a.regs r v) a.waits in
      let (is_read, newer) = cons_is (sym y ∙ (load_evs p s.threads ws pend n a stands r x v q vs ys refl leaves keeps)) in
      let w : e.write ≡ false = ap (λ (f : Ev). f.write) is_read in
      let reads : v ≡ newest (waits_of st.older) x (at_mem s.mem x) = subst (λ (f : Ev). Gives s.mem st.older f) is_read (gives w) in
      let reads_row : newest a.waits x (at_mem s.mem x) ≡ v = ap (λ (l : List Wait). newest l x (at_mem s.mem x)) (row.line ∙ ap waits_of (sym z)) ∙ sym reads in
      let did : does s.mem a (loads r x) ≡ some b = ap (λ (u : ℕ). some (done a (put a.regs r u) a.waits)) reads_row in
      let in_memory : s.mem ≡ after s.mem e = sym (ap (λ (u : Bool). pick u (put s.mem e.place e.val) s.mem) w) in
      let t = with_thread s n b in
      let m : Next p s n t = record { was = a; stands = stands; code = code p n; of = code_here p n a.pc q; i = loads r x; at = q; now = b; did = did; gives = refl } in
      let left = took_same p (events p s.threads ws vs) e (read_ev n a x v) B _ st (load_took p s.threads ws pend n a stands r x v q vs ys refl leaves keeps) refl (ap (λ (l : List Ev). l ++ st.newer) z ∙ ap (λ (l : List Ev). ws n ++ l) newer) in
      run_more (next n) t ys (of_next p s n t m) (load_regs p s.threads ws pend n a stands r x v q vs ys refl leaves keeps) in_memory
      (go_on t (upd ws n (ws n)) ys (step_pending p s.mem s.threads ws pend n a b (loads r x) stands q did)
      (subst (λ (l : List ℕ). Goes p l (events p (put s.threads n b) (upd ws n (ws n)) ys) es) (sym in_memory) (goes_same p (after s.mem e) B _ es left g)))

  -- what the event's thread has still to do
  abbrev fut : List Ev
  fut = (future p s.threads vs st.n).evs

  -- a write passes nothing
  none_older : (l : List Ev) → st.older ≡ l → e.write ≡ true → st.older ≡ []
  none_older [] q w = q
  none_older (x ∷ xs) q w = absurd (false_true (sym (st.over x (subst (λ (l : List Ev). In x l) (sym q) first)).1 ∙ w))

  -- in the row it is the oldest
  in_row : (us : List Ev) → ws st.n ≡ st.older ++ (e ∷ us) → st.newer ≡ us ++ fut → Runs p s vs (e ∷ es)
  in_row us q y =
      let w = (row.held e (subst (λ (l : List Ev). In e l) (sym q) (in_right st.older first))).0 in
      let z = none_older st.older refl w in
      take_out us (q ∙ ap (λ (l : List Ev). l ++ (e ∷ us)) z) z y

  in_fut : (us : List Ev) → fut ≡ us ++ (e ∷ st.newer) → In e fut
  in_fut us y = subst (λ (l : List Ev). In e l) (sym y) (in_right us first)

  fut_is : (c : Alone) → rest st.n (code p st.n) a (vs st.n) ≡ c → fut ≡ c.evs
  fut_is c q = ap (λ (b : At). (rest st.n (code p st.n) b (vs st.n)).evs) (stand_is s.threads st.n stands) ∙ ap (λ (l : Alone). l.evs) q

  -- no event may pass the read of a load
  at_load : (r x : ℕ) → nth (code p st.n) a.pc ≡ some (loads r x) → (us : List Ev) → st.older ≡ ws st.n ++ us → fut ≡ us ++ (e ∷ st.newer) → Runs p s vs (e ∷ es)
  at_load r x q [] z y = take_load r x q (z ∙ append-nil (ws st.n)) y
  at_load r x q (u ∷ us) z y =
      let (read, others) = cons_is (sym y ∙ fut_is _ (load_rest st.n (code p st.n) a r x (vs st.n) q)) in
      let w = (st.over u (subst (λ (l : List Ev). In u l) (sym z) (in_right (ws st.n) first))).0 in
      absurd (false_true (sym (ap (λ (f : Ev). f.write) read) ∙ w))

  -- none may pass a store with a fence between
  at_fence : nth (code p st.n) a.pc ≡ some fence → (w : Ev) (ts : List Ev) → ws st.n ≡ w ∷ ts → (us : List Ev) → st.older ≡ ws st.n ++ us → fut ≡ us ++ (e ∷ st.newer) → ⊥
  at_fence q w ts h us z y =
      let n = st.n in
      let i = subst (λ (l : List Ev). In w l) (sym h) first in
      let (x, less, open_row) = row.held w i in
      let (x, passes, no-fence) = st.over w (subst (λ (l : List Ev). In w l) (sym z) (in_left us i)) in
      let j = subst (λ (l : List Ev). In e l) (fut_is _ (fence_rest n (code p n) a (vs n) q)) (in_fut us y) in
      let (x, more-than, fits) = alone_fits n (suc a.pc) (drop (suc a.pc) (code p n)) a.regs (vs n) e j in
      no-fence (a.pc, less, more-than, ap (λ (c : Thread). nth c a.pc) (sym (code_is p n st.code)) ∙ q)

  -- behind the row it is the read of a load
  in_future : Rests (code p st.n) a (ws st.n) → (us : List Ev) → st.older ≡ ws st.n ++ us → fut ≡ us ++ (e ∷ st.newer) → Runs p s vs (e ∷ es)
  in_future (inl q) us z y = absurd (within (subst (λ (l : List Ev). In e l) (fut_is _ (end_rest st.n (code p st.n) a (vs st.n) q)) (in_fut us y)))
  in_future (inr (inl (r, x, q))) us z y = at_load r x q us z y
  in_future (inr (inr (q, (w, ts, h)))) us z y = absurd (at_fence q w ts h us z y)

  -- one of the two it is, where the thread rests
  take_event : Rests (code p st.n) (stand s.threads st.n) (ws st.n) → Runs p s vs (e ∷ es)
  take_event r = elim (cut (ws st.n) fut st.older e st.newer st.was) [
    | inl (us, q, y) ↦ in_row us q y
    | inr (us, q, y) ↦ in_future (subst (λ (b : At). Rests (code p st.n) b (ws st.n)) (stand_is s.threads st.n stands) r) us q y
  ]

-- every order has a run
pub to_run : (p : Prog) (es : List Ev) (s : St) (ws : ℕ → List Ev) (vs : ℕ → List ℕ) → Pending p s.threads ws → Goes p s.mem (events p s.threads ws vs) es → Runs p s vs es
to_run p [] s ws vs pend g = run_to_end p vs s ws pend g
to_run p (e ∷ es) s ws vs pend (B, st, gives, g) =
    let n = st.n in
    let below = nth_below p n st.code in
    let many = pend.many in
    let (a, stands) = below_nth s.threads n (omega arith) in
    let z = settle p vs n (length (code p n)) s ws pend a stands (omega arith) in
    let many_to = z.pend.many in
    let (b, at_rest) = below_nth z.to.threads n (omega arith) in
    let gives_to : e.write ≡ false → Gives z.to.mem st.older e = λ w. subst (λ (m : List ℕ). Gives m st.older e) (sym z.mem) (gives w) in
    let GoesTo = subst (λ (m : List ℕ). Goes p (after m e) B es) (sym z.mem) g in
    let r = take_event p es z.to z.rows vs z.pend e B (settled_took p vs s ws n z e B st) gives_to GoesTo (λ t us ys. to_run p es t us ys) b at_rest z.rests in
    settled_runs p vs s ws n (e ∷ es) z r
