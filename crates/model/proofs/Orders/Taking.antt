-- The two moves that take an event out of what is to come: a load takes its read, which passes the thread's row, and a
-- store that goes to memory is the first event of the row.
use mathlib.Core.Path.{◌≡◌, refl, sym, ◌∙◌, ap}
use mathlib.Core.List.{List, [], ◌∷◌, ◌++◌}
use mathlib.Core.Option.{some}
use Prim.Native.Nat.{ℕ}
use Rattle.model.specs.Code.{nth, put, loads, Thread, Prog}
use Rattle.model.specs.Machine.{At, done}
use Rattle.model.specs.Orders.{Ev, Alone, with_ev}
use Rattle.model.proofs.Orders.Events.{within}
use Rattle.model.proofs.Orders.Going.{waits_of, Took, upd}
use Rattle.model.proofs.Orders.Rows.{rest, read_ev, head_or, tail_of, row_less, load_rest}
use Rattle.model.proofs.Orders.States.{code, code_here, stand_is, row_here, future, events, Pending, pending_put, regs_put, events_here, events_there}

module _ (p : Prog) (as₁ : List At) (ws : ℕ → List Ev) (pend : Pending p as₁ ws) (n : ℕ) (a : At) (stands : nth as₁ n ≡ some a) where
  -- thread n reads v at place x into register r; it would read vs n, and then will read ys n
  module _ (r x v : ℕ) (next_i : nth (code p n) a.pc ≡ some (loads r x)) (vs ys : ℕ → List ℕ) (takes : head_or (vs n) ≡ v) (leaves : tail_of (vs n) ≡ ys n) (keeps : (k : ℕ) → (n ≡ k → ⊥) → ys k ≡ vs k) where
    abbrev pub loaded : At
    loaded = done a (put a.regs r v) a.waits

    load_here : rest n (code p n) a (vs n) ≡ with_ev (read_ev n a x v) (rest n (code p n) loaded (ys n))
    load_here = load_rest n (code p n) a r x (vs n) next_i ∙ (ap (λ (z : ℕ). with_ev (read_ev n a x z) (rest n (code p n) (done a (put a.regs r z) a.waits) (tail_of (vs n)))) takes ∙ ap (λ (z : List ℕ). with_ev (read_ev n a x v) (rest n (code p n) loaded z)) leaves)

    pub load_regs : (k : ℕ) → (future p (put as₁ n loaded) ys k).regs ≡ (future p as₁ vs k).regs
    load_regs = regs_put as₁ n a loaded stands p vs ys keeps (sym (ap (λ (y : Alone). y.regs) load_here))

    pub load_evs : (future p as₁ vs n).evs ≡ read_ev n a x v ∷ (rest n (code p n) loaded (ys n)).evs
    load_evs = ap (λ (z : At). (rest n (code p n) z (vs n)).evs) (stand_is as₁ n stands) ∙ ap (λ (z : Alone). z.evs) load_here

    abbrev pub load_took : Took p (events p as₁ ws vs) (read_ev n a x v) (events p (put as₁ n loaded) (upd ws n (ws n)) ys)
    load_took = record {
      n = n;
      t = code p n;
      code = code_here p n a.pc next_i;
      older = ws n;
      newer = (rest n (code p n) loaded (ys n)).evs;
      was = ap (λ (z : List Ev). ws n ++ z) load_evs;
      is = events_here as₁ n a loaded stands p vs ys keeps ws (ws n);
      others = events_there as₁ n a loaded stands p vs ys keeps ws (ws n);
      over = λ e i. let (w, l, f) = (row_here p as₁ ws pend n a stands).held e i in (w, refl, f);
    }

  -- the oldest store of thread n, the event e, goes to memory
  module _ (t : Thread) (has : nth p n ≡ some t) (e : Ev) (us : List Ev) (oldest : ws n ≡ e ∷ us) (vs : ℕ → List ℕ) where
    abbrev pub freed : At
    freed = record { pc = a.pc; regs = a.regs; waits = waits_of us }

    pub out_pending : Pending p (put as₁ n freed) (upd ws n us)
    out_pending = pending_put as₁ n a freed stands p ws us pend (row_less n (code p n) a (ws n) (row_here p as₁ ws pend n a stands) e us oldest)

    pub out_regs : (k : ℕ) → (future p (put as₁ n freed) vs k).regs ≡ (future p as₁ vs k).regs
    out_regs = regs_put as₁ n a freed stands p vs vs (λ j d. refl) refl

    pub out_evs : (future p as₁ vs n).evs ≡ (rest n (code p n) freed (vs n)).evs
    out_evs = ap (λ (z : At). (rest n (code p n) z (vs n)).evs) (stand_is as₁ n stands)

    abbrev pub out_took : Took p (events p as₁ ws vs) e (events p (put as₁ n freed) (upd ws n us) vs)
    out_took = record {
      n = n;
      t = t;
      code = has;
      older = [];
      newer = us ++ (rest n (code p n) freed (vs n)).evs;
      was = ap (λ (z : List Ev). z ++ (future p as₁ vs n).evs) oldest ∙ ap (λ (z : List Ev). e ∷ (us ++ z)) out_evs;
      is = events_here as₁ n a freed stands p vs vs (λ j d. refl) ws us;
      others = events_there as₁ n a freed stands p vs vs (λ j d. refl) ws us;
      over = λ x i. absurd (within i);
    }
