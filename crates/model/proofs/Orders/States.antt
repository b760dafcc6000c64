-- All threads of a state: what is to come of each, as functions from the threads' numbers, and what it is after one of
-- the threads has changed.
use mathlib.Core.Path.{◌≡◌, refl, sym, ◌∙◌, ap, subst, fun_ext}
use mathlib.Core.Logic.{inl, inr}
use mathlib.Core.Bool.{false}
use mathlib.Core.List.{List, [], ◌++◌}
use mathlib.Core.Option.{Option, some, none}
use Prim.Native.Nat.{ℕ, ◌≤◌}
use native.Mathlib.Omega.{arith}
use lib.ListN.{length}
use Rattle.model.specs.Code.{opt, nth, put, I, Thread, Prog}
use Rattle.model.specs.Machine.{At, does}
use Rattle.model.specs.Orders.{Ev, Alone}
use Rattle.model.proofs.Tools.{none_some, same_or, opt_is, nth_put_same, nth_put_other, length_put, nth_past, fresh}
use Rattle.model.proofs.Orders.Going.{Goes, upd, upd_here, upd_there}
use Rattle.model.proofs.Orders.Rows.{rest, row_after, is_load, Row, row_step, Quiet, quiet}

-- thread n's code and how it stands; nothing to do, and as every thread begins, where there is no thread n
abbrev pub code : Prog → ℕ → Thread
code p n = opt (nth p n) [] (λ t. t)

abbrev pub stand : List At → ℕ → At
stand as₁ n = opt (nth as₁ n) fresh (λ a. a)

-- what is to come of thread n, which will read vs n; and with its row before it, its events
abbrev pub future : Prog → List At → (ℕ → List ℕ) → ℕ → Alone
future p as₁ vs n = rest n (code p n) (stand as₁ n) (vs n)

abbrev pub events : Prog → List At → (ℕ → List Ev) → (ℕ → List ℕ) → ℕ → List Ev
events p as₁ ws vs n = ws n ++ (future p as₁ vs n).evs

-- the events ws are the threads' rows
pub record Pending (p : Prog) (as₁ : List At) (ws : ℕ → List Ev) : Type 0 where
  pub many : length as₁ ≡ length p
  pub rows : (n : ℕ) → Row (code p n) (stand as₁ n) (ws n)

pub code_is : (p : Prog) (n : ℕ) {t : Thread} → nth p n ≡ some t → code p n ≡ t
code_is p n q = opt_is (nth p n) [] (λ t. t) q

pub stand_is : (as₁ : List At) (n : ℕ) {a : At} → nth as₁ n ≡ some a → stand as₁ n ≡ a
stand_is as₁ n q = opt_is (nth as₁ n) fresh (λ a. a) q

pub goes_same : (p : Prog) (m : List ℕ) (A B : ℕ → List Ev) (es : List Ev) → ((n : ℕ) → A n ≡ B n) → Goes p m A es → Goes p m B es
goes_same p m A B es h g = subst (λ (C : ℕ → List Ev). Goes p m C es) (fun_ext h) g

-- a thread that has something to do is there
pub code_here : (p : Prog) (n k : ℕ) {i : I} → nth (code p n) k ≡ some i → nth p n ≡ some (code p n)
code_here p n k {i} q = go (nth p n) refl
  where
    go : (o : Option Thread) → nth p n ≡ o → nth p n ≡ some (code p n)
    go none z = absurd (none_some (subst (λ (y : Option Thread). nth (opt y [] (λ t. t)) k ≡ some i) z q))
    go (some t) z = z ∙ ap some (sym (code_is p n z))

-- the row of a thread that stands as a says
pub row_here : (p : Prog) (as₁ : List At) (ws : ℕ → List Ev) → Pending p as₁ ws → (n : ℕ) (a : At) → nth as₁ n ≡ some a → Row (code p n) a (ws n)
row_here p as₁ ws pend n a q = subst (λ (z : At). Row (code p n) z (ws n)) (stand_is as₁ n q) (pend.rows n)

-- a thread at its end with an empty row; and so it is where there is no thread
abbrev pub Stopped : Prog → List At → ℕ → Type 0
Stopped p as₁ n = ((stand as₁ n).pc ≡ length (code p n)) × ((stand as₁ n).waits ≡ [])

pub absent : (p : Prog) (as₁ : List At) (ws : ℕ → List Ev) → Pending p as₁ ws → (n : ℕ) → length p ≤ n → Stopped p as₁ n
absent p as₁ ws pend n l =
    let many = pend.many in
    rw (nth_past p n l, nth_past as₁ n (omega arith)) (refl, refl)

-- thread n, which stood as a says, stands as b says
module _ (as₁ : List At) (n : ℕ) (a b : At) (q : nth as₁ n ≡ some a) where
  stand_here : stand (put as₁ n b) n ≡ b
  stand_here = stand_is (put as₁ n b) n (nth_put_same as₁ n b q)

  pub stand_there : (k : ℕ) → (n ≡ k → ⊥) → stand (put as₁ n b) k ≡ stand as₁ k
  stand_there k d = ap (λ (z : Option At). opt z fresh (λ x. x)) (nth_put_other as₁ n k b d)

  -- its row is us, and the others' are what they were
  pub pending_put : (p : Prog) (ws : ℕ → List Ev) (us : List Ev) → Pending p as₁ ws → Row (code p n) b us → Pending p (put as₁ n b) (upd ws n us)
  pending_put p ws us h r = record {
    many = length_put as₁ n b ∙ h.many;
    rows = λ k. elim (same_or n k) [ inl z ↦ subst (λ (j : ℕ). Row (code p j) (stand (put as₁ n b) j) (upd ws n us j)) z here | inr d ↦ there k d ];
  }
    where
      here : Row (code p n) (stand (put as₁ n b) n) (upd ws n us n)
      here = subst (λ (z : At). Row (code p n) z (upd ws n us n)) (sym stand_here) (subst (λ (z : List Ev). Row (code p n) b z) (sym (upd_here ws n us)) r)

      there : (k : ℕ) → (n ≡ k → ⊥) → Row (code p k) (stand (put as₁ n b) k) (upd ws n us k)
      there k d = subst (λ (z : At). Row (code p k) z (upd ws n us k)) (sym (stand_there k d)) (subst (λ (z : List Ev). Row (code p k) (stand as₁ k) z) (sym (upd_there ws n us k d)) (h.rows k))

  -- it will read xs n, and the others will read what they would
  module _ (p : Prog) (vs xs : ℕ → List ℕ) (keeps : (k : ℕ) → (n ≡ k → ⊥) → xs k ≡ vs k) where
    future_here : future p (put as₁ n b) xs n ≡ rest n (code p n) b (xs n)
    future_here = ap (λ (z : At). rest n (code p n) z (xs n)) stand_here

    future_there : (k : ℕ) → (n ≡ k → ⊥) → future p (put as₁ n b) xs k ≡ future p as₁ vs k
    future_there k d = ap (λ (z : At). rest k (code p k) z (xs k)) (stand_there k d) ∙ ap (λ (z : List ℕ). rest k (code p k) (stand as₁ k) z) (keeps k d)

    -- if thread n ends with the same registers, all do
    pub regs_put : (rest n (code p n) b (xs n)).regs ≡ (rest n (code p n) a (vs n)).regs → (k : ℕ) → (future p (put as₁ n b) xs k).regs ≡ (future p as₁ vs k).regs
    regs_put h k = elim (same_or n k) [
      | inl z ↦ subst (λ (j : ℕ). (future p (put as₁ n b) xs j).regs ≡ (future p as₁ vs j).regs) z (ap (λ (y : Alone). y.regs) future_here ∙ (h ∙ ap (λ (y : At). (rest n (code p n) y (vs n)).regs) (sym (stand_is as₁ n q))))
      | inr d ↦ ap (λ (y : Alone). y.regs) (future_there k d)
    ]

    module _ (ws : ℕ → List Ev) (us : List Ev) where
      pub events_here : events p (put as₁ n b) (upd ws n us) xs n ≡ us ++ (rest n (code p n) b (xs n)).evs
      events_here = ap (λ (z : List Ev). z ++ (future p (put as₁ n b) xs n).evs) (upd_here ws n us) ∙ ap (λ (z : Alone). us ++ z.evs) future_here

      pub events_there : (k : ℕ) → (n ≡ k → ⊥) → events p (put as₁ n b) (upd ws n us) xs k ≡ events p as₁ ws vs k
      events_there k d = ap (λ (z : List Ev). z ++ (future p (put as₁ n b) xs k).evs) (upd_there ws n us k d) ∙ ap (λ (z : Alone). ws k ++ z.evs) (future_there k d)

-- thread n does its next instruction
module _ (p : Prog) (m : List ℕ) (as₁ : List At) (ws : ℕ → List Ev) (pend : Pending p as₁ ws) (n : ℕ) (a b : At) (i : I) (stands : nth as₁ n ≡ some a) (next_i : nth (code p n) a.pc ≡ some i) (did : does m a i ≡ some b) where
  abbrev pub step_rows : ℕ → List Ev
  step_rows = upd ws n (row_after n a i (ws n))

  pub step_pending : Pending p (put as₁ n b) step_rows
  step_pending = pending_put as₁ n a b stands p ws (row_after n a i (ws n)) pend (row_step n (code p n) a (ws n) (row_here p as₁ ws pend n a stands) m i b next_i did)

  -- what is to come is the same, if the instruction is no load
  module _ (vs : ℕ → List ℕ) (calm : is_load i ≡ false) where
    same_at : Quiet n (code p n) a i (ws n) (vs n) b (rest n (code p n) a (vs n))
    same_at = quiet n (code p n) a m i b (ws n) (vs n) calm next_i did

    pub step_regs : (k : ℕ) → (future p (put as₁ n b) vs k).regs ≡ (future p as₁ vs k).regs
    step_regs = regs_put as₁ n a b stands p vs vs (λ j d. refl) (sym same_at.1)

    pub step_events : (k : ℕ) → events p (put as₁ n b) step_rows vs k ≡ events p as₁ ws vs k
    step_events k = elim (same_or n k) [
      | inl z ↦ subst (λ (j : ℕ). events p (put as₁ n b) step_rows vs j ≡ events p as₁ ws vs j) z (events_here as₁ n a b stands p vs vs (λ j d. refl) ws (row_after n a i (ws n)) ∙ (sym same_at.0 ∙ ap (λ (y : At). ws n ++ (rest n (code p n) y (vs n)).evs) (sym (stand_is as₁ n stands))))
      | inr d ↦ events_there as₁ n a b stands p vs vs (λ j d. refl) ws (row_after n a i (ws n)) k d
    ]
