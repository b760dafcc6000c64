-- Each thread by itself, from its beginning: lists of threads and of what they read, as functions from the threads'
-- numbers; and an order of the threads' events, stated of the one and of the other.
use mathlib.Core.Path.{◌≡◌, refl, sym, ◌∙◌, ap, subst}
use mathlib.Core.Logic.{inl, inr}
use mathlib.Core.Bool.{◌&&◌}
use mathlib.Core.List.{List, [], ◌∷◌}
use mathlib.Core.Option.{Option, some, none}
use Prim.Native.Nat.{ℕ, zero, suc, ◌+◌}
use native.Mathlib.Omega.{arith}
use lib.ListN.{length, replicate}
use lib.Dec.{T, leb}
use Rattle.model.specs.Code.{opt, nth, Thread, Prog, ok, ok_t, ok_ts}
use Rattle.model.specs.Machine.{At, at_mem, regs_of as machine_regs}
use Rattle.model.specs.Orders.{Ev, Alone, alone, alones, evs_of, regs_of, In, Before, Order}
use Rattle.model.proofs.Tools.{some_is, none_some, opt_is, opt_some, Each, each_make}
use Rattle.model.proofs.Orders.Events.{within}
use Rattle.model.proofs.Orders.Going.{Well}
use Rattle.model.proofs.Orders.Ordered.{Ordered}
use Rattle.model.proofs.Orders.Rows.{T_and, Fits, alone_fits, alone_sorted}
use Rattle.model.proofs.Orders.States.{code, code_is}

-- what thread n reads, by a list; and a list of what the threads of p read, by a function
abbrev pub given : List (List ℕ) → ℕ → List ℕ
given vss n = opt (nth vss n) [] (λ vs. vs)

abbrev pub table : (ℕ → List ℕ) → Prog → List (List ℕ)
table f [] = []
table f (t ∷ ts) = f 0 ∷ table (λ k. f (suc k)) ts

pub given_table : (f : ℕ → List ℕ) (p : Prog) (n : ℕ) {t : Thread} → nth p n ≡ some t → given (table f p) n ≡ f n
given_table f [] n q = absurd (none_some q)
given_table f (t ∷ ts) zero q = refl
given_table f (t ∷ ts) (suc n) q = given_table (λ k. f (suc k)) ts n q

-- thread n by itself
abbrev pub whole : Prog → (ℕ → List ℕ) → ℕ → Alone
whole p vs n = alone n 0 (code p n) (replicate 4 0) (vs n)

alones_nth : (k : ℕ) (p : Prog) (vss : List (List ℕ)) (n j : ℕ) → j ≡ k + n → nth (alones k p vss) n ≡ opt (nth p n) none (λ t. some (alone j 0 t (replicate 4 0) (given vss n)))
alones_nth k [] vss n j q = refl
alones_nth k (t ∷ ts) [] zero j q = ap (λ (z : ℕ). some (alone z 0 t (replicate 4 0) [])) (omega arith)
alones_nth k (t ∷ ts) [] (suc n) j q = alones_nth (suc k) ts [] n j (omega arith)
alones_nth k (t ∷ ts) (vs ∷ vss) zero j q = ap (λ (z : ℕ). some (alone z 0 t (replicate 4 0) vs)) (omega arith)
alones_nth k (t ∷ ts) (vs ∷ vss) (suc n) j q = alones_nth (suc k) ts vss n j (omega arith)

alones_length : (k : ℕ) (p : Prog) (vss : List (List ℕ)) → length (alones k p vss) ≡ length p
alones_length k [] vss = refl
alones_length k (t ∷ ts) [] = ap suc (alones_length (suc k) ts [])
alones_length k (t ∷ ts) (vs ∷ vss) = ap suc (alones_length (suc k) ts vss)

evs_nth : (as₁ : List Alone) (n : ℕ) → nth (evs_of as₁) n ≡ opt (nth as₁ n) none (λ a. some a.evs)
evs_nth [] n = refl
evs_nth (a ∷ as₁) zero = refl
evs_nth (a ∷ as₁) (suc n) = evs_nth as₁ n

regs_each : (as₁ : List At) (bs : List Alone) → Each (λ n a b. a.regs ≡ b.regs) as₁ bs → machine_regs as₁ ≡ regs_of bs
regs_each [] [] h = refl
regs_each [] (b ∷ bs) h = absurd (h 0)
regs_each (a ∷ as₁) [] h = absurd (h 0)
regs_each (a ∷ as₁) (b ∷ bs) h =
    let q : a.regs ≡ b.regs = h 0 in
    let r = regs_each as₁ bs (λ n. h (suc n)) in
    cc

module _ (p : Prog) (vss : List (List ℕ)) where
  abbrev ev_lists : List (List Ev)
  ev_lists = evs_of (alones 0 p vss)

  -- thread n of the list of threads by themselves is thread n by itself
  alones_at : (n : ℕ) {t : Thread} → nth p n ≡ some t → nth (alones 0 p vss) n ≡ some (whole p (given vss) n)
  alones_at n {t} q = alones_nth 0 p vss n n (omega arith) ∙ (opt_is (nth p n) none _ q ∙ ap (λ (z : Thread). some (alone n 0 z (replicate 4 0) (given vss n))) (sym (code_is p n q)))

  at_alones : (n : ℕ) {a : Alone} → nth (alones 0 p vss) n ≡ some a → (t : Thread) × (nth p n ≡ some t)
  at_alones n q = let (t, h, z) = opt_some (nth p n) _ (sym (alones_nth 0 p vss n n (omega arith)) ∙ q) in (t, h)

  evs_at : (n : ℕ) {t : Thread} → nth p n ≡ some t → nth ev_lists n ≡ some (whole p (given vss) n).evs
  evs_at n q = evs_nth (alones 0 p vss) n ∙ opt_is (nth (alones 0 p vss) n) none _ (alones_at n q)

  at_evs : (n : ℕ) {es : List Ev} → nth ev_lists n ≡ some es → es ≡ (whole p (given vss) n).evs
  at_evs n {es} q =
      let (a, h, z) = opt_some (nth (alones 0 p vss) n) _ (sym (evs_nth (alones 0 p vss) n) ∙ q) in
      let (t, c) = at_alones n h in
      some_is (sym q ∙ evs_at n c)

  -- registers that are those of each thread are those of all
  pub all_regs : (as₁ : List At) → length as₁ ≡ length p → ((n : ℕ) (a : At) → nth as₁ n ≡ some a → a.regs ≡ (whole p (given vss) n).regs) → machine_regs as₁ ≡ regs_of (alones 0 p vss)
  all_regs as₁ l f = regs_each as₁ (alones 0 p vss) (each_make (λ n a b. a.regs ≡ b.regs) as₁ (alones 0 p vss) (l ∙ sym (alones_length 0 p vss)) (λ n a b q r.
      let (t, c) = at_alones n r in
      f n a q ∙ ap (λ (z : Alone). z.regs) (some_is (sym (alones_at n c) ∙ r))))

-- the events of a program's threads
module _ (p : Prog) (vs : ℕ → List ℕ) where
  has_code : (n : ℕ) (e : Ev) → In e (whole p vs n).evs → (t : Thread) × (nth p n ≡ some t)
  has_code n e i = go (nth p n) refl
    where
      go : (o : Option Thread) → nth p n ≡ o → (t : Thread) × (nth p n ≡ some t)
      go none q = absurd (within (subst (λ (z : Option Thread). In e (alone n 0 (opt z [] (λ t. t)) (replicate 4 0) (vs n)).evs) q i))
      go (some t) q = (t, q)

  ok_code : (q : Prog) (n : ℕ) → T (ok_ts q) → T (ok_t (code q n))
  ok_code [] n o = tt
  ok_code (t ∷ ts) zero o = (T_and (ok_t t) (ok_ts ts) (T_and (leb (length t) 8) (ok_t t && ok_ts ts) o).1).0
  ok_code (t ∷ ts) (suc n) o = ok_code ts n (T_and (ok_t t) (ok_ts ts) (T_and (leb (length t) 8) (ok_t t && ok_ts ts) o).1).1

  pub whole_well : T (ok p) → Well p (replicate 8 0) (λ n. (whole p vs n).evs)
  whole_well o = record {
    thread = λ n e i. (fits n e i).0;
    sorted = λ n a b k. alone_sorted n 0 (code p n) (replicate 4 0) (vs n) a b k;
    place = λ n e i. (fits n e i).2 (ok_code p n (T_and (leb (length p) 4) (ok_ts p) (T_and (leb 1 (length p)) (leb (length p) 4 && ok_ts p) o).1).1);
    has = has_code;
  }
    where
      fits : (n : ℕ) (e : Ev) → In e (whole p vs n).evs → Fits n 0 (code p n) e
      fits n e i = alone_fits n 0 (code p n) (replicate 4 0) (vs n) e i

all_zero : (n x : ℕ) → at_mem (replicate n 0) x ≡ 0
all_zero zero x = refl
all_zero (suc n) zero = refl
all_zero (suc n) (suc x) = all_zero n x

pub order_ordered : (p : Prog) (vss : List (List ℕ)) (o : List Ev) → Order p (evs_of (alones 0 p vss)) o → Ordered p (replicate 8 0) (λ n. (whole p (given vss) n).evs) o
order_ordered p vss o h = record {
  from = λ e i. let (n, es, q, j) = h.from e i in (n, subst (λ (z : List Ev). In e z) (at_evs p vss n q) j);
  each = λ n e i. let (t, c) = has_code p (given vss) n e i in h.each n (whole p (given vss) n).evs e (evs_at p vss n c) i;
  once = h.once;
  kept = λ n t a b c k. h.kept n t (whole p (given vss) n).evs a b c (evs_at p vss n c) k;
  has = λ r i w. elim (h.sees r i w) [ inl x ↦ inl x | inr (q, x) ↦ inr (q ∙ sym (all_zero 8 r.place), x) ];
}

pub ordered_order : (p : Prog) (vss : List (List ℕ)) (o : List Ev) → Ordered p (replicate 8 0) (λ n. (whole p (given vss) n).evs) o → Order p (evs_of (alones 0 p vss)) o
ordered_order p vss o h = record {
  from = λ e i. let (n, j) = h.from e i in let (t, c) = has_code p (given vss) n e j in (n, (whole p (given vss) n).evs, evs_at p vss n c, j);
  each = λ n es e q i. h.each n e (subst (λ (z : List Ev). In e z) (at_evs p vss n q) i);
  once = h.once;
  kept = λ n t es a b c q k. h.kept n t a b c (subst (λ (z : List Ev). Before a b z) (at_evs p vss n q) k);
  sees = λ r i w. elim (h.has r i w) [ inl x ↦ inl x | inr (q, x) ↦ inr (q ∙ all_zero 8 r.place, x) ];
}
