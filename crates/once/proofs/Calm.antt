-- Steps at once keep every row empty. So one from a state in which nothing waits is a next instruction, and what then
-- waits going out: a store waits exactly if the instruction was one.
use Rattle.std.proofs.Common.{◌≡◌, ℕ, zero, suc, false, ◌⊎◌, List, [], ◌∷◌, ◌++◌, sym, refl, ap, ◌∙◌, subst, inl, inr}
use mathlib.Core.Option.{Option, some, none}
use Rattle.model.specs.Code.{nth, put, I, stores, Prog}
use Rattle.model.specs.Machine.{Wait, At, St, next, out, done, does, flushed, move, begin, is_store, at_once}
use Rattle.model.proofs.Tools.{none_some, some_is, opt_is, nth_put_same, put_put, Next, Out, gone, rest_of, stored, next_of, of_next, of_out, once_of, of_once, store_or, does_waits, starts_fresh}

-- nothing waits
abbrev pub CalmTs : List At → Type 0
CalmTs as₁ = (n : ℕ) (a : At) → nth as₁ n ≡ some a → a.waits ≡ []

abbrev pub Calm : St → Type 0
Calm s = CalmTs s.threads

pub calm_begin : (p : Prog) → Calm (begin p)
calm_begin p n a e = ap (λ (z : At). z.waits) (starts_fresh p n e)

calm_put : (as₁ : List At) (n : ℕ) (b : At) → CalmTs as₁ → b.waits ≡ [] → CalmTs (put as₁ n b)
calm_put [] n b h e m a q = absurd (none_some q)
calm_put (x ∷ as₁) zero b h e zero a q = ap (λ (z : At). z.waits) (sym (some_is q)) ∙ e
calm_put (x ∷ as₁) zero b h e (suc m) a q = h (suc m) a q
calm_put (x ∷ as₁) (suc n) b h e zero a q = h 0 a q
calm_put (x ∷ as₁) (suc n) b h e (suc m) a q = calm_put as₁ n b (λ k. h (suc k)) e m a q

-- after the next instruction of thread n, mid: its store goes out, or nothing can
abbrev pub GoesOn : Prog → St → ℕ → St → Type 0
GoesOn p s n mid =
    ((u : St) × (move p mid (out n) ≡ some u) × (at_once p s n ≡ some u) × Calm u)
    ⊎ ((move p mid (out n) ≡ none) × (at_once p s n ≡ some mid) × Calm mid)

module _ (p : Prog) (s mid : St) (n : ℕ) (calm : Calm s) (x : Next p s n mid) where
  stands_then : nth mid.threads n ≡ some x.now
  stands_then = ap (λ (z : St). nth z.threads n) x.gives ∙ nth_put_same s.threads n x.now x.stands

  was_empty : x.was.waits ≡ []
  was_empty = calm n x.was x.stands

  goes_out : (place r : ℕ) → x.i ≡ stores place r → GoesOn p s n mid
  goes_out place r q =
      let w = stored x.was place r in
      let u = gone mid n w (rest_of x.now []) in
      let did : some (done x.was x.was.regs (x.was.waits ++ (w ∷ []))) ≡ some x.now = subst (λ (z : I). does s.mem x.was z ≡ some x.now) q x.did in
      let line : x.now.waits ≡ w ∷ [] = ap (λ (z : At). z.waits) (sym (some_is did)) ∙ ap (λ (z : List Wait). z ++ (w ∷ [])) was_empty in
      let o : Out mid n u = record { was = x.now; stands = stands_then; w = w; ws = []; line = line; gives = refl } in
      let same : put s.threads n (rest_of x.now []) ≡ u.threads = sym (ap (λ (z : St). put z.threads n (rest_of x.now [])) x.gives ∙ put_put s.threads n x.now (rest_of x.now [])) in
      inl (
        u,
        of_out p mid n u o,
        of_once p s n u (record { mid = mid; first = x; then = inl (ap is_store q, o) }),
        subst CalmTs same (calm_put s.threads n (rest_of x.now []) calm refl),
      )

  goes_not : is_store x.i ≡ false → GoesOn p s n mid
  goes_not q =
      let row : x.now.waits ≡ [] = does_waits s.mem x.was x.now x.i q x.did ∙ was_empty in
      inr (
        opt_is (nth mid.threads n) none _ stands_then ∙ ap (flushed mid n x.now) row,
        of_once p s n mid (record { mid = mid; first = x; then = inr (q, refl) }),
        subst Calm (sym x.gives) (calm_put s.threads n x.now calm row),
      )

  goes_on : GoesOn p s n mid
  goes_on = elim (store_or x.i) [ inl st ↦ goes_out st.0 st.1 st.2 | inr q ↦ goes_not q ]

pub once_goes_on : (p : Prog) (s mid : St) (n : ℕ) → Calm s → move p s (next n) ≡ some mid → GoesOn p s n mid
once_goes_on p s mid n calm e = goes_on p s mid n calm (next_of p s n mid e)

-- where there is no next instruction to do, there is no step at once
pub once_stuck : (p : Prog) (s : St) (n : ℕ) → move p s (next n) ≡ none → at_once p s n ≡ none
once_stuck p s n e = go (at_once p s n) refl
  where
    go : (o : Option St) → at_once p s n ≡ o → at_once p s n ≡ none
    go none f = f
    go (some t) f = let x = once_of p s n t f in absurd (none_some (sym e ∙ of_next p s n x.mid x.first))
