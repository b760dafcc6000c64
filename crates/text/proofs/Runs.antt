-- Runs of bytes that pass a test, and a text cut at a byte.
use Rattle.std.proofs.Common.{◌≡◌, ℕ, suc, ◌+◌, ◌<◌, ◌≤◌, Bool, true, false, ◌&&◌, cond, eqb, List, [], ◌∷◌, length, get_or, take, drop, sym, refl, ap, ◌∙◌, subst, add-one, arith}
use Rattle.std.specs.List.{prefix_len, take_while, list_all}
use Rattle.std.proofs.lemmas.List.Folds.{length-prefix_len}
use Rattle.std.proofs.lemmas.Bool.{not_from_true, not_from_false}
use Rattle.std.proofs.lemmas.Bool.Decides.{nat_tests}
use Rattle.model.specs.Code.{pick}
use Rattle.text.specs.Bytes.{run, all, but, cut, pieces, before}
use Rattle.text.proofs.Picks.{pick_true, pick_false}

module _ (f : ℕ → Bool) where
  pub run_on : (b : ℕ) (bs : List ℕ) → f b ≡ true → run f (b ∷ bs) ≡ suc (run f bs)
  run_on b bs e = pick_true _ _ e

  pub run_off : (b : ℕ) (bs : List ℕ) → f b ≡ false → run f (b ∷ bs) ≡ 0
  run_off b bs e = pick_false _ _ e

  pub run_none : (b : ℕ) (bs : List ℕ) → run f (b ∷ bs) ≡ 0 → f b ≡ false
  run_none b bs h = go (f b) refl
    where
      go : (t : Bool) → f b ≡ t → f b ≡ false
      go true e = let r = run_on b bs e in absurd (omega arith)
      go false e = e

  pub run_le : (bs : List ℕ) → run f bs ≤ length bs
  run_le [] = omega arith
  run_le (b ∷ bs) = let h = run_le bs in elim (f b) as (λ t. pick t (suc (run f bs)) 0 ≤ suc (length bs)) [ true ↦ omega arith | false ↦ omega arith ]

  pub run_some : (bs : List ℕ) → 0 < length bs → f (get_or bs 0 0) ≡ true → 0 < run f bs
  run_some [] l e = absurd (omega arith)
  run_some (b ∷ bs) l e = let r = run_on b bs e in omega arith

  -- nothing is left, or what is left does not pass
  abbrev pub Stops : List ℕ → Type 0
  Stops [] = Unit {0}
  Stops (b ∷ bs) = f b ≡ false

  pub run_stops : (bs : List ℕ) → Stops (drop (run f bs) bs)
  run_stops [] = tt
  run_stops (b ∷ bs) = go (f b) refl (run_stops bs)
    where
      go : (t : Bool) → f b ≡ t → Stops (drop (run f bs) bs) → Stops (drop (run f (b ∷ bs)) (b ∷ bs))
      go true e h = subst (λ (n : ℕ). Stops (drop n (b ∷ bs))) (sym (run_on b bs e)) h
      go false e h = subst (λ (n : ℕ). Stops (drop n (b ∷ bs))) (sym (run_off b bs e)) e

  pub run_all : (bs : List ℕ) → eqb (run f bs) (length bs) ≡ all f bs
  run_all [] = refl
  run_all (b ∷ bs) =
      let h = run_all bs in
      elim (f b) as (λ t. eqb (pick t (suc (run f bs)) 0) (suc (length bs)) ≡ (t && all f bs)) [ true ↦ grind (arith, nat_tests) ∙ h | false ↦ grind (arith, nat_tests) ]

  run_prefix : (bs : List ℕ) → prefix_len f bs ≡ run f bs
  run_prefix [] = refl
  run_prefix (b ∷ bs) =
      let h = run_prefix bs in
      elim (f b) as (λ t. cond t (1 + prefix_len f bs) 0 ≡ pick t (suc (run f bs)) 0) [ true ↦ omega arith | false ↦ refl ]

  pub run_taken : (bs : List ℕ) → length (take_while f bs) ≡ run f bs
  run_taken bs = length-prefix_len f bs ∙ run_prefix bs

  pub all_listed : (bs : List ℕ) → list_all f bs ≡ all f bs
  all_listed [] = refl
  all_listed (b ∷ bs) = ap (λ (t : Bool). f b && t) (all_listed bs)

-- a cut where the run of other bytes ends
pub pieces_cut : (s : ℕ) (bs : List ℕ) → run (but s) bs < length bs → pieces s bs ≡ before s bs ∷ pieces s (drop (run (but s) bs + 1) bs)
pieces_cut s [] h = absurd (omega arith)
pieces_cut s (b ∷ bs) h = go (eqb b s) refl (pieces_cut s bs)
  where
    go : (t : Bool) → eqb b s ≡ t → (run (but s) bs < length bs → pieces s bs ≡ before s bs ∷ pieces s (drop (run (but s) bs + 1) bs)) → pieces s (b ∷ bs) ≡ before s (b ∷ bs) ∷ pieces s (drop (run (but s) (b ∷ bs) + 1) (b ∷ bs))
    go true e ih =
        let r = run_off (but s) b bs (not_from_true _ e) in
        ap (λ (t : Bool). cut t b (pieces s bs)) e ∙ ap (λ (n : ℕ). take n (b ∷ bs) ∷ pieces s (drop (n + 1) (b ∷ bs))) (sym r)
    go false e ih =
        let r = run_on (but s) b bs (not_from_false _ e) in
        let l : run (but s) bs < length bs = omega arith in
        ap (λ (t : Bool). cut t b (pieces s bs)) e ∙ ap (cut false b) (ih l)
        ∙ ap (λ (n : ℕ). (b ∷ take (run (but s) bs) bs) ∷ pieces s (drop n bs)) (add-one (run (but s) bs))
        ∙ ap (λ (n : ℕ). (b ∷ take (run (but s) bs) bs) ∷ pieces s (drop n (b ∷ bs))) (sym (add-one (suc (run (but s) bs))))
        ∙ ap (λ (n : ℕ). take n (b ∷ bs) ∷ pieces s (drop (n + 1) (b ∷ bs))) (sym r)

pub pieces_last : (s : ℕ) (bs : List ℕ) → length bs ≤ run (but s) bs → pieces s bs ≡ bs ∷ []
pieces_last s [] h = refl
pieces_last s (b ∷ bs) h = go (eqb b s) refl (pieces_last s bs)
  where
    go : (t : Bool) → eqb b s ≡ t → (length bs ≤ run (but s) bs → pieces s bs ≡ bs ∷ []) → pieces s (b ∷ bs) ≡ (b ∷ bs) ∷ []
    go true e ih = let r = run_off (but s) b bs (not_from_true _ e) in absurd (omega arith)
    go false e ih =
        let r = run_on (but s) b bs (not_from_false _ e) in
        ap (λ (t : Bool). cut t b (pieces s bs)) e ∙ ap (cut false b) (ih (omega arith))
