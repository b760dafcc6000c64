-- What holds of all walks.
use Rattle.std.proofs.Common.{◌≡◌, ℕ, suc, ◌<◌, List, [], ◌∷◌, ◌++◌, sym, refl, ◌∙◌, subst, ⊎_elim, arith}
use Rattle.graph.specs.Walks.{Walk, Fewer}

module _ (next : ℕ → ℕ → ℕ) (moves : ℕ) where
  -- one walk after another
  pub walk_append : (ms ns : List ℕ) (i j k : ℕ) → Walk next moves i ms j → Walk next moves j ns k → Walk next moves i (ms ++ ns) k
  walk_append [] ns i j k p q = subst (λ (x : ℕ). Walk next moves x ns k) (sym p) q
  walk_append (m ∷ ms) ns i j k p q = (p.0, p.1, p.2, walk_append ms ns p.0 j k p.3 q)

  -- one more edge at the end
  pub walk_push : (ms : List ℕ) (i j k m : ℕ) → Walk next moves i ms j → m < moves → next j m ≡ suc k → Walk next moves i (ms ++ (m ∷ [])) k
  walk_push ms i j k m p h e = walk_append ms (m ∷ []) i j k p (k, h, e, refl)

  -- a set of nodes that no edge leads out of holds all that walks from one of its nodes lead to
  pub walk_stays : (P : ℕ → Type 0) → ((i m j : ℕ) → P i → m < moves → next i m ≡ suc j → P j) → (ms : List ℕ) (i j : ℕ) → P i → Walk next moves i ms j → P j
  walk_stays P shut [] i j p w = subst P w p
  walk_stays P shut (m ∷ ms) i j p w = walk_stays P shut ms w.0 j (shut i m w.0 p w.1 w.2) w.3

-- a walk of a rule that allows less is a walk of the other
pub walk_fewer : (less next : ℕ → ℕ → ℕ) (moves : ℕ) → Fewer less next → (ms : List ℕ) (i j : ℕ) → Walk less moves i ms j → Walk next moves i ms j
walk_fewer less next moves f [] i j w = w
walk_fewer less next moves f (m ∷ ms) i j w =
    let e : next i m ≡ suc w.0 = ⊎_elim (λ z. absurd (let n = w.2 in omega arith)) (λ z. sym z ∙ w.2) (f i m) in
    (w.0, w.1, e, walk_fewer less next moves f ms w.0 j w.3)
