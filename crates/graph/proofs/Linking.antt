-- From a marked node the links lead back to the start, and along a walk.
use Rattle.std.proofs.Common.{◌≡◌, ℕ, zero, suc, ◌<◌, ◌≤◌, List, [], ◌∷◌, ◌++◌, length, get_or, sym, refl, ◌∙◌, arith}
use Rattle.std.proofs.lemmas.List.{length_push}
use Rattle.graph.specs.Walks.{Walk}
use Rattle.graph.specs.Search.{Marked, Linked, Links}
use Rattle.graph.proofs.Walked.{walk_push}

module _ (next : ℕ → ℕ → ℕ) (moves n : ℕ) (c f : List ℕ) where
  -- in fewer than b links
  links_under : n ≤ length f → Linked next moves n c f → (b j : ℕ) → j < b → j < n → Marked c j → (d : ℕ) × Links f d j
  links_under room l zero j u h m = absurd (omega arith)
  links_under room l (suc b) zero u h m = (0, refl)
  links_under room l (suc b) (suc j) u h m =
      let w = l (suc j) h (omega arith) m in
      let p = w.before in
      let (d, q) = links_under room l b (get_or f (suc j) 0) (omega arith) (omega arith) w.marked in
      (suc d, (p, omega arith, q))

  pub links_of : n ≤ length f → Linked next moves n c f → (j : ℕ) → j < n → Marked c j → (d : ℕ) × Links f d j
  links_of room l j h m = links_under room l (suc j) j (omega arith) h m

  -- a walk of as many moves
  pub links_walk : Linked next moves n c f → (d j : ℕ) → j < n → Marked c j → Links f d j → (ms : List ℕ) × (length ms ≡ d) × Walk next moves 0 ms j
  links_walk l zero j h m q = ([], refl, sym q)
  links_walk l (suc d) j h m q =
      let p = q.0 in
      let w = l j h (omega arith) m in
      let (x, u, e) = w.edge in
      let (ms, long, v) = links_walk l d (get_or f j 0) (omega arith) w.marked q.2 in
      (ms ++ (x ∷ []), length_push ms x ∙ (omega arith), walk_push next moves ms 0 (get_or f j 0) j x v u e)
