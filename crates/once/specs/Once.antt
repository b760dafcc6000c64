-- Marks of the explored states that are come to at once.
use Rattle.std.specs.Prelude.{◌≡◌, ℕ, ◌<◌, ◌↔◌, List, length}
use Rattle.std.proofs.Math.Option.{some}
use Rattle.model.specs.Code.{Prog}
use Rattle.model.specs.Machine.{begin, all_at_once}
use Rattle.graph.specs.Search.{Marked}
use Rattle.explore.specs.Found.{state}

-- of the n states in q those are marked that a run at once comes to, and no others
abbrev pub MarksOnce : Prog → List ℕ → ℕ → List ℕ → Type 0
MarksOnce p q n cost = (i : ℕ) → i < n → (Marked cost i ↔ ((ns : List ℕ) × (all_at_once p (begin p) ns ≡ some (state (length p) q i))))
