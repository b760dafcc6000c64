-- Walks: 'next' says where moves lead, and moves are below 'moves'.
use Rattle.std.specs.Prelude.{◌≡◌, ℕ, suc, ◌<◌, ◌⊎◌, List, [], ◌∷◌}

-- one edge leads from node i to node j
abbrev pub Leads : (ℕ → ℕ → ℕ) → ℕ → ℕ → ℕ → Type 0
Leads next moves i j = (m : ℕ) × (m < moves) × (next i m ≡ suc j)

-- the moves lead from node i to node j
abbrev pub Walk : (ℕ → ℕ → ℕ) → ℕ → ℕ → List ℕ → ℕ → Type 0
Walk next moves i [] j = i ≡ j
Walk next moves i (m ∷ ms) j = (k : ℕ) × (m < moves) × (next i m ≡ suc k) × Walk next moves k ms j

-- one rule allows no more than another
abbrev pub Fewer : (ℕ → ℕ → ℕ) → (ℕ → ℕ → ℕ) → Type 0
Fewer less next = (i m : ℕ) → (less i m ≡ 0) ⊎ (less i m ≡ next i m)
