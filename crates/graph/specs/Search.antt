-- What a search leaves: a node is marked where its word in 'cost' is above 0, and its word in 'from' is the node that it was
-- come to from.
use Rattle.std.specs.Prelude.{◌≡◌, ℕ, zero, suc, ◌<◌, ◌⊎◌, List, length, drop, slice_index, slice_index_or}
use Rattle.graph.specs.Walks.{Leads, Walk}

abbrev pub Marked : List ℕ → ℕ → Type 0
Marked cost j = 0 < slice_index cost j

-- node j was come to by an edge, from a marked node before it
pub record Came (next : ℕ → ℕ → ℕ) (moves : ℕ) (cost from : List ℕ) (j : ℕ) : Type 0 where
  pub before : slice_index_or from j 0 < j
  pub marked : Marked cost (slice_index from j)
  pub edge : Leads next moves (slice_index from j) j

-- every marked node but the start was come to
abbrev pub Linked : (ℕ → ℕ → ℕ) → ℕ → ℕ → List ℕ → List ℕ → Type 0
Linked next moves n cost from = (j : ℕ) → j < n → 0 < j → Marked cost j → Came next moves cost from j

-- from node j one comes back to the start by d links of 'from', each to an earlier node
abbrev pub Links : List ℕ → ℕ → ℕ → Type 0
Links from zero j = j ≡ 0
Links from (suc d) j = (slice_index from j < j) × (j < length from) × Links from d (slice_index from j)

-- the nodes that walks from the start lead to are marked, and no others
pub record Searched (next : ℕ → ℕ → ℕ) (moves n : ℕ) (cost from : List ℕ) : Type 0 where
  pub linked : Linked next moves n cost from
  pub reached : (j : ℕ) → j < n → Marked cost j → (ms : List ℕ) × Walk next moves 0 ms j
  pub all : (j : ℕ) (ms : List ℕ) → Walk next moves 0 ms j → (j < n) × Marked cost j

-- all is clear but the start, and what stands behind the n nodes is as it was
pub record Begun (n : ℕ) (was cost : List ℕ) : Type 0 where
  pub first : Marked cost 0
  pub clear : (j : ℕ) → 0 < j → j < n → Marked cost j → ⊥
  pub behind : drop n cost ≡ drop n was

-- what is asked of one node: its edges may be asked for, and lead ahead, to nodes that have their words
pub record Steps (can : ℕ → Type 0) (next : ℕ → ℕ) (moves i : ℕ) (cost from : List ℕ) : Type 0 where
  pub may : (m : ℕ) → m < moves → can m
  pub up : (m j : ℕ) → m < moves → next m ≡ suc j → i < j
  pub in_cost : (m j : ℕ) → m < moves → next m ≡ suc j → j < length cost
  pub in_from : (m j : ℕ) → m < moves → next m ≡ suc j → j < length from

-- gone along some edges of node i: those that they lead to are marked, by these edges or earlier, and no word of another node
-- has changed
pub record Grown (edge : ℕ → Type 0) (i : ℕ) (cost from cost' from' : List ℕ) : Type 0 where
  pub marks : (k : ℕ) → Marked cost k → Marked cost' k
  pub hit : (k : ℕ) → edge k → Marked cost' k
  pub kept : (k : ℕ) → Marked cost' k → (Marked cost k × (slice_index from' k ≡ slice_index from k)) ⊎ (edge k × (slice_index from' k ≡ i))
  pub same : (k : ℕ) → (edge k → ⊥) → (slice_index cost' k ≡ slice_index cost k) × (slice_index from' k ≡ slice_index from k)
