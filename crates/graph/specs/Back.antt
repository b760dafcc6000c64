-- Reading a walk back from the words that a search left.
use Rattle.std.specs.Prelude.{◌≡◌, ℕ, ◌<◌, ◌≤◌, List, length, take, drop, Some, None, Option}
use Rattle.graph.specs.Walks.{Walk}
use Rattle.graph.specs.Search.{Marked, Linked}

-- what is asked: a search left 'from', and marked the node
pub record Traced (can : ℕ → ℕ → Type 0) (next : ℕ → ℕ → ℕ) (moves : ℕ) (from : List ℕ) (to : ℕ) : Type 0 where
  pub n : ℕ
  pub cost : List ℕ
  pub may : (i m : ℕ) → i < n → m < moves → can i m
  pub linked : Linked next moves n cost from
  pub room : n ≤ length from
  pub within : to < n
  pub marked : Marked cost to

-- the first len words of the path are a walk to the node, and those behind are as they were
pub record Written (next : ℕ → ℕ → ℕ) (moves to len : ℕ) (was path : List ℕ) : Type 0 where
  pub fits : len ≤ length path
  pub walk : Walk next moves 0 (take len path) to
  pub behind : drop len path ≡ drop len was

-- the path is too short for a walk to the node, and is as it was
pub record TooLong (next : ℕ → ℕ → ℕ) (moves to : ℕ) (was path : List ℕ) : Type 0 where
  pub walk : (ms : List ℕ) × (length was < length ms) × Walk next moves 0 ms to
  pub same : path ≡ was

abbrev pub Told : (ℕ → ℕ → ℕ) → ℕ → ℕ → List ℕ → List ℕ → Option ℕ → Type 0
Told next moves to was path (Some len) = Written next moves to len was path
Told next moves to was path None = TooLong next moves to was path
