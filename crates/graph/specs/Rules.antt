-- Where moves lead: a node and a move to 0 where there is no edge that may be taken, else to the node come to, plus 1.
use Rattle.std.specs.Prelude.{◌≡◌, ℕ, zero, suc, ◌+◌, ◌*◌, ◌^◌, ◌<◌, List, length, slice_index, Some, None, Option}
use Rattle.graph.specs.declared.rules.Edge.{Edge}

-- an edge, or none, as the words have it
abbrev pub word_of : Option Edge → ℕ
word_of None = 0
word_of (Some e) = suc e.target

-- all kept edges: at i * width + m stands where move m leads from node i
abbrev pub kept : List ℕ → ℕ → ℕ → ℕ → ℕ
kept edges width i m = slice_index edges (i * width + m)

abbrev pub Keeps : List ℕ → ℕ → ℕ → ℕ → Type 0
Keeps edges width i m = i * width + m < length edges

-- two edges joined into one: a move m, and then m + shift where there is such an edge
abbrev pub later : ℕ → ℕ → ℕ
later t zero = t
later t (suc k) = suc k

abbrev pub onward : (ℕ → ℕ) → ℕ → ℕ
onward f zero = 0
onward f (suc j) = later (suc j) (f j)

abbrev pub joined : (ℕ → ℕ → ℕ) → ℕ → ℕ → ℕ → ℕ
joined next shift i m = onward (λ j. next j (m + shift)) (next i m)

-- where both edges may be asked for
pub record Joins (can : ℕ → ℕ → Type 0) (next : ℕ → ℕ → ℕ) (shift i m : ℕ) : Type 0 where
  pub first : can i m
  pub second : (j : ℕ) → next i m ≡ suc j → can j (m + shift)
  pub fits : m + shift < 2 ^ 64

-- what is asked of a rule that is searched: each edge of the n nodes may be asked for, and leads ahead to one of them
pub record Ahead (can : ℕ → ℕ → Type 0) (next : ℕ → ℕ → ℕ) (moves n : ℕ) : Type 0 where
  pub may : (i m : ℕ) → i < n → m < moves → can i m
  pub up : (i m j : ℕ) → i < n → m < moves → next i m ≡ suc j → i < j
  pub within : (i m j : ℕ) → i < n → m < moves → next i m ≡ suc j → j < n
