-- What the public calls promise: for words s, at most so many states, words lent and words to write to.
use Rattle.std.specs.Prelude.{◌≡◌, ℕ, ◌+◌, ◌*◌, ◌<◌, ◌↔◌, List, length, take, drop, Ok, Err, Result}
use Rattle.std.proofs.Math.Option.{some}
use Rattle.model.specs.Code.{Prog, Reads}
use Rattle.model.specs.Machine.{St, Move, moves, begin}
use Rattle.model.specs.Theorems.{Theorems}
use Rattle.explore.specs.Found.{Among, Different, AllComeTo, Crowded}
use Rattle.fences.specs.declared.listing.Listing.{Listing}
use Rattle.fences.specs.declared.refusals.Refusal.{Refusal}
use Rattle.fences.specs.declared.refusals.Refusal.TheVariants as refusal
use Rattle.fences.specs.Listing.{Row, text, Lists}

-- runs come to exactly so many states
abbrev pub States : Prog → ℕ → Type 0
States p n = (q : List St) × AllComeTo p q × Different q × ((ms : List Move) (s : St) → moves p (begin p) ms ≡ some s → Among s q) × (n ≡ length q)

-- how many outcomes and states there are, or why that is not told
abbrev pub Listed : Type 0
Listed = Result Listing Refusal

-- what is said of a program p whose states are found
abbrev pub ListedFound : Prog → List ℕ → List ℕ → Listed → Type 0
ListedFound p o o' (Ok l) = (rs : List Row) × Lists p rs × States p l.states × (l.outcomes ≡ length rs) × (take (length (text rs)) o' ≡ text rs) × (drop (length (text rs)) o' ≡ drop (length (text rs)) o)
ListedFound p o o' (Err refusal.OutFull) = (rs : List Row) × Lists p rs × (length o < length (text rs)) × (o' ≡ o)
ListedFound p o o' (Err refusal.Crowded) = ⊥
ListedFound p o o' (Err refusal.NoProgram) = ⊥
ListedFound p o o' (Err refusal.Few) = ⊥

-- 'outcomes'
abbrev pub ListedSays : List ℕ → ℕ → List ℕ → List ℕ → Listed → Type 0
ListedSays s most o o' (Ok l) = (p : Prog) × (rs : List Row) × Reads s p × Lists p rs × States p l.states × (l.outcomes ≡ length rs) × (take (length (text rs)) o' ≡ text rs) × (drop (length (text rs)) o' ≡ drop (length (text rs)) o)
ListedSays s most o o' (Err refusal.Crowded) = (p : Prog) × Reads s p × Crowded p most × (o' ≡ o)
ListedSays s most o o' (Err refusal.OutFull) = (p : Prog) × (rs : List Row) × Reads s p × Lists p rs × (length o < length (text rs)) × (o' ≡ o)
ListedSays s most o o' (Err refusal.NoProgram) = ((p : Prog) → Reads s p → ⊥) × (o' ≡ o)
ListedSays s most o o' (Err refusal.Few) = o' ≡ o

-- the theorems stand with the promise, so that the gate asks for them
pub record ListedPost (s : List ℕ) (most w : ℕ) (o o' : List ℕ) (r : Listed) : Type 0 where
  pub says : ListedSays s most o o' r
  pub theorems : Theorems
  pub few : (w < 65536 + 128 * (most + 1)) ↔ (r ≡ Err refusal.Few)
