-- What 'look' promises: for words s, at most so many states, w words lent and words to write to.
use Rattle.std.specs.Prelude.{◌≡◌, ℕ, ◌+◌, ◌*◌, ◌<◌, ◌↔◌, List, ◌++◌, length, take, drop, Ok, Err, Result}
use Rattle.model.specs.Code.{Prog, Reads}
use Rattle.model.specs.Machine.{St, Move}
use Rattle.model.specs.Outcomes.{IsPlain, Shows}
use Rattle.model.specs.Fences.{Spot, Fewest}
use Rattle.model.specs.Theorems.{Theorems}
use Rattle.explore.specs.Found.{AllComeTo, Different}
use Rattle.fences.specs.declared.looking.Verdict.{Verdict}
use Rattle.fences.specs.declared.looking.Verdict.TheVariants as verdict
use Rattle.fences.specs.declared.refusals.Refusal.{Refusal}
use Rattle.fences.specs.declared.refusals.Refusal.TheVariants as refusal
use Rattle.fences.specs.Told.{text_ms, text_ss}

-- a verdict, or why there is none
abbrev pub Looked : Type 0
Looked = Result Verdict Refusal

-- what is said of a program p whose states are found
abbrev pub LookedFound : Prog → List ℕ → List ℕ → Looked → Type 0
LookedFound p o o' (Ok verdict.Plain) = IsPlain p × (o' ≡ o)
LookedFound p o o' (Ok (verdict.Fences m k)) = (ms : List Move) × (ss : List Spot) × Shows p ms × Fewest p ss × (m ≡ length ms) × (k ≡ length ss) × (take (m + 2 * k) o' ≡ text_ms ms ++ text_ss ss) × (drop (m + 2 * k) o' ≡ drop (m + 2 * k) o)
LookedFound p o o' (Err refusal.OutFull) = (ms : List Move) × Shows p ms × (length o < 256) × (o' ≡ o)
LookedFound p o o' (Err refusal.Crowded) = ⊥
LookedFound p o o' (Err refusal.NoProgram) = ⊥
LookedFound p o o' (Err refusal.Few) = ⊥

-- 'look'
abbrev pub LookedSays : List ℕ → ℕ → List ℕ → List ℕ → Looked → Type 0
LookedSays s most o o' (Ok verdict.Plain) = (p : Prog) × Reads s p × IsPlain p × (o' ≡ o)
LookedSays s most o o' (Ok (verdict.Fences m k)) = (p : Prog) × (ms : List Move) × (ss : List Spot) × Reads s p × Shows p ms × Fewest p ss × (m ≡ length ms) × (k ≡ length ss) × (take (m + 2 * k) o' ≡ text_ms ms ++ text_ss ss) × (drop (m + 2 * k) o' ≡ drop (m + 2 * k) o)
LookedSays s most o o' (Err refusal.Crowded) = (p : Prog) × (q : List St) × Reads s p × AllComeTo p q × Different q × (most < length q) × (o' ≡ o)
LookedSays s most o o' (Err refusal.OutFull) = (p : Prog) × (ms : List Move) × Reads s p × Shows p ms × (length o < 256) × (o' ≡ o)
LookedSays s most o o' (Err refusal.NoProgram) = ((p : Prog) → Reads s p → ⊥) × (o' ≡ o)
LookedSays s most o o' (Err refusal.Few) = o' ≡ o

-- the theorems stand with the promise, so that the gate asks for them
pub record LookedPost (s : List ℕ) (most w : ℕ) (o o' : List ℕ) (r : Looked) : Type 0 where
  pub says : LookedSays s most o o' r
  pub theorems : Theorems
  pub few : (w < 65536 + 128 * (most + 1)) ↔ (r ≡ Err refusal.Few)
