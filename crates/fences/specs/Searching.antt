-- The search for the fewest fences: sets of spots as masks, by how many bits they have, and from the greatest down.
use Rattle.std.specs.Prelude.{◌≡◌, ℕ, ◌^◌, ◌<◌, true, ◌⊎◌, List, count_ones, slice_index}
use Rattle.std.proofs.Math.Option.{some}
use Rattle.model.specs.Code.{Prog}
use Rattle.model.specs.Machine.{St, Move, begin, all_done, all_at_once}
use Rattle.model.specs.Fences.{DoesIt}
use Rattle.model.specs.Guards.{gmoves, hits}
use Rattle.model.specs.Outcomes.{Shows}
use Rattle.hitting.specs.Masks.{Within}
use Rattle.spots.specs.Masks.{spots, every_spot}
use Rattle.guard.specs.Masks.{masked, mask}

-- a look at x finds nothing bad: each finished state that runs under its guards come to is come to at once
abbrev pub NothingBad : Prog → ℕ → Type 0
NothingBad p x = (ms : List Move) (s : St) → gmoves (masked x) p (begin p) ms ≡ some s → all_done p s.threads ≡ true → (ns : List ℕ) × (all_at_once p (begin p) ns ≡ some s)

-- each of the first len clauses is what a bad run passes
abbrev pub LearntMasks : Prog → List ℕ → ℕ → Type 0
LearntMasks p cs len = (k : ℕ) → k < len → (ms : List Move) × Shows p ms × (slice_index cs k ≡ mask (hits p (begin p) ms))

-- what the search is done with doesn't work: fewer bits than so many, or so many and greater than 'from'
abbrev pub EarlierFail : Prog → ℕ → ℕ → Type 0
EarlierFail p bits from = (z : ℕ) → z < 2 ^ 32 → Within z (every_spot p) → (count_ones z < bits) ⊎ ((count_ones z ≡ bits) × (from < z)) → DoesIt p (spots z) → ⊥
