-- Looking at a set of guards: is a finished state come to under them that can't be come to at once, and by which run.
use Rattle.std.specs.Prelude.{◌≡◌, ℕ, ◌<◌, ◌≤◌, true, List, [], ◌∷◌, map, length, take, Some, None, Option, bit_and}
use Rattle.std.proofs.Math.Option.{some}
use Rattle.model.specs.Code.{Prog}
use Rattle.model.specs.Machine.{St, Move, moves, begin, all_done, all_at_once}
use Rattle.model.specs.Guards.{gmoves, hits}
use Rattle.graph.specs.Search.{Marked, Searched}
use Rattle.explore.specs.Found.{moves_of, move_of, state}
use Rattle.guard.specs.Masks.{masked, mask}
use Rattle.guard.specs.Rules.{guarded}
use Rattle.fences.specs.Rows.{done_at}

-- of the first n states: a finished one that is marked in 'cost' and not in 'once'; or there is none
abbrev pub Chosen : Prog → List ℕ → List ℕ → List ℕ → ℕ → Option ℕ → Type 0
Chosen p q once cost n (Some j) = (j < n) × (done_at p q j ≡ true) × Marked cost j × (Marked once j → ⊥)
Chosen p q once cost n None = (j : ℕ) → j < n → done_at p q j ≡ true → Marked cost j → Marked once j

-- state j is finished, is come to under the guards, and is not come to at once
pub record Bad (p : Prog) (q g : List ℕ) (guards n : ℕ) (cost from : List ℕ) (j : ℕ) : Type 0 where
  pub below : j < n
  pub done : done_at p q j ≡ true
  pub apart : ((ns : List ℕ) × (all_at_once p (begin p) ns ≡ some (state (length p) q j))) → ⊥
  pub marked : Marked cost j
  pub searched : Searched (guarded (length p) q g guards) (moves_of (length p)) n cost from

-- every finished state that is come to under the guards is come to at once
abbrev pub AllGood : Prog → ℕ → Type 0
AllGood p guards = (ms : List Move) (s : St) → gmoves (masked guards) p (begin p) ms ≡ some s → all_done p s.threads ≡ true → (ns : List ℕ) × (all_at_once p (begin p) ns ≡ some s)

abbrev pub Looked : Prog → List ℕ → List ℕ → ℕ → ℕ → List ℕ → List ℕ → Option ℕ → Type 0
Looked p q g guards n cost from (Some j) = Bad p q g guards n cost from j
Looked p q g guards n cost from None = AllGood p guards

abbrev pub AllBelow : ℕ → List ℕ → Type 0
AllBelow n [] = Unit {0}
AllBelow n (m ∷ ms) = (m < n) × AllBelow n ms

-- the first len words of the path are a run to the bad state, and what it passes is the clause learned: no guard
pub record Learned (p : Prog) (q : List ℕ) (guards bad : ℕ) (path : List ℕ) (len passed : ℕ) : Type 0 where
  pub few : len ≤ 64
  pub run : moves p (begin p) (map (move_of (length p)) (take len path)) ≡ some (state (length p) q bad)
  pub clause : passed ≡ mask (hits p (begin p) (map (move_of (length p)) (take len path)))
  pub new : bit_and passed guards ≡ 0
  pub numbers : AllBelow (moves_of (length p)) (take len path)
