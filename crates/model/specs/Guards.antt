-- Guards in place of fences: a guarded instruction may be done only if nothing of its thread waits. The states are
-- then the program's own, whatever is guarded, so that all lists of fences can be looked at over one set of states.
use Rattle.std.specs.Prelude.{◌≡◌, Bool, true, false, ◌&&◌, ◌||◌, not, List, [], ◌∷◌, ◌++◌, ℕ, eqb}
use Rattle.std.proofs.Math.Option.{Option, some, none}
use Rattle.model.specs.Code.{pick, opt, nth, Prog}
use Rattle.model.specs.Machine.{St, Move, next, out, move, begin, empty, all_done, outcome}
use Rattle.model.specs.Fences.{Spot}

-- is instruction k of thread n guarded
abbrev pub Guard : Type 0
Guard = ℕ → ℕ → Bool

-- a guard at each spot of a list
abbrev pub guards : List Spot → Guard
guards [] n k = false
guards (s ∷ ss) n k = (eqb s.thread n && eqb s.index k) || guards ss n k

-- no guard forbids the move
abbrev pub free : Guard → St → Move → Bool
free g s (next n) = opt (nth s.threads n) true (λ a. not (g n a.pc) || empty a.waits)
free g s (out n) = true

-- one move of the machine in which stores wait, under guards
abbrev pub gmove : Guard → Prog → St → Move → Option St
gmove g p s m = pick (free g s m) (move p s m) none

abbrev pub gmoves : Guard → Prog → St → List Move → Option St
gmoves g p s [] = some s
gmoves g p s (m ∷ ms) = opt (gmove g p s m) none (λ t. gmoves g p t ms)

-- o comes out where stores wait, under guards
abbrev pub Guarded : Guard → Prog → List ℕ → Type 0
Guarded g p o = (ms : List Move) × (s : St) × (gmoves g p (begin p) ms ≡ some s) × (all_done p s.threads ≡ true) × (outcome s ≡ o)

-- the spots that a run passes while something of the thread waits: its hits
abbrev pub hit : St → Move → List Spot
hit s (next n) = opt (nth s.threads n) [] (λ a. pick (empty a.waits) [] (record { thread = n; index = a.pc } ∷ []))
hit s (out n) = []

abbrev pub hits : Prog → St → List Move → List Spot
hits p s [] = []
hits p s (m ∷ ms) = hit s m ++ opt (move p s m) [] (λ t. hits p t ms)

-- the spot stands in the list
pub data On (a : Spot) : List Spot → Type 0 where
  on_first : {ss : List Spot} → On a (a ∷ ss)
  on_more : {s : Spot} {ss : List Spot} → On a ss → On a (s ∷ ss)

-- the two lists have no spot in common
abbrev pub Apart : List Spot → List Spot → Type 0
Apart ss ts = (a : Spot) → On a ss → On a ts → ⊥

-- the two lists have a spot in common
abbrev pub Meets : List Spot → List Spot → Type 0
Meets ss ts = (a : Spot) × On a ss × On a ts
