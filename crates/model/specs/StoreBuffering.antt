-- One program worked by hand, store buffering: two threads that each write their own place and then read the other's.
-- Both may read 0 where stores wait.
use Rattle.std.specs.Prelude.{◌≡◌, true, List, [], ◌∷◌, ℕ, replicate, T}
use Rattle.std.proofs.Math.Option.{Option, some, none}
use Rattle.model.specs.Code.{sets, loads, stores, Prog, row, ok}
use Rattle.model.specs.Machine.{St, Move, next, out, moves, begin, all_done, outcome, all_at_once}
use Rattle.model.specs.Fences.{with_fences}

abbrev pub both : Prog
both = (sets 0 1 ∷ stores 0 0 ∷ loads 1 1 ∷ []) ∷ (sets 0 1 ∷ stores 1 0 ∷ loads 1 0 ∷ []) ∷ []

-- each thread does all it has to do, and only then do the two stores go to memory
abbrev pub late : List Move
late = next 0 ∷ next 0 ∷ next 0 ∷ next 1 ∷ next 1 ∷ next 1 ∷ out 0 ∷ out 1 ∷ []

-- finished, with this outcome
abbrev pub Ends : Option St → List ℕ → Type 0
Ends o came = (s : St) × (o ≡ some s) × (all_done both s.threads ≡ true) × (outcome s ≡ came)

pub record StoreBuffering : Type 0 where
  -- where stores wait, both read 0
  pub waiting : Ends (moves both (begin both) late) (1 ∷ 0 ∷ 0 ∷ 0 ∷ 1 ∷ 0 ∷ 0 ∷ 0 ∷ 1 ∷ 1 ∷ replicate 6 0)
  -- at once, one thread after the other, the second reads 1
  pub at_once : Ends (all_at_once both (begin both) (0 ∷ 0 ∷ 0 ∷ 1 ∷ 1 ∷ 1 ∷ [])) (1 ∷ 0 ∷ 0 ∷ 0 ∷ 1 ∷ 1 ∷ 0 ∷ 0 ∷ 1 ∷ 1 ∷ replicate 6 0)
  -- with a fence before the third instruction of the first thread the same moves can't be made
  pub fenced : moves (with_fences (record { thread = 0; index = 2 } ∷ []) both) (begin both) late ≡ none
  pub words : row both ≡ 2 ∷ 3 ∷ 0 ∷ 0 ∷ 1 ∷ 0 ∷ 3 ∷ 0 ∷ 0 ∷ 0 ∷ 2 ∷ 1 ∷ 1 ∷ 0 ∷ 3 ∷ 0 ∷ 0 ∷ 1 ∷ 0 ∷ 3 ∷ 1 ∷ 0 ∷ 0 ∷ 2 ∷ 1 ∷ 0 ∷ 0 ∷ []
  pub good : T (ok both)
