-- Fences put into a program, and which list of them is the fewest and first.
use Rattle.std.specs.Prelude.{◌≡◌, ◌⊎◌, ◌&&◌, List, [], ◌∷◌, ◌++◌, ℕ, suc, ◌<◌, ◌≤◌, length, eqb}
use Rattle.std.proofs.Math.Option.{some}
use Rattle.model.specs.Code.{pick, nth, I, fence, Thread, Prog}
use Rattle.model.specs.Outcomes.{IsPlain}

-- a spot for a fence: before the instruction 'index' of thread 'thread'
pub record Spot : Type 0 where
  pub thread : ℕ
  pub index : ℕ

-- threads before instructions
abbrev pub Earlier : Spot → Spot → Type 0
Earlier a b = (a.thread < b.thread) ⊎ ((a.thread ≡ b.thread) × (a.index < b.index))

-- a fence for each time that the spot (n, k) stands in the list
abbrev pub here : List Spot → ℕ → ℕ → List I
here [] n k = []
here (s ∷ ss) n k = pick (eqb s.thread n && eqb s.index k) (fence ∷ here ss n k) (here ss n k)

abbrev pub put_in : List Spot → ℕ → ℕ → Thread → Thread
put_in ss n k [] = []
put_in ss n k (i ∷ is) = here ss n k ++ (i ∷ put_in ss n (suc k) is)

abbrev pub fenced_ts : List Spot → ℕ → Prog → Prog
fenced_ts ss n [] = []
fenced_ts ss n (t ∷ ts) = put_in ss n 0 t ∷ fenced_ts ss (suc n) ts

-- the program with a fence at each spot of the list
abbrev pub with_fences : List Spot → Prog → Prog
with_fences ss p = fenced_ts ss 0 p

-- in order, and so each at most once
abbrev pub InOrder : List Spot → Type 0
InOrder [] = Unit {0}
InOrder (a ∷ []) = Unit {0}
InOrder (a ∷ b ∷ ss) = Earlier a b × InOrder (b ∷ ss)

-- one list comes before another: by the first spot that differs
pub data First : List Spot → List Spot → Type 0 where
  by_this : {a b : Spot} {ss ts : List Spot} → Earlier a b → First (a ∷ ss) (b ∷ ts)
  by_rest : {a : Spot} {ss ts : List Spot} → First ss ts → First (a ∷ ss) (a ∷ ts)

-- a list of spots in order, each before an instruction of the program
abbrev pub Placed : Prog → List Spot → Type 0
Placed p ss = InOrder ss × ((s : Spot) (a b : List Spot) → ss ≡ a ++ (s ∷ b) → (t : Thread) × (nth p s.thread ≡ some t) × (s.index < length t))

-- such a list with which the program is plain: it works
abbrev pub DoesIt : Prog → List Spot → Type 0
DoesIt p ss = InOrder ss × ((s : Spot) (a b : List Spot) → ss ≡ a ++ (s ∷ b) → (t : Thread) × (nth p s.thread ≡ some t) × (s.index < length t)) × IsPlain (with_fences ss p)

-- such a list, with none shorter, and none as short before it
pub record Fewest (p : Prog) (ss : List Spot) : Type 0 where
  pub does_it : DoesIt p ss
  pub fewest : (ts : List Spot) → DoesIt p ts → length ss ≤ length ts
  pub first : (ts : List Spot) → DoesIt p ts → length ts ≡ length ss → First ts ss → ⊥
