-- Runs as they are told, a word for each move, and the words of the states that they come to.
use Rattle.std.specs.Prelude.{◌≡◌, ℕ, ◌-◌, Bool, true, false, List, [], ◌∷◌, ◌++◌, map, nat_lt}
use Rattle.std.proofs.Math.Option.{some, none}
use Rattle.model.specs.Code.{pick, Prog}
use Rattle.model.specs.Machine.{St, Move, next, out, move, moves, begin}
use Rattle.machine.specs.Packed.{Packs}
use Rattle.machine.specs.Post.{Stepped}

-- the move that a word tells: the next instruction of the thread with this number; from 4 on, the oldest store of the
-- thread with 4 less going to memory
abbrev pub move_told : ℕ → Move
move_told w = pick (nat_lt w 4) (next w) (out (w - 4))

abbrev pub told : List ℕ → List Move
told ws = map move_told ws

-- the run ms comes to the state that the words are
abbrev pub Comes : Prog → List Move → List ℕ → Type 0
Comes p ms ws = (s : St) × (moves p (begin p) ms ≡ some s) × Packs ws s

-- some run does
abbrev pub Reached : Prog → List ℕ → Type 0
Reached p ws = (ms : List Move) × Comes p ms ws

-- the run ms can be made, and comes to the state that the words are; or it can't be made
abbrev pub Ran : Prog → List Move → Bool → List ℕ → Type 0
Ran p ms true ws = Comes p ms ws
Ran p ms false ws = moves p (begin p) ms ≡ none

-- one move more: the model's, and each run to the old state leads on by it to the new one; or it can't be made, and the
-- state is as it was
pub record Made (p : Prog) (w : ℕ) (ws : List ℕ) (r : Bool) (ws' : List ℕ) : Type 0 where
  pub stepped : Stepped (λ s. move p s (move_told w)) ws r ws'
  pub onward : (ms : List Move) → Comes p ms ws → Ran p (ms ++ move_told w ∷ []) r ws'
  pub kept : r ≡ false → ws' ≡ ws
