-- What moves pass, over the words of the states that are explored, and which kept edges guards leave.
use Rattle.std.specs.Prelude.{◌≡◌, ℕ, zero, suc, ◌+◌, ◌*◌, ◌<◌, ◌≤◌, List, map, length, bit_and}
use Rattle.model.specs.Code.{Prog}
use Rattle.model.specs.Machine.{begin}
use Rattle.model.specs.Guards.{hit, hits}
use Rattle.graph.specs.Rules.{kept}
use Rattle.graph.specs.Walks.{Walk}
use Rattle.explore.specs.Found.{width, moves_of, move_of, state, Explored}
use Rattle.guard.specs.Masks.{bit_of, mask}

-- what the next instruction of thread n passes, if it is instruction pc and so many stores wait
abbrev pub word_bit : ℕ → ℕ → ℕ → ℕ
word_bit n pc zero = 0
word_bit n pc (suc waits) = bit_of n pc

-- what move m of state i passes, for t threads
unfoldable pub hit_bits : ℕ → List ℕ → ℕ → ℕ → ℕ
hit_bits t q i m = mask (hit (state t q i) (move_of t m))

-- the edge, if nothing that it passes is guarded
abbrev pub unless : ℕ → ℕ → ℕ
unless zero edge = edge
unless (suc k) edge = 0

-- where moves lead that the guards leave
abbrev pub guarded : ℕ → List ℕ → List ℕ → ℕ → ℕ → ℕ → ℕ
guarded t q g guards i m = unless (bit_and (hit_bits t q i m) guards) (kept g (moves_of t) i m)

-- where an edge may be asked for: its word and the state's words are there
pub record Askable (t : ℕ) (q g : List ℕ) (i m : ℕ) : Type 0 where
  pub few : t ≤ 4
  pub words : i * width t + width t ≤ length q
  pub edge : i * moves_of t + m < length g

-- r is what the moves of the path pass, if they are a walk over the kept edges
abbrev pub AllHits : ℕ → List ℕ → List ℕ → List ℕ → ℕ → Type 0
AllHits t q g path r = (p : Prog) (n j : ℕ) → length p ≡ t → Explored p q g n → Walk (kept g (moves_of t)) (moves_of t) 0 path j → r ≡ mask (hits p (begin p) (map (move_of t) path))
