-- What is told in words: the moves of a run, and spots for fences.
use Rattle.std.specs.Prelude.{ℕ, ◌+◌, List, [], ◌∷◌}
use Rattle.model.specs.Machine.{Move, next, out}
use Rattle.model.specs.Fences.{Spot}

-- a word for each move: the thread whose instruction is next, or 4 more than the thread whose oldest store goes to memory
abbrev pub text_ms : List Move → List ℕ
text_ms [] = []
text_ms (next n ∷ ms) = n ∷ text_ms ms
text_ms (out n ∷ ms) = (4 + n) ∷ text_ms ms

-- two words for each spot: its thread, and the instruction that the fence stands before
abbrev pub text_ss : List Spot → List ℕ
text_ss [] = []
text_ss (s ∷ ss) = s.thread ∷ s.index ∷ text_ss ss
