-- What is promised of a run.
use Rattle.std.specs.Prelude.{◌≡◌, ℕ, ◌+◌, ◌*◌, List, length, take, Some, None, Option}
use Rattle.std.proofs.Math.Option.{none}
use Rattle.model.specs.Code.{Prog}
use Rattle.model.specs.Machine.{Move, moves, begin}
use Rattle.program.specs.Meaning.{program}
use Rattle.replay.specs.declared.runs.Run.{Run}
use Rattle.replay.specs.Runs.{Comes}

-- the words of the state that the run has come to
abbrev pub state : Run → List ℕ
state r = take (1 + 3 * length (program r.p)) r.words

-- all moves are made, and the run has come to where they lead; or they can't all be made
abbrev pub Replayed : Prog → List Move → Option Run → Type 0
Replayed p ms (Some r) = (program r.p ≡ p) × Comes p ms (state r)
Replayed p ms None = moves p (begin p) ms ≡ none
