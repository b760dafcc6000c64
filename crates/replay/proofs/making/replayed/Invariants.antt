use Rattle.std.proofs.Common.{◌≡◌, take}
use Rattle.program.specs.Meaning.{program}
use Rattle.replay.specs.Runs.{told, Comes}
use Rattle.replay.specs.Post.{state}
use Rattle.replay.proofs.making.replayed.Given as goal

-- the moves so far are made
abbrev pub invariant-loop-word : goal.invariant-loop-word
invariant-loop-word l = (l.run.p ≡ l.initial.run.p) × Comes (program l.initial.run.p) (told (take l.word-index l.words)) (state l.run)
