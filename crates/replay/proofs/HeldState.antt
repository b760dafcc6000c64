-- The state that a run comes to is one of its program.
use Rattle.std.proofs.Common.{ℕ, List}
use Rattle.model.specs.Code.{Prog}
use Rattle.model.proofs.Levels.{run_threads}
use Rattle.machine.specs.Post.{Holds}
use Rattle.replay.specs.Runs.{Reached}

pub reached_holds : (p : Prog) (ws : List ℕ) → Reached p ws → Holds p ws
reached_holds p ws r = let (ms, z) = r in let (s, run, k) = z in (s, k, run_threads p ms s run)
