-- The path so far is gone along, and nodes are words.
use Rattle.std.proofs.Common.{◌^◌, ◌<◌, drop}
use Rattle.guard.proofs.Along.{Goes}
use Rattle.guard.proofs.hits.States.run_hits.Given as goal

abbrev pub invariant-loop-by : goal.invariant-loop-by
invariant-loop-by l =
    (l.node < 2 ^ 32) × Goes l.self.threads l.self.queue.now l.self.edges.now l.path l.node (drop l.by-index l.path) l.passed
