-- None of the moves so far leads there.
use Rattle.std.proofs.Common.{◌≡◌, ℕ, suc, ◌<◌}
use Rattle.graph.proofs.walks.find_move.Given as goal

abbrev pub invariant-loop-m : goal.invariant-loop-m
invariant-loop-m g l = (k : ℕ) → k < l.m → g.R.Rule.next l.rule l.node k ≡ suc l.to → ⊥
