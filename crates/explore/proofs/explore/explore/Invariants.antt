-- The states before i have had their turn.
use Rattle.std.proofs.Common.{◌≡◌, ◌-◌, length}
use Rattle.program.specs.Meaning.{program}
use Rattle.explore.specs.Post.{Between}
use Rattle.explore.proofs.explore.explore.Given as goal

abbrev pub invariant-states : goal.invariant-states
invariant-states l = record {
  between : Between (program l.p) l.records.shape l.limit l.records.queue.now l.records.table.now l.edges l.records.n l.i;
  words : length l.records.queue.now ≡ length l.initial.records.queue.now;
  queue : l.records.queue.ghost_name ≡ l.initial.records.queue.ghost_name;
  table : l.records.table.ghost_name ≡ l.initial.records.table.ghost_name;
}

abbrev pub decreases-states : goal.decreases-states
decreases-states l = l.limit - l.i
