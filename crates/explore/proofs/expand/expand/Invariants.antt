-- The moves before m are done, and at most one state came by each.
use Rattle.std.proofs.Common.{◌≡◌, ◌+◌, ◌≤◌, length}
use Rattle.program.specs.Meaning.{program}
use Rattle.explore.specs.Post.{Going}
use Rattle.explore.proofs.expand.expand.Given as goal

abbrev pub invariant-loop-m : goal.invariant-loop-m
invariant-loop-m l = record {
  going : Going (program l.p) l.records.shape l.limit l.records.queue.now l.records.table.now l.edges l.records.n l.i l.m;
  few : l.records.n ≤ l.initial.records.n + l.m;
  shape : l.records.shape ≡ l.initial.records.shape;
  words : length l.records.queue.now ≡ length l.initial.records.queue.now;
  places : length l.records.table.now ≡ length l.initial.records.table.now;
  queue : l.records.queue.ghost_name ≡ l.initial.records.queue.ghost_name;
  table : l.records.table.ghost_name ≡ l.initial.records.table.ghost_name;
}
