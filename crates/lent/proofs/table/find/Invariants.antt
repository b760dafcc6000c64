-- The places passed hold other records; one before the end is free.
use Rattle.std.proofs.Common.{◌-◌}
use Rattle.lent.specs.Table.{places}
use Rattle.lent.proofs.Probing.{Looked}
use Rattle.lent.proofs.table.find.Given as goal

abbrev pub invariant-probe : goal.invariant-probe
invariant-probe l = Looked l.shape l.queue l.table l.n l.key l.at

abbrev pub decreases-probe : goal.decreases-probe
decreases-probe l = places l.shape - l.at
