-- What is read of the stores so far.
use Rattle.std.proofs.Common.{◌≡◌, map, take}
use Rattle.model.specs.Machine.{newest}
use Rattle.machine.specs.Stores.{wait}
use Rattle.machine.proofs.rows.Row.newest.Given as goal

abbrev pub invariant-loop-s : goal.invariant-loop-s
invariant-loop-s l = l.value ≡ newest (map wait (take l.s-index l.s-items)) l.place.0 l.memory
