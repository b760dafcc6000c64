-- The two words hold the first k stores, and nothing above them.
use Rattle.std.proofs.Common.{◌≡◌, ◌*◌, ◌^◌, ◌<◌, map, take}
use Rattle.lent.specs.Nibbles.{number}
use Rattle.machine.specs.Stores.{wait}
use Rattle.machine.specs.Packed.{values, places}
use Rattle.machine.proofs.packed.pack_row.Given as goal

abbrev pub invariant-loop-k : goal.invariant-loop-k
invariant-loop-k l = record {
  values : l.values ≡ number (values (map wait (take l.k l.s-items)));
  values_below : l.values < 2 ^ (4 * l.k);
  places : l.places ≡ number (places (map wait (take l.k l.s-items)));
  places_below : l.places < 2 ^ (4 * l.k);
}
