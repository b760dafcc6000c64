-- What a store in a row of the code means.
use Rattle.std.specs.Prelude.{ℕ, ◌<◌, List, map, length, take, drop, slice_index_or}
use Rattle.model.specs.Machine.{Wait}
use Rattle.machine.specs.declared.stores.Store.{Store}

abbrev pub wait : Store → Wait
wait s = record { place = s.place.0; val = s.value }

-- the row that begins at 'begin' in these items and has so many stores, the oldest first
abbrev pub row : List Store → ℕ → ℕ → List Wait
row items begin len = map wait (take len (drop begin items))

-- every store names a place and has a number
abbrev pub AllSmall : List Store → Type 0
AllSmall items = (k : ℕ) (s : Store) → k < length items → ((slice_index_or items k s).place.0 < 8) × ((slice_index_or items k s).value < 16)
