-- The worked program: each statement computes.
use mathlib.Core.Path.{refl}
use Rattle.model.specs.StoreBuffering.{StoreBuffering}

pub store_buffering : StoreBuffering
store_buffering = record { waiting = (_, refl, refl, refl); at_once = (_, refl, refl, refl); fenced = refl; words = refl; good = tt }
