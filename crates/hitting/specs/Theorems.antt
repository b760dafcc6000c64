-- What is proved of sets of bits, as types: one sentence, one theorem.
use Rattle.std.specs.Prelude.{◌≡◌, ℕ, ◌-◌, ◌^◌, ◌<◌, ◌↔◌, List, length, count_ones}
use Rattle.hitting.specs.Masks.{bit}
use Rattle.hitting.specs.Spots.{mask_of, spots_of, Ascends, In, Before}

-- sets with the same bits are the same
abbrev pub SameBits : Type 0
SameBits = (x y : ℕ) → x < 2 ^ 32 → y < 2 ^ 32 → ((b : ℕ) → b < 32 → bit x b ≡ bit y b) → x ≡ y

-- at the highest bit where they differ, the greater has it
abbrev pub HighestDiffers : Type 0
HighestDiffers = (x y : ℕ) → x < 2 ^ 32 → y < 2 ^ 32 → (x < y) ↔ ((b : ℕ) × (bit y b ≡ 1) × (bit x b ≡ 0) × ((c : ℕ) → b < c → bit x c ≡ bit y c))

-- sets of bits and lists of spots are one another
abbrev pub SpotsOfSet : Type 0
SpotsOfSet = (x : ℕ) → x < 2 ^ 32 → Ascends 0 (spots_of x) × (mask_of (spots_of x) ≡ x)

abbrev pub SetOfSpots : Type 0
SetOfSpots = (ss : List ℕ) → Ascends 0 ss → (mask_of ss < 2 ^ 32) × (spots_of (mask_of ss) ≡ ss)

abbrev pub AsMany : Type 0
AsMany = (x : ℕ) → x < 2 ^ 32 → length (spots_of x) ≡ count_ones x

abbrev pub HasSpot : Type 0
HasSpot = (x s : ℕ) → x < 2 ^ 32 → In s (spots_of x) ↔ ((s < 32) × (bit x (31 - s) ≡ 1))

-- of sets with equally many bits, the one with the earlier list is the greater number
abbrev pub EarlierIsGreater : Type 0
EarlierIsGreater = (x y : ℕ) → x < 2 ^ 32 → y < 2 ^ 32 → count_ones x ≡ count_ones y → Before (spots_of x) (spots_of y) ↔ (y < x)

pub record Theorems : Type 0 where
  pub same_bits : SameBits
  pub highest_differs : HighestDiffers
  pub spots_of_set : SpotsOfSet
  pub set_of_spots : SetOfSpots
  pub as_many : AsMany
  pub has_spot : HasSpot
  pub earlier_is_greater : EarlierIsGreater
