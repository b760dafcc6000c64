-- Sets of bits as lists of spots. The spot s is the bit 31 - s, so that spots in ascending order are bits from the
-- highest down, and of two sets with equally many the one with the earlier list is the greater number.
use Rattle.std.specs.Prelude.{◌≡◌, ℕ, zero, suc, ◌+◌, ◌-◌, ◌/◌, ◌%◌, ◌^◌, ◌<◌, ◌≤◌, ◌⊎◌, List, [], ◌∷◌}

-- the set that has these spots
abbrev pub mask_of : List ℕ → ℕ
mask_of [] = 0
mask_of (s ∷ ss) = 2 ^ (31 - s) + mask_of ss

-- the spot s before the others, if its bit d is set
abbrev pub with_spot : ℕ → ℕ → List ℕ → List ℕ
with_spot zero s ss = ss
with_spot (suc d) s ss = s ∷ ss

-- the spots of a number with n bits, if its highest bit is the spot s
unfoldable pub spots : ℕ → ℕ → ℕ → List ℕ
spots zero s x = []
spots (suc n) s x = with_spot (x / 2 ^ n) s (spots n (suc s) (x % 2 ^ n))

-- the spots that the set has
unfoldable pub spots_of : ℕ → List ℕ
spots_of x = spots 32 0 x

-- each above the one before it, from s on and below 32
abbrev pub Ascends : ℕ → List ℕ → Type 0
Ascends s [] = Unit {0}
Ascends s (t ∷ ts) = (s ≤ t) × (t < 32) × Ascends (suc t) ts

-- the spot stands in the list
abbrev pub In : ℕ → List ℕ → Type 0
In s [] = ⊥
In s (t ∷ ts) = (s ≡ t) ⊎ In s ts

-- one list comes before another: by the first spot that differs
abbrev pub Before : List ℕ → List ℕ → Type 0
Before [] ts = ⊥
Before (s ∷ ss) [] = ⊥
Before (s ∷ ss) (t ∷ ts) = (s < t) ⊎ ((s ≡ t) × Before ss ts)
