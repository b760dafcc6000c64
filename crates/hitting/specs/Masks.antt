-- Numbers as sets: the bit b of a number says whether b is in it. A clause is such a set too.
use Rattle.std.specs.Prelude.{◌≡◌, ℕ, ◌/◌, ◌%◌, ◌^◌, ◌<◌, List, length, bit_and, slice_index}

-- the bit b of x, 0 or 1
unfoldable pub bit : ℕ → ℕ → ℕ
bit x b = x / 2 ^ b % 2

-- every bit of x is one of u
abbrev pub Within : ℕ → ℕ → Type 0
Within x u = bit_and x u ≡ x

-- x shares a bit with every clause
abbrev pub Meets : List ℕ → ℕ → Type 0
Meets cs x = (k : ℕ) → k < length cs → 0 < bit_and x (slice_index cs k)

-- x shares no bit with some clause
abbrev pub Misses : List ℕ → ℕ → Type 0
Misses cs x = (k : ℕ) × (k < length cs) × (bit_and x (slice_index cs k) ≡ 0)
