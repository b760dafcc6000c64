-- Sets of spots as the bits of a number, for four threads of eight instructions: the spot before instruction k of thread n
-- is the bit 31 - (8 * n + k), so that earlier spots are higher bits.
use Rattle.std.specs.Prelude.{ℕ, ◌+◌, ◌-◌, ◌*◌, ◌^◌, Bool, ◌&&◌, List, [], ◌∷◌, ◌==◌, bit_or, nat_lt}
use Rattle.model.specs.Code.{pick}
use Rattle.model.specs.Fences.{Spot}
use Rattle.model.specs.Guards.{Guard}
use Rattle.hitting.specs.Masks.{bit}

-- which bit the spot is
abbrev pub place : ℕ → ℕ → ℕ
place n k = 31 - (8 * n + k)

-- has the spot a bit
abbrev pub has_place : ℕ → ℕ → Bool
has_place n k = nat_lt n 4 && nat_lt k 8

-- the spot by itself as a number; 0 where it has no bit
unfoldable pub bit_of : ℕ → ℕ → ℕ
bit_of n k = pick (has_place n k) (2 ^ place n k) 0

-- a guard at each spot whose bit is set
unfoldable pub masked : ℕ → Guard
masked g n k = has_place n k && bit g (place n k) == 1

-- the spots of a list as a number
abbrev pub mask : List Spot → ℕ
mask [] = 0
mask (s ∷ ss) = bit_or (bit_of s.thread s.index) (mask ss)
