-- Lists of spots for fences as the bits of a number below 2 ^ 32. The spot before instruction k of thread n has the
-- position 8 * n + k and is the bit 31 less that, so that of lists of one length the first is the greatest number.
use Rattle.std.specs.Prelude.{ℕ, zero, suc, ◌+◌, ◌-◌, ◌*◌, ◌/◌, ◌%◌, Bool, ◌&&◌, List, [], ◌∷◌, ◌++◌, map, length, ◌==◌, nat_lt}
use Rattle.model.specs.Code.{Prog}
use Rattle.model.specs.Fences.{Spot}
use Rattle.hitting.specs.Masks.{bit}
use Rattle.hitting.specs.Spots.{mask_of, spots_of}

abbrev pub spot_of : ℕ → Spot
spot_of s = record { thread = s / 8; index = s % 8 }

abbrev pub position : Spot → ℕ
position a = 8 * a.thread + a.index

-- the spots of a mask, in order
abbrev pub spots : ℕ → List Spot
spots x = map spot_of (spots_of x)

-- the mask that has these spots
abbrev pub mask : List Spot → ℕ
mask ss = mask_of (map position ss)

-- as many positions, from s on
abbrev pub row : ℕ → ℕ → List ℕ
row s zero = []
row s (suc l) = s ∷ row (suc s) l

-- the positions of all instructions of these threads, of which the first is thread n
abbrev pub rows : ℕ → Prog → List ℕ
rows n [] = []
rows n (t ∷ ts) = row (8 * n) (length t) ++ rows (suc n) ts

-- the mask of all spots of a program
unfoldable pub every_spot : Prog → ℕ
every_spot p = mask_of (rows 0 p)

-- is the spot before instruction k of thread n one of the mask g
abbrev pub masked : ℕ → ℕ → ℕ → Bool
masked g n k = nat_lt k 8 && (nat_lt (8 * n + k) 32 && bit g (31 - (8 * n + k)) == 1)
