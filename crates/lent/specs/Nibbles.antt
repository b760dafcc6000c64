-- 4-bit fields of a number, the lowest first. Both are shut: at a numeral they would unfold into quotients of
-- quotients wherever they stand.
use Rattle.std.specs.Prelude.{ℕ, zero, suc, ◌+◌, ◌*◌, ◌/◌, ◌%◌, ◌<◌, List, [], ◌∷◌}

-- the k lowest fields of n
unfoldable pub nibbles : ℕ → ℕ → List ℕ
nibbles zero n = []
nibbles (suc k) n = n % 16 ∷ nibbles k (n / 16)

-- the number with these fields
unfoldable pub number : List ℕ → ℕ
number [] = 0
number (d ∷ ds) = d + 16 * number ds

-- every one of these is below n
abbrev pub AllBelow : ℕ → List ℕ → Type 0
AllBelow n [] = Unit {0}
AllBelow n (x ∷ xs) = (x < n) × AllBelow n xs
