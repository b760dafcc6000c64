-- The hash of a list of words, of 64 bits: a polynomial in the words, two of them at a step, and its high half folded onto
-- the low one and spread again, so that words that differ in few bits differ in the highest bits of the hash.
use Rattle.std.specs.Prelude.{ℕ, ◌+◌, ◌*◌, ◌/◌, ◌%◌, ◌^◌, List, [], ◌∷◌, bit_xor}

-- two words more
unfoldable pub stir : ℕ → ℕ → ℕ → ℕ
stir h a b = ((h * 0x9e37_79b9_7f4a_7c15) % 2 ^ 64 + (a * 0xd6e8_feb9 + b)) % 2 ^ 64

unfoldable pub spread : ℕ → ℕ
spread h = (bit_xor h (h / 2 ^ 32) * 0xbf58_476d_1ce4_e5b9) % 2 ^ 64

abbrev pub hash_from : ℕ → List ℕ → ℕ
hash_from h [] = spread h
hash_from h (a ∷ []) = spread (stir h a 0)
hash_from h (a ∷ b ∷ ws) = hash_from (stir h a b) ws

unfoldable pub hash_of : List ℕ → ℕ
hash_of ws = hash_from 0 ws
