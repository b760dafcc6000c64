-- What the kinds of bytes mean, and what cutting a piece or a token off promises.
use Rattle.std.specs.Prelude.{◌≡◌, ℕ, ◌+◌, ◌<◌, ◌≤◌, Bool, false, List, [], ◌∷◌, ◌++◌, length, take, drop, slice_index, Some, None}
use Rattle.std.specs.Borrow.{Bor}
use Rattle.std.specs.Iterator.{Count, at_most}
use Rattle.std.specs.declared.option.Option as std
use Rattle.std.proofs.Math.Option.{none}
use Rattle.text.specs.declared.bytes.Kind.{Kind}
use Rattle.text.specs.declared.bytes.Kind.TheVariants.{Letter, Digit, Blank, Sign, Plain, But}
use Rattle.text.specs.declared.pieces.Pieces.{Pieces}
use Rattle.text.specs.Bytes.{Word, letter, digit, blank, sign, plain, but, pieces, tokens_on}

abbrev pub test : Kind → ℕ → Bool
test Letter = letter
test Digit = digit
test Blank = blank
test Sign = sign
test Plain = plain
test (But s) = but s

-- the first n bytes of bs are its first token, or none begins there
pub record FirstToken (bs : List ℕ) (n : ℕ) : Type 0 where
  pub within : n ≤ length bs
  pub refused : n ≡ 0 → 0 < length bs → blank (slice_index bs 0) ≡ false → (ts : List Word) → tokens_on (record { found = ts; begun = [] }) bs ≡ none
  pub cut : 0 < n → (ts : List Word) → tokens_on (record { found = ts; begun = [] }) bs ≡ tokens_on (record { found = ts ++ take n bs ∷ []; begun = [] }) (drop n bs)

-- the first n bytes of bs are its first token; or none begins there
abbrev pub BeginsToken : List ℕ → std.Option ℕ → Type 0
BeginsToken bs None = FirstToken bs 0
BeginsToken bs (Some n) = (0 < n) × FirstToken bs n

-- the pieces that are left of a text; none behind the last
abbrev pub pieces_in : ℕ → std.Option (Bor (List ℕ)) → List (List ℕ)
pieces_in s None = []
pieces_in s (Some bs) = pieces s bs.now

abbrev pub left : Pieces → List (List ℕ)
left p = pieces_in p.stop p.rest

-- no more come than there are bytes, and one
abbrev pub more_in : std.Option (Bor (List ℕ)) → Count
more_in None = at_most 0
more_in (Some bs) = at_most (length bs.now + 1)

abbrev pub more : Pieces → Count
more p = more_in p.rest
