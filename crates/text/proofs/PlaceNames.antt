-- The cases of a place's name.
use Rattle.std.proofs.Common.{◌≡◌, ℕ, ◌<◌, true, false, not, [], ◌∷◌, ◌++◌, length, IsUtf8, ◌∙◌, arith}
use mathlib.Core.Option.{some, none}
use Rattle.std.specs.List.{AllByRecursion}
use Rattle.std.proofs.ByRecursion.{IsAscii-from_all}
use Rattle.std.proofs.lemmas.Str.{IsUtf8-from_ascii}
use Rattle.std.proofs.lemmas.Bool.{lt-ltb, and_parts}
use Rattle.std.proofs.lemmas.Bool.Decides.{nat_tests}
use Rattle.text.specs.Bytes.{Word, letter, all, empty, word, index_of}
use Rattle.text.specs.Grammar.{Places, numeral, by_numeral, by_word}
use Rattle.text.proofs.Picks.{pick_true, pick_false, opt_is, opt_none}

letter_ascii : (b : ℕ) → letter b ≡ true → b < 128
letter_ascii b e = grind (arith, nat_tests)

letters_ascii : (w : Word) → all letter w ≡ true → AllByRecursion (λ (b : ℕ). b < 128) w
letters_ascii [] e = tt
letters_ascii (b ∷ w) e = let p = and_parts (letter b) (all letter w) e in (letter_ascii b p.0, letters_ascii w p.1)

-- a word is text
pub word_utf8 : (w : Word) → word w ≡ true → IsUtf8 w
word_utf8 w e = IsUtf8-from_ascii w (IsAscii-from_all w (letters_ascii w (and_parts (not (empty w)) (all letter w) e).1))

module _ (ps : Places) (w : Word) where
  pub numeral_is : (x : ℕ) → empty ps.words ≡ true → numeral w ≡ some x → by_numeral ps w ≡ some (record { numerals = true; words = ps.words }, x)
  numeral_is x e f = pick_true _ _ e ∙ opt_is none (λ (x : ℕ). some (record { numerals = true; words = ps.words }, x)) f

  pub new : ps.numerals ≡ false → index_of w ps.words ≡ none → length ps.words < 8 → by_word ps w ≡ some (record { numerals = false; words = ps.words ++ w ∷ [] }, length ps.words)
  new e f l = pick_false _ _ e ∙ opt_none _ _ f ∙ pick_true _ _ (lt-ltb (length ps.words) 8 l)
