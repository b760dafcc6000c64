-- The tokens of what is printed.
use Rattle.std.proofs.Common.{◌≡◌, ℕ, zero, suc, ◌+◌, ◌-◌, ◌/◌, ◌%◌, ◌<◌, ◌≤◌, true, false, ◌&&◌, eqb, List, [], ◌∷◌, ◌++◌, replicate, decimal, sym, refl, ap, ◌∙◌, ⊎_elim, append_assoc, append-nil, arith}
use mathlib.Core.Option.{Option, some, none}
use Rattle.std.proofs.lemmas.Fmt.{decimal_digit, decimal_step}
use Rattle.std.proofs.lemmas.Bool.{and_parts, and_from, and_left, cases_lt}
use Rattle.std.proofs.lemmas.Bool.Decides.{nat_tests}
use Rattle.model.specs.Code.{opt}
use Rattle.text.specs.Bytes.{Word, within, digit, letter, sign, all, word, same, Scan, ended, scan, tokens_on}
use Rattle.text.specs.Grammar.{register, number, numeral}
use Rattle.text.specs.Shows.{show_register}
use Rattle.text.proofs.Picks.{pick_true}
use Rattle.text.proofs.Runs.{Stops}
use Rattle.text.proofs.Scanning.{at, step, scan_letter, end_word}

letters_on : (ts : List Word) (v w rest : List ℕ) → all letter w ≡ true → tokens_on (at ts v) (w ++ rest) ≡ tokens_on (at ts (v ++ w)) rest
letters_on ts v [] rest e = ap (λ (u : Word). tokens_on (at ts u) rest) (sym (append-nil v))
letters_on ts v (b ∷ w) rest e =
    let p = and_parts (letter b) (all letter w) e in
    step (at ts v) (at ts (v ++ b ∷ [])) b (w ++ rest) (scan_letter (at ts v) b p.0)
    ∙ letters_on ts (v ++ b ∷ []) w rest p.1
    ∙ ap (λ (u : Word). tokens_on (at ts u) rest) (append_assoc v (b ∷ []) w)

-- a word, and then something else
pub spell_word : (ts : List Word) (w rest : List ℕ) → word w ≡ true → Stops letter rest → tokens_on (at ts []) (w ++ rest) ≡ tokens_on (at (ts ++ w ∷ []) []) rest
spell_word ts [] rest e h = absurd (let z : ◌≡◌ {A = ℕ} 0 1 = cc in omega arith)
spell_word ts (b ∷ w) rest e h = letters_on ts [] (b ∷ w) rest e ∙ end_word ts b w rest h

pub spell_last : (ts : List Word) (w : Word) → word w ≡ true → tokens_on (at ts []) w ≡ some (ts ++ w ∷ [])
spell_last ts w e = ap (tokens_on (at ts [])) (sym (append-nil w)) ∙ spell_word ts w [] e tt

-- blanks behind a cell say nothing
blanks_end : (s : Scan) (n : ℕ) → tokens_on s (replicate n 32) ≡ some (ended s.found s.begun)
blanks_end s zero = refl
blanks_end s (suc n) = blanks_end (at (ended s.found s.begun) []) n

pub trailing : (s : Scan) (c : List ℕ) (n : ℕ) → tokens_on s (c ++ replicate n 32) ≡ tokens_on s c
trailing s [] n = blanks_end s n
trailing s (b ∷ c) n = go (scan s b) (λ t. trailing t c n)
  where
    go : (o : Option Scan) → ((t : Scan) → tokens_on t (c ++ replicate n 32) ≡ tokens_on t c) → opt o none (λ (t : Scan). tokens_on t (c ++ replicate n 32)) ≡ opt o none (λ (t : Scan). tokens_on t c)
    go none h = refl
    go (some t) h = h t

-- a word is no sign
pub word_no_sign : (w : Word) (b : ℕ) → word w ≡ true → sign b ≡ true → same w (b ∷ []) ≡ false
word_no_sign [] b e f = refl
word_no_sign (c ∷ w) b e f = and_left (eqb c b) (same w []) (no_sign c (and_parts (letter c) (all letter w) e).0)
  where
    no_sign : (c : ℕ) → letter c ≡ true → eqb c b ≡ false
    no_sign c g = grind (arith, nat_tests)

-- numbers as they are printed
digit_letter : (b : ℕ) → b < 10 → letter (48 + b) ≡ true
digit_letter b l = grind (arith, nat_tests)

one_digit : (n : ℕ) → n < 10 → word (decimal n) ≡ true
one_digit n l = ap word (decimal_digit n l) ∙ and_from (letter (48 + n)) true (digit_letter n l) refl

two_digits : (n : ℕ) → 10 ≤ n → n < 16 → decimal n ≡ 49 ∷ (38 + n) ∷ []
two_digits n l m =
    let e : n / 10 ≡ 1 = omega arith in
    let d : 48 + n % 10 ≡ 38 + n = omega arith in
    decimal_step n l (omega arith) ∙ (λ i. decimal (e i) ++ d i ∷ []) ∙ ap (λ (ds : List ℕ). ds ++ (38 + n) ∷ []) (decimal_digit 1 (omega arith))

pub number_word : (n : ℕ) → n < 16 → word (decimal n) ≡ true
number_word n l = ⊎_elim (one_digit n) (λ m. ap word (two_digits n m l) ∙ and_from (letter (38 + n)) true (second m) refl) (cases_lt n 10)
  where
    second : 10 ≤ n → letter (38 + n) ≡ true
    second m = grind (arith, nat_tests)

back : (n : ℕ) → 48 + n - 48 ≡ n
back n = omega arith

pub number_read : (n : ℕ) → n < 16 → number (decimal n) ≡ some n
number_read n l =
    ⊎_elim
    (λ m. ap number (decimal_digit n m) ∙ pick_true _ _ (first m) ∙ ap (λ (k : ℕ). some k) (back n))
    (λ m. ap number (two_digits n m l) ∙ pick_true _ _ (second m) ∙ ap (λ (k : ℕ). some k) (after n))
    (cases_lt n 10)
  where
    first : n < 10 → digit (48 + n) ≡ true
    first m = grind (arith, nat_tests)

    second : 10 ≤ n → (eqb 49 49 && within 48 53 (38 + n)) ≡ true
    second m = grind (arith, nat_tests)

    after : (n : ℕ) → 38 + n - 38 ≡ n
    after n = omega arith

pub register_word : (r : ℕ) → r < 4 → word (show_register r) ≡ true
register_word r l = ap (λ (ds : List ℕ). word (114 ∷ ds)) (decimal_digit r (omega arith)) ∙ and_from (letter (48 + r)) true (digit_letter r (omega arith)) refl

pub register_read : (r : ℕ) → r < 4 → register (show_register r) ≡ some r
register_read r l = ap (λ (ds : List ℕ). register (114 ∷ ds)) (decimal_digit r (omega arith)) ∙ pick_true _ _ small ∙ ap (λ (k : ℕ). some k) (back r)
  where
    small : within 48 51 (48 + r) ≡ true
    small = grind (arith, nat_tests)

pub numeral_digits : (x : ℕ) → x < 8 → all digit (decimal x) ≡ true
numeral_digits x l = ap (all digit) (decimal_digit x (omega arith)) ∙ and_from (digit (48 + x)) true small refl
  where
    small : digit (48 + x) ≡ true
    small = grind (arith, nat_tests)

pub numeral_read : (x : ℕ) → x < 8 → numeral (decimal x) ≡ some x
numeral_read x l = ap numeral (decimal_digit x (omega arith)) ∙ pick_true _ _ small ∙ ap (λ (k : ℕ). some k) (back x)
  where
    small : within 48 55 (48 + x) ≡ true
    small = grind (arith, nat_tests)
