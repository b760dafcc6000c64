-- What printed lines are made of, and how they are cut again.
use Rattle.std.proofs.Common.{◌≡◌, ℕ, zero, suc, Bool, true, false, ◌||◌, eqb, List, [], ◌∷◌, ◌++◌, length, take, replicate, refl, ap, ◌∙◌, arith}
use Rattle.std.proofs.lemmas.List.{take_all}
use Rattle.std.proofs.lemmas.Bool.{and_parts, and_from, eq-eqb, not-true}
use Rattle.std.proofs.lemmas.Bool.Decides.{nat_tests}
use Rattle.text.specs.Bytes.{letter, sign, plain, all, but, run, cut, pieces, before, no_cr}
use Rattle.text.proofs.Picks.{pick_false}
use Rattle.text.proofs.Runs.{run_on}

-- what cells are made of: letters, blanks and signs
abbrev pub tidy : ℕ → Bool
tidy b = letter b || (eqb b 32 || sign b)

-- what lines are made of: cells and bars
abbrev pub lined : ℕ → Bool
lined b = tidy b || eqb b 124

pub all_append : (f : ℕ → Bool) (xs ys : List ℕ) → all f xs ≡ true → all f ys ≡ true → all f (xs ++ ys) ≡ true
all_append f [] ys e h = h
all_append f (x ∷ xs) ys e h = let p = and_parts (f x) (all f xs) e in and_from (f x) (all f (xs ++ ys)) p.0 (all_append f xs ys p.1 h)

pub all_weaker : (f g : ℕ → Bool) → ((b : ℕ) → f b ≡ true → g b ≡ true) → (xs : List ℕ) → all f xs ≡ true → all g xs ≡ true
all_weaker f g h [] e = refl
all_weaker f g h (x ∷ xs) e = let p = and_parts (f x) (all f xs) e in and_from (g x) (all g xs) (h x p.0) (all_weaker f g h xs p.1)

pub all_replicate : (f : ℕ → Bool) (n b : ℕ) → f b ≡ true → all f (replicate n b) ≡ true
all_replicate f zero b e = refl
all_replicate f (suc n) b e = and_from (f b) (all f (replicate n b)) e (all_replicate f n b e)

letter_tidy : (b : ℕ) → letter b ≡ true → tidy b ≡ true
letter_tidy b e = grind (arith, nat_tests)

pub word_tidy : (w : List ℕ) → all letter w ≡ true → all tidy w ≡ true
word_tidy = all_weaker letter tidy letter_tidy

tidy_lined : (b : ℕ) → tidy b ≡ true → lined b ≡ true
tidy_lined b e = grind (arith, nat_tests)

pub lined_from : (w : List ℕ) → all tidy w ≡ true → all lined w ≡ true
lined_from = all_weaker tidy lined tidy_lined

tidy_no_bar : (b : ℕ) → tidy b ≡ true → but 124 b ≡ true
tidy_no_bar b e = grind (arith, nat_tests)

pub no_bar : (w : List ℕ) → all tidy w ≡ true → all (but 124) w ≡ true
no_bar = all_weaker tidy (but 124) tidy_no_bar

lined_plain : (b : ℕ) → lined b ≡ true → plain b ≡ true
lined_plain b e = grind (arith, nat_tests)

lined_no_end : (b : ℕ) → lined b ≡ true → but 10 b ≡ true
lined_no_end b e = grind (arith, nat_tests)

lined_no_cr : (b : ℕ) → lined b ≡ true → but 13 b ≡ true
lined_no_cr b e = grind (arith, nat_tests)

lined_no_hash : (b : ℕ) → lined b ≡ true → but 35 b ≡ true
lined_no_hash b e = grind (arith, nat_tests)

run_whole : (f : ℕ → Bool) (bs : List ℕ) → all f bs ≡ true → run f bs ≡ length bs
run_whole f [] e = refl
run_whole f (b ∷ bs) e = let p = and_parts (f b) (all f bs) e in run_on f b bs p.0 ∙ ap suc (run_whole f bs p.1)

pub before_whole : (s : ℕ) (bs : List ℕ) → all (but s) bs ≡ true → before s bs ≡ bs
before_whole s bs e = ap (λ (n : ℕ). take n bs) (run_whole (but s) bs e) ∙ take_all (length bs) bs (omega arith)

no_cr_whole : (bs : List ℕ) → all (but 13) bs ≡ true → no_cr bs ≡ bs
no_cr_whole [] e = refl
no_cr_whole (b ∷ []) e = pick_false _ _ (not-true (eqb b 13) (and_parts (but 13 b) true e).0)
no_cr_whole (b ∷ c ∷ bs) e = ap (λ (r : List ℕ). b ∷ r) (no_cr_whole (c ∷ bs) (and_parts (but 13 b) (all (but 13) (c ∷ bs)) e).1)

module _ (bs : List ℕ) (e : all lined bs ≡ true) where
  pub line_plain : all plain (no_cr bs) ≡ true
  line_plain = ap (all plain) (no_cr_whole bs (all_weaker lined (but 13) lined_no_cr bs e)) ∙ all_weaker lined plain lined_plain bs e

  pub line_content : before 35 (no_cr bs) ≡ bs
  line_content = ap (before 35) (no_cr_whole bs (all_weaker lined (but 13) lined_no_cr bs e)) ∙ before_whole 35 bs (all_weaker lined (but 35) lined_no_hash bs e)

  pub no_line_end : all (but 10) bs ≡ true
  no_line_end = all_weaker lined (but 10) lined_no_end bs e

-- cut where the separator stands
pub pieces_at : (s : ℕ) (p rest : List ℕ) → all (but s) p ≡ true → pieces s (p ++ s ∷ rest) ≡ p ∷ pieces s rest
pieces_at s [] rest e = ap (λ (t : Bool). cut t s (pieces s rest)) (eq-eqb s s refl)
pieces_at s (b ∷ p) rest e =
    let q = and_parts (but s b) (all (but s) p) e in
    ap (λ (t : Bool). cut t b (pieces s (p ++ s ∷ rest))) (not-true (eqb b s) q.0) ∙ ap (cut false b) (pieces_at s p rest q.1)

pub pieces_one : (s : ℕ) (p : List ℕ) → all (but s) p ≡ true → pieces s p ≡ p ∷ []
pieces_one s [] e = refl
pieces_one s (b ∷ p) e =
    let q = and_parts (but s b) (all (but s) p) e in
    ap (λ (t : Bool). cut t b (pieces s p)) (not-true (eqb b s) q.0) ∙ ap (cut false b) (pieces_one s p q.1)
