-- The threads' names, and a line without its end and its comment.
use Rattle.std.proofs.Common.{◌≡◌, ℕ, zero, suc, ◌<◌, ◌≤◌, Bool, true, false, not, List, [], ◌∷◌, length, get_or, take, sym, ap, ◌∙◌, arith}
use mathlib.Core.Option.{Option, some, none}
use Rattle.std.proofs.lemmas.Bool.{lt-ltb, and_from, not_from_false, eq-eqb, ne_eqb}
use Rattle.model.specs.Code.{opt}
use Rattle.text.specs.Bytes.{Word, word, has, no_cr, tokens, run, all}
use Rattle.text.specs.Grammar.{Page, names, name, begin, begins}
use Rattle.text.proofs.Picks.{pick_true, pick_false, opt_is}
use Rattle.text.proofs.Runs.{run_all}

module _ (ns : List Word) (w : Word) where
  pub a_name : word w ≡ true → has w ns ≡ false → length ns < 4 → name ns (w ∷ []) ≡ some w
  a_name e f l = pick_true _ _ (and_from (word w) _ e (and_from (not (has w ns)) _ (not_from_false _ f) (lt-ltb (length ns) 4 l)))

module _ (s : Page) (c : List ℕ) (ts : List Word) (are : tokens c ≡ some ts) where
  abbrev named : List Word → Option Page
  named ts = opt (name (names s.columns) ts) none (λ (w : Word). some (begin s w))

  pub begins_is : (w : Word) → name (names s.columns) ts ≡ some w → begins s c ≡ some (begin s w)
  begins_is w e = opt_is none named are ∙ opt_is none (λ (w : Word). some (begin s w)) e

pub no_cr_off : (l : List ℕ) (n : ℕ) → suc n ≡ length l → get_or l n 0 ≡ 13 → take n l ≡ no_cr l
no_cr_off [] n e f = absurd (omega arith)
no_cr_off (b ∷ []) zero e f = sym (pick_true _ _ (eq-eqb b 13 f))
no_cr_off (b ∷ []) (suc n) e f = absurd (omega arith)
no_cr_off (b ∷ c ∷ l) zero e f = absurd (omega arith)
no_cr_off (b ∷ c ∷ l) (suc n) e f = ap (λ (r : List ℕ). b ∷ r) (no_cr_off (c ∷ l) n (omega arith) f)

pub no_cr_on : (l : List ℕ) (n : ℕ) → suc n ≡ length l → (get_or l n 0 ≡ 13 → ⊥) → l ≡ no_cr l
no_cr_on [] n e f = absurd (omega arith)
no_cr_on (b ∷ []) zero e f = sym (pick_false _ _ (ne_eqb b 13 f))
no_cr_on (b ∷ []) (suc n) e f = absurd (omega arith)
no_cr_on (b ∷ c ∷ l) zero e f = absurd (omega arith)
no_cr_on (b ∷ c ∷ l) (suc n) e f = ap (λ (r : List ℕ). b ∷ r) (no_cr_on (c ∷ l) n (omega arith) f)

-- each byte passes exactly if the run goes to the end
pub all_of : (f : ℕ → Bool) (bs : List ℕ) (n : ℕ) → n ≡ run f bs → length bs ≤ n → n ≤ length bs → all f bs ≡ true
all_of f bs n e l m = sym (run_all f bs) ∙ eq-eqb (run f bs) (length bs) (omega arith)

pub not_all_of : (f : ℕ → Bool) (bs : List ℕ) (n : ℕ) → n ≡ run f bs → n < length bs → all f bs ≡ false
not_all_of f bs n e l = sym (run_all f bs) ∙ ne_eqb (run f bs) (length bs) (λ h. omega arith)
