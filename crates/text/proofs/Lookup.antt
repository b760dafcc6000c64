-- Words looked up in a list of words.
use Rattle.std.proofs.Common.{◌≡◌, ℕ, suc, ◌+◌, Bool, true, false, not, cond, ◌||◌, nat_lt, Some, None, List, [], ◌∷◌, map, length, string_bytes, Decides, String, refl, ap, ◌∙◌, arith, rules}
use mathlib.Core.Option.{Option, some, none}
use Rattle.std.specs.declared.alloc.Global.{Global}
use Rattle.std.proofs.lemmas.Slice.Eq.{compares_Decides}
use Rattle.std.proofs.lemmas.Bool.{lt-ltb}
use Rattle.std.proofs.lemmas.Bool.Decides.{same_from_decides, nat_tests}
use Rattle.std.specs.List.{position, position_or_len, list_any}
use Rattle.model.specs.Code.{pick, opt}
use Rattle.text.specs.Bytes.{Word, same, index_of, has}
use Rattle.text.specs.declared.source.Thread.{Thread}
use Rattle.text.specs.Grammar.{names}
use Rattle.text.specs.Meaning.{words, column, option}

pub same_decides : (v w : Word) → Decides (same v w) (v ≡ w)
same_decides v w = compares_Decides same (search rules) v w

-- a test of equality answers as `same` does
pub same_is : (v w : Word) (r : Bool) → Decides r (v ≡ w) → r ≡ same v w
same_is v w r h = same_from_decides r (same v w) h (same_decides v w)

-- where `position` finds w among texts
pub index_found : (w : Word) (all : List (String Global)) → option (position (λ s. same w (string_bytes s)) all) ≡ index_of w (words all)
index_found w [] = refl
index_found w (s ∷ ss) = go (same w (string_bytes s)) (index_found w ss)
  where
    m : ℕ
    m = position_or_len (λ s. same w (string_bytes s)) ss

    step : (b : Bool) → option (cond b (Some (1 + m)) None) ≡ opt (option (cond b (Some m) None)) none (λ (k : ℕ). some (suc k))
    step true = let e : 1 + m ≡ suc m = omega arith in ap (λ (k : ℕ). some k) e
    step false = refl

    less : nat_lt (1 + m) (suc (length ss)) ≡ nat_lt m (length ss)
    less = grind (arith, nat_tests)

    go : (t : Bool) → option (position (λ s. same w (string_bytes s)) ss) ≡ index_of w (words ss) → option (cond (nat_lt (cond (not t) (1 + m) 0) (suc (length ss))) (Some (cond (not t) (1 + m) 0)) None) ≡ pick t (some 0) (opt (index_of w (words ss)) none (λ (k : ℕ). some (suc k)))
    go true ih = ap (λ (b : Bool). option (cond b (Some 0) None)) (lt-ltb 0 (suc (length ss)) (omega arith))
    go false ih =
        ap (λ (b : Bool). option (cond b (Some (1 + m)) None)) less ∙ step (nat_lt m (length ss)) ∙ ap (λ (o : Option ℕ). opt o none (λ (k : ℕ). some (suc k))) ih

-- whether one of the threads has this name
pub has_listed : (w : Word) (ts : List Thread) → list_any (λ t. same w (string_bytes t.name)) ts ≡ has w (names (map column ts))
has_listed w [] = refl
has_listed w (t ∷ ts) = ap (λ (b : Bool). same w (string_bytes t.name) || b) (has_listed w ts)
