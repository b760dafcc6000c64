-- A page filled cell by cell.
use Rattle.std.proofs.Common.{◌≡◌, ℕ, zero, suc, ◌<◌, ◌≤◌, List, [], ◌∷◌, length, get_or, set, refl, ap, ◌∙◌, arith}
use mathlib.Core.Option.{Option, some, none}
use Rattle.std.proofs.lemmas.Bool.{lt-ltb}
use Rattle.model.specs.Code.{opt, nth, put, I}
use Rattle.text.specs.Bytes.{Word, tokens}
use Rattle.text.specs.Grammar.{Places, Column, Page, instruction, longer, does, cell}
use Rattle.text.proofs.Picks.{pick_true, opt_is, opt_none}

module _ (ps : Places) (c : Column) where
  abbrev with : Places × I → Option (Places × Column)
  with q = some (q.0, longer c q.1)

  pub one_more : (ts : List Word) (qs : Places) (i : I) → 0 < length ts → length c.code < 8 → instruction ps ts ≡ some (qs, i) → does ps c ts ≡ some (qs, longer c i)
  one_more [] qs i l m e = absurd (omega arith)
  one_more (t ∷ ts) qs i l m e =
      pick_true _ _ (lt-ltb (length c.code) 8 m) ∙ opt_is none with e

pub nth_at : {A : Type 0} (xs : List A) (k : ℕ) (d : A) → k < length xs → nth xs k ≡ some (get_or xs k d)
nth_at [] k d l = absurd (omega arith)
nth_at (x ∷ xs) zero d l = refl
nth_at (x ∷ xs) (suc k) d l = nth_at xs k d (omega arith)

pub nth_past : {A : Type 0} (xs : List A) (k : ℕ) → length xs ≤ k → nth xs k ≡ none
nth_past [] k l = refl
nth_past (x ∷ xs) zero l = absurd (omega arith)
nth_past (x ∷ xs) (suc k) l = nth_past xs k (omega arith)

pub put_set : {A : Type 0} (xs : List A) (k : ℕ) (a : A) → put xs k a ≡ set xs k a
put_set [] k a = refl
put_set (x ∷ xs) zero a = refl
put_set (x ∷ xs) (suc k) a = ap (λ (ys : List _). x ∷ ys) (put_set xs k a)

module _ (k : ℕ) (s : Page) (bs : List ℕ) (c : Column) (here : nth s.columns k ≡ some c) where
  abbrev after_does : Places × Column → Option Page
  after_does q = some (record { columns = put s.columns k q.1; places = q.0 })

  abbrev after_tokens : List Word → Option Page
  after_tokens ts = opt (does s.places c ts) none after_does

  abbrev at_column : Column → Option Page
  at_column c = opt (tokens bs) none (λ (ts : List Word). opt (does s.places c ts) none after_does)

  pub cell_is : (ts : List Word) (qs : Places) (d : Column) → tokens bs ≡ some ts → does s.places c ts ≡ some (qs, d) → cell k s bs ≡ some (record { columns = put s.columns k d; places = qs })
  cell_is ts qs d e f = opt_is none at_column here ∙ opt_is none after_tokens e ∙ opt_is none after_does f

  pub cell_not : (ts : List Word) → tokens bs ≡ some ts → does s.places c ts ≡ none → cell k s bs ≡ none
  cell_not ts e f = opt_is none at_column here ∙ opt_is none after_tokens e ∙ opt_none none after_does f

pub cell_past : (k : ℕ) (s : Page) (bs : List ℕ) → length s.columns ≤ k → cell k s bs ≡ none
cell_past k s bs l =
    opt_none none (λ (c : Column). opt (tokens bs) none (λ (ts : List Word). opt (does s.places c ts) none (λ (q : Places × Column). some (record { columns = put s.columns k q.1; places = q.0 })))) (nth_past s.columns k l)
