-- Laws of records: what a record is made of, and what leaves it unchanged.
use Rattle.std.proofs.Common.{◌≡◌, ℕ, ◌+◌, ◌-◌, ◌*◌, ◌<◌, ◌≤◌, List, length, get_or, take, drop, sym, refl, ap, ◌∙◌, inl, inr, add-mul, one-mul, arith}
use borrow.Rule.Slice.PartMut.{put_mid}
use Rattle.std.proofs.lemmas.List.{length-take-le, length-drop, drop-take, take-take, get_or-take, get_or-drop}
use Rattle.std.proofs.lemmas.Slice.{between-put_mid}
use Rattle.std.proofs.lemmas.Nat.{mul-le}
use Rattle.std.proofs.lemmas.Bool.{cases_eq}
use Rattle.lent.specs.Records.{rec, Apart}

pub rec_is : (q : List ℕ) (w i : ℕ) → rec q w i ≡ take w (drop (i * w) q)
unfolding rec
rec_is q w i = refl

-- one record more is w words more
pub more_words : (i w : ℕ) → (i + 1) * w ≡ i * w + w
more_words i w = add-mul i 1 w ∙ ap (λ x. i * w + x) (one-mul w)

-- record i ends before the words of n records do
pub ends_within : (w n i : ℕ) → i < n → i * w + w ≤ n * w
ends_within w n i h = omega (arith, more_words i w, mul-le (i + 1) w n w (omega arith) (omega arith))

pub length_rec : (q : List ℕ) (w i : ℕ) → i * w + w ≤ length q → length (rec q w i) ≡ w
unfolding rec
length_rec q w i h = length-take-le w (drop (i * w) q) (omega (arith, length-drop (i * w) q))

pub slice_index_rec : (q : List ℕ) (w i k d : ℕ) → k < w → get_or (rec q w i) k d ≡ get_or q (i * w + k) d
unfolding rec
slice_index_rec q w i k d h = get_or-take w (drop (i * w) q) k d h ∙ get_or-drop (i * w) q k d

-- record i of the front of a row
pub rec_take : (q : List ℕ) (w m i : ℕ) → i * w + w ≤ m → rec (take m q) w i ≡ rec q w i
unfolding rec
rec_take q w m i h =
    sym (drop-take (i * w) w (take m q)) ∙ ap (drop (i * w)) (take-take (i * w + w) m q h) ∙ drop-take (i * w) w q

-- what leaves the words of the first n records leaves these records
pub rec_kept : (q q' : List ℕ) (w n i : ℕ) → take (n * w) q' ≡ take (n * w) q → i < n → rec q' w i ≡ rec q w i
rec_kept q q' w n i e h =
    let m = ends_within w n i h in
    sym (rec_take q' w (n * w) i m) ∙ ap (λ x. rec x w i) e ∙ rec_take q w (n * w) i m

-- the part of the words that is record i, as the code cuts it out
pub rec_part : (q : List ℕ) (w i : ℕ) → take (i * w + w - i * w) (drop (i * w) q) ≡ rec q w i
unfolding rec
rec_part q w i = let e : i * w + w - i * w ≡ w = omega arith in ap (λ x. take x (drop (i * w) q)) e

-- record i, written over
pub rec_put : (q key : List ℕ) (w i : ℕ) → i * w + w ≤ length q → length key ≡ w → rec (put_mid (i * w) (i * w + w - i * w) q key) w i ≡ key
rec_put q key w i h e =
    sym (rec_part (put_mid (i * w) (i * w + w - i * w) q key) w i)
    ∙ between-put_mid (i * w) (i * w + w - i * w) q key (i * w + w) (omega arith) (omega arith)

-- one more record, which none of the others was
pub apart_more : (q q' : List ℕ) (w n : ℕ) (key : List ℕ) → Apart q w n → take (n * w) q' ≡ take (n * w) q → rec q' w n ≡ key → ((i : ℕ) → i < n → rec q w i ≡ key → ⊥) → Apart q' w (n + 1)
apart_more q q' w n key apart kept here new i j l m e =
    let old = rec_kept q q' w n in
    elim (cases_eq j n) [
      | inl last ↦ new i (omega arith) (sym (old i kept (omega arith)) ∙ e ∙ ap (rec q' w) last ∙ here)
      | inr ne ↦ apart i j l (omega arith) (sym (old i kept (omega arith)) ∙ e ∙ old j kept (omega arith))
    ]
