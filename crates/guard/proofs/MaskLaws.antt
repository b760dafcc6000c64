-- Sets of spots as numbers: which bits are set.
use Rattle.std.proofs.Common.{◌≡◌, ℕ, ◌^◌, ◌<◌, ◌≤◌, true, false, eqb, ltb, ◌⊎◌, List, [], ◌∷◌, ◌++◌, sym, ap, ◌∙◌, inl, inr, arith}
use lib.Bits.{bit_and, bit_or, or_lt, or_zero_l}
use Rattle.std.proofs.lemmas.Nat.{pow_below}
use Rattle.std.proofs.lemmas.Bool.{cases_lt, cases_eq, lt-ltb, le-ltb, and_from, and_left, and_right}
use Rattle.model.specs.Code.{pick}
use Rattle.model.specs.Fences.{Spot}
use Rattle.model.specs.Guards.{On, on_first, on_more}
use Rattle.model.proofs.Tools.{false_true, and_both, eqb_is}
use Rattle.model.proofs.RunsUnderGuards.{on_inv}
use Rattle.hitting.specs.Masks.{bit}
use Rattle.hitting.proofs.Bits.{bit_lt, bit_of_or, bit_one, bit_other, some_bit, same_bits, shared_bit, bit_shared}
use Rattle.guard.specs.Masks.{place, has_place, bit_of, masked, mask}

-- which spots have a bit
pub placed : (n k : ℕ) → n < 4 → k < 8 → has_place n k ≡ true
placed n k h l = and_from (ltb n 4) (ltb k 8) (lt-ltb n 4 h) (lt-ltb k 8 l)

pub placed_or : (n k : ℕ) → ((n < 4) × (k < 8)) ⊎ (has_place n k ≡ false)
placed_or n k =
    elim (cases_lt n 4) [
      | inl h ↦ elim (cases_lt k 8) [ inl l ↦ inl (h, l) | inr l ↦ inr (and_right (ltb n 4) (ltb k 8) (le-ltb k 8 l)) ]
      | inr h ↦ inr (and_left (ltb n 4) (ltb k 8) (le-ltb n 4 h))
    ]

-- one spot
pub bit_of_is : (n k : ℕ) → n < 4 → k < 8 → bit_of n k ≡ 2 ^ place n k
unfolding bit_of
bit_of_is n k h l = ap (λ b. pick b (2 ^ place n k) 0) (placed n k h l)

pub bit_of_none : (n k : ℕ) → has_place n k ≡ false → bit_of n k ≡ 0
unfolding bit_of
bit_of_none n k e = ap (λ b. pick b (2 ^ place n k) 0) e

pub bit_of_past : (n k : ℕ) → 8 ≤ k → bit_of n k ≡ 0
bit_of_past n k h = bit_of_none n k (and_right (ltb n 4) (ltb k 8) (le-ltb k 8 h))

pub bit_of_below : (n k : ℕ) → bit_of n k < 2 ^ 32
bit_of_below n k =
    elim (placed_or n k) [
      | inl h ↦ let e = bit_of_is n k h.0 h.1 in let p = pow_below (place n k) 32 (omega arith) in omega arith
      | inr z ↦ let e = bit_of_none n k z in omega arith
    ]

bit_set : (n k b : ℕ) → bit (bit_of n k) b ≡ 1 → (n < 4) × (k < 8) × (place n k ≡ b)
bit_set n k b e =
    elim (placed_or n k) [
      | inl h ↦
          let f : bit (2 ^ place n k) b ≡ 1 = ap (λ x. bit x b) (sym (bit_of_is n k h.0 h.1)) ∙ e in
          elim (cases_eq b (place n k)) [ inl s ↦ (h.0, h.1, sym s) | inr ne ↦ let z = bit_other (place n k) b ne in absurd (omega arith) ]
      | inr z ↦ let s = some_bit (bit_of n k) b e in let o = bit_of_none n k z in absurd (omega arith)
    ]

-- a guarded spot
pub masked_at : (g n k : ℕ) → masked g n k ≡ true → (n < 4) × (k < 8) × (bit g (place n k) ≡ 1)
unfolding masked
masked_at g n k e =
    let (h, b) = and_both (has_place n k) (eqb (bit g (place n k)) 1) e in
    elim (placed_or n k) [ inl l ↦ (l.0, l.1, eqb_is (bit g (place n k)) 1 b) | inr z ↦ absurd (false_true (sym z ∙ h)) ]

pub at_masked : (g n k : ℕ) → n < 4 → k < 8 → bit g (place n k) ≡ 1 → masked g n k ≡ true
unfolding masked
at_masked g n k h l e = and_from (has_place n k) (eqb (bit g (place n k)) 1) (placed n k h l) (ap (λ b. eqb b 1) e)

-- the spots of a list, as bits and back
pub mask_below : (ss : List Spot) → mask ss < 2 ^ 32
mask_below [] = omega arith
mask_below (s ∷ ss) = or_lt 32 (bit_of s.thread s.index) (mask ss) (bit_of_below s.thread s.index) (mask_below ss)

pub on_mask : (ss : List Spot) (a : Spot) → On a ss → a.thread < 4 → a.index < 8 → bit (mask ss) (place a.thread a.index) ≡ 1
on_mask [] a o h l = absurd (on_inv o)
on_mask (s ∷ ss) a o h l =
    let b = place a.thread a.index in
    let or = bit_of_or (bit_of s.thread s.index) (mask ss) b in
    let x = bit_lt (bit_of s.thread s.index) b in
    let y = bit_lt (mask ss) b in
    elim (on_inv o) [
      | inl e ↦
          let f : bit (bit_of s.thread s.index) b ≡ 1 = ap (λ (z : Spot). bit (bit_of z.thread z.index) b) (sym e) ∙ ap (λ z. bit z b) (bit_of_is a.thread a.index h l) ∙ bit_one b in
          omega arith
      | inr m ↦ let i = on_mask ss a m h l in omega arith
    ]

pub mask_on : (ss : List Spot) (b : ℕ) → bit (mask ss) b ≡ 1 → (a : Spot) × On a ss × (a.thread < 4) × (a.index < 8) × (place a.thread a.index ≡ b)
mask_on [] b e = let z = some_bit 0 b e in absurd (omega arith)
mask_on (s ∷ ss) b e =
    let x = bit_lt (bit_of s.thread s.index) b in
    let or = bit_of_or (bit_of s.thread s.index) (mask ss) b in
    elim (cases_eq (bit (bit_of s.thread s.index) b) 1) [
      | inl f ↦ let (h, l, q) = bit_set s.thread s.index b f in (s, on_first, h, l, q)
      | inr f ↦
          let y = bit_lt (mask ss) b in
          let (a, o, h, l, q) = mask_on ss b (omega arith) in
          (a, on_more o, h, l, q)
    ]

-- one list behind another
or_assoc : (n x y z : ℕ) → x < 2 ^ n → y < 2 ^ n → z < 2 ^ n → bit_or (bit_or x y) z ≡ bit_or x (bit_or y z)
or_assoc n x y z h k l =
    same_bits n (bit_or (bit_or x y) z) (bit_or x (bit_or y z)) (or_lt n (bit_or x y) z (or_lt n x y h k) l) (or_lt n x (bit_or y z) h (or_lt n y z k l))
    (λ b u. let a = bit_of_or (bit_or x y) z b in let c = bit_of_or x y b in let d = bit_of_or x (bit_or y z) b in let e = bit_of_or y z b in omega arith)

pub mask_append : (ss ts : List Spot) → mask (ss ++ ts) ≡ bit_or (mask ss) (mask ts)
mask_append [] ts = sym (or_zero_l (mask ts))
mask_append (s ∷ ss) ts =
    ap (bit_or (bit_of s.thread s.index)) (mask_append ss ts)
    ∙ sym (or_assoc 32 (bit_of s.thread s.index) (mask ss) (mask ts) (bit_of_below s.thread s.index) (mask_below ss) (mask_below ts))

pub or_append : (x : ℕ) (ss ts : List Spot) → x < 2 ^ 32 → bit_or (bit_or x (mask ss)) (mask ts) ≡ bit_or x (mask (ss ++ ts))
or_append x ss ts h = or_assoc 32 x (mask ss) (mask ts) h (mask_below ss) (mask_below ts) ∙ ap (bit_or x) (sym (mask_append ss ts))

-- no spot of the list is guarded
pub apart_clear : (g : ℕ) (ss : List Spot) → ((a : Spot) → On a ss → masked g a.thread a.index ≡ true → ⊥) → bit_and (mask ss) g ≡ 0
apart_clear g ss f =
    elim (cases_eq (bit_and (mask ss) g) 0) [
      | inl e ↦ e
      | inr ne ↦
          let (b, i, o, s) = shared_bit 32 (mask ss) g (mask_below ss) (omega arith) in
          let (a, on, h, l, q) = mask_on ss b o in
          absurd (f a on (at_masked g a.thread a.index h l (ap (bit g) q ∙ s)))
    ]

pub clear_apart : (g : ℕ) (ss : List Spot) → bit_and (mask ss) g ≡ 0 → (a : Spot) → On a ss → masked g a.thread a.index ≡ true → ⊥
clear_apart g ss e a o m =
    let (h, l, s) = masked_at g a.thread a.index m in
    let z = bit_shared (mask ss) g (place a.thread a.index) (on_mask ss a o h l) s in
    omega arith
