-- Sets of bits and lists of spots are one another, and their orders agree. Each induction goes by the highest bit,
-- which is the first spot: of a number with n bits it is the spot s, where n + s is 32.
use Rattle.std.proofs.Common.{◌≡◌, ℕ, zero, suc, ◌+◌, ◌-◌, ◌*◌, ◌/◌, ◌%◌, ◌^◌, ◌<◌, ◌≤◌, ◌⊎◌, List, [], ◌∷◌, length, sym, refl, ap, ◌∙◌, inl, inr, pow-suc, arith, pow_pos, pow_mono}
use lib.Count.{ones, ones_cat}
use lib.Pow.{split, high, low}
use Rattle.std.proofs.lemmas.Nat.{mod_below}
use Rattle.std.proofs.lemmas.Bool.{cases_eq, cases_order}
use Rattle.hitting.specs.Masks.{bit}
use Rattle.hitting.specs.Spots.{mask_of, with_spot, spots, Ascends, In, Before}
use Rattle.hitting.proofs.Halves.{ones_none}
use Rattle.hitting.proofs.Bits.{half_high, bit_low, bit_high}

low_lt : (n x : ℕ) → x % 2 ^ n < 2 ^ n
low_lt n x = mod_below x (2 ^ n) (pow_pos n)

-- the set of the spots of a set
mask_with : (d s : ℕ) (ss : List ℕ) → d < 2 → mask_of (with_spot d s ss) ≡ d * 2 ^ (31 - s) + mask_of ss
mask_with zero s ss h = omega arith
mask_with (suc zero) s ss h = omega arith
mask_with (suc (suc d)) s ss h = absurd (omega arith)

pub mask_spots : (n s x : ℕ) → n + s ≡ 32 → x < 2 ^ n → mask_of (spots n s x) ≡ x
unfolding spots
mask_spots zero s x e h = omega arith
mask_spots (suc n) s x e h =
    let i : 31 - s ≡ n = omega arith in
    mask_with (x / 2 ^ n) s (spots n (suc s) (x % 2 ^ n)) (half_high n x h)
    ∙ ap (λ k. x / 2 ^ n * 2 ^ k + mask_of (spots n (suc s) (x % 2 ^ n))) i
    ∙ ap (λ m. x / 2 ^ n * 2 ^ n + m) (mask_spots n (suc s) (x % 2 ^ n) (omega arith) (low_lt n x))
    ∙ split x n

-- spots ascend
ascends_from : (s t : ℕ) (ss : List ℕ) → s ≤ t → Ascends t ss → Ascends s ss
ascends_from s t [] h a = a
ascends_from s t (r ∷ ss) h (a, b, c) = (omega arith, b, c)

ascends_with : (d s : ℕ) (ss : List ℕ) → s < 32 → Ascends (suc s) ss → Ascends s (with_spot d s ss)
ascends_with zero s ss h a = ascends_from s (suc s) ss (omega arith) a
ascends_with (suc d) s ss h a = (omega arith, h, a)

pub spots_ascend : (n s x : ℕ) → n + s ≡ 32 → Ascends s (spots n s x)
unfolding spots
spots_ascend zero s x e = tt
spots_ascend (suc n) s x e =
    ascends_with (x / 2 ^ n) s (spots n (suc s) (x % 2 ^ n)) (omega arith) (spots_ascend n (suc s) (x % 2 ^ n) (omega arith))

-- the spots of the set of spots
pub mask_lt : (n s : ℕ) (ss : List ℕ) → n + s ≡ 32 → Ascends s ss → mask_of ss < 2 ^ n
mask_lt n s [] e a = pow_pos n
mask_lt n s (t ∷ ts) e (a, b, c) =
    let i = mask_lt (31 - t) (suc t) ts (omega arith) c in
    let p = pow-suc 2 (31 - t) in
    let m = pow_mono {i = suc (31 - t)} {j = n} (omega arith) in
    omega arith

spots_top : (n s d m : ℕ) → m < 2 ^ n → spots (suc n) s (d * 2 ^ n + m) ≡ with_spot d s (spots n (suc s) m)
unfolding spots
spots_top n s d m h =
    ap (λ q. with_spot q s (spots n (suc s) ((d * 2 ^ n + m) % 2 ^ n))) (high d n h)
    ∙ ap (λ r. with_spot d s (spots n (suc s) r)) (low d n h)

spots_low : (n s m : ℕ) → m < 2 ^ n → spots (suc n) s m ≡ spots n (suc s) m
spots_low n s m h = let e : m ≡ 0 * 2 ^ n + m = omega arith in ap (spots (suc n) s) e ∙ spots_top n s 0 m h

spots_high : (n s m : ℕ) → m < 2 ^ n → spots (suc n) s (2 ^ n + m) ≡ s ∷ spots n (suc s) m
spots_high n s m h = let e : 2 ^ n + m ≡ 1 * 2 ^ n + m = omega arith in ap (spots (suc n) s) e ∙ spots_top n s 1 m h

pub spots_mask : (n s : ℕ) (ss : List ℕ) → n + s ≡ 32 → Ascends s ss → spots n s (mask_of ss) ≡ ss
unfolding spots
spots_mask zero s [] e a = refl
spots_mask zero s (t ∷ ts) e (a, b, c) = absurd (omega arith)
spots_mask (suc n) s [] e a = spots_low n s 0 (pow_pos n) ∙ spots_mask n (suc s) [] (omega arith) tt
spots_mask (suc n) s (t ∷ ts) e (a, b, c) =
    elim (cases_eq t s) [
      | inl same ↦
          let i : 31 - t ≡ n = omega arith in
          let d : Ascends (suc s) ts = ascends_from (suc s) (suc t) ts (omega arith) c in
          ap (λ k. spots (suc n) s (2 ^ k + mask_of ts)) i
          ∙ spots_high n s (mask_of ts) (mask_lt n (suc s) ts (omega arith) d)
          ∙ ap (λ l. s ∷ l) (spots_mask n (suc s) ts (omega arith) d)
          ∙ ap (λ r. r ∷ ts) (sym same)
      | inr other ↦
          spots_low n s (mask_of (t ∷ ts)) (mask_lt n (suc s) (t ∷ ts) (omega arith) (omega arith, b, c))
          ∙ spots_mask n (suc s) (t ∷ ts) (omega arith) (omega arith, b, c)
    ]

-- as many spots as bits
length_with : (d s : ℕ) (ss : List ℕ) → d < 2 → length (with_spot d s ss) ≡ ones d + length ss
unfolding ones
length_with zero s ss h = omega arith
length_with (suc zero) s ss h = omega arith
length_with (suc (suc d)) s ss h = absurd (omega arith)

pub length_spots : (n s x : ℕ) → x < 2 ^ n → length (spots n s x) ≡ ones x
unfolding spots
length_spots zero s x h = let z : x ≡ 0 = omega arith in sym (ap ones z ∙ ones_none)
length_spots (suc n) s x h =
    length_with (x / 2 ^ n) s (spots n (suc s) (x % 2 ^ n)) (half_high n x h)
    ∙ ap (λ k. ones (x / 2 ^ n) + k) (length_spots n (suc s) (x % 2 ^ n) (low_lt n x))
    ∙ sym (ones_cat n (x / 2 ^ n) (x % 2 ^ n) (low_lt n x))
    ∙ ap ones (split x n)

-- a spot stands in the list if its bit is set
in_with : (d s t : ℕ) (ss : List ℕ) → In t (with_spot d s ss) → ((0 < d) × (t ≡ s)) ⊎ In t ss
in_with zero s t ss i = inr i
in_with (suc d) s t ss (inl e) = inl (omega arith, e)
in_with (suc d) s t ss (inr i) = inr i

with_in : (d s t : ℕ) (ss : List ℕ) → ((0 < d) × (t ≡ s)) ⊎ In t ss → In t (with_spot d s ss)
with_in zero s t ss (inl (h, e)) = absurd (omega arith)
with_in zero s t ss (inr i) = i
with_in (suc d) s t ss (inl (h, e)) = inl e
with_in (suc d) s t ss (inr i) = inr i

pub in_spots : (n s x t : ℕ) → n + s ≡ 32 → x < 2 ^ n → In t (spots n s x) → (s ≤ t) × (t < 32) × (bit x (31 - t) ≡ 1)
unfolding spots
in_spots zero s x t e h i = absurd i
in_spots (suc n) s x t e h i =
    let q = half_high n x h in
    elim (in_with (x / 2 ^ n) s t (spots n (suc s) (x % 2 ^ n)) i) [
      | inl here ↦
          let (p, same) = here in
          let b : 31 - t ≡ n = omega arith in
          let o = bit_high n x h in
          (omega arith, omega arith, ap (bit x) b ∙ omega arith)
      | inr more ↦
          let (a, b, o) = in_spots n (suc s) (x % 2 ^ n) t (omega arith) (low_lt n x) more in
          (omega arith, b, sym (bit_low n x (31 - t) (omega arith)) ∙ o)
    ]

pub spots_in : (n s x t : ℕ) → n + s ≡ 32 → x < 2 ^ n → s ≤ t → t < 32 → bit x (31 - t) ≡ 1 → In t (spots n s x)
unfolding spots
spots_in zero s x t e h a b o = absurd (omega arith)
spots_in (suc n) s x t e h a b o =
    with_in (x / 2 ^ n) s t (spots n (suc s) (x % 2 ^ n))
    (elim (cases_eq t s) [
      | inl same ↦
          let i : 31 - t ≡ n = omega arith in
          let q = bit_high n x h in
          let r = ap (bit x) i in
          inl (omega arith, same)
      | inr other ↦
          inr (spots_in n (suc s) (x % 2 ^ n) t (omega arith) (low_lt n x) (omega arith) b (bit_low n x (31 - t) (omega arith) ∙ o))
    ])

-- the greater of two sets with equally many bits has the earlier list
before_later : (s : ℕ) (ss ts : List ℕ) → Ascends (suc s) ts → length ts ≡ suc (length ss) → Before (s ∷ ss) ts
before_later s ss [] a e = absurd (omega arith)
before_later s ss (t ∷ ts) (a, b, c) e = inl a

-- the highest bits decide, or if they are the same the others
before_with : (n s d e x y : ℕ) → n + suc s ≡ 32 → d < 2 → e < 2 → x < 2 ^ n → y < 2 ^ n
    → length (with_spot d s (spots n (suc s) x)) ≡ length (with_spot e s (spots n (suc s) y))
    → e * 2 ^ n + y < d * 2 ^ n + x
    → (length (spots n (suc s) x) ≡ length (spots n (suc s) y) → y < x → Before (spots n (suc s) x) (spots n (suc s) y))
    → Before (with_spot d s (spots n (suc s) x)) (with_spot e s (spots n (suc s) y))
before_with n s zero zero x y w hd he hx hy l g rest = rest l (omega arith)
before_with n s zero (suc zero) x y w hd he hx hy l g rest = absurd (omega arith)
before_with n s zero (suc (suc e)) x y w hd he hx hy l g rest = absurd (omega arith)
before_with n s (suc d) zero x y w hd he hx hy l g rest =
    before_later s (spots n (suc s) x) (spots n (suc s) y) (spots_ascend n (suc s) y w) (sym l)
before_with n s (suc zero) (suc zero) x y w hd he hx hy l g rest = inr (refl, rest (omega arith) (omega arith))
before_with n s (suc (suc d)) (suc e) x y w hd he hx hy l g rest = absurd (omega arith)
before_with n s (suc zero) (suc (suc e)) x y w hd he hx hy l g rest = absurd (omega arith)

pub greater_before : (n s x y : ℕ) → n + s ≡ 32 → x < 2 ^ n → y < 2 ^ n → length (spots n s x) ≡ length (spots n s y) → y < x → Before (spots n s x) (spots n s y)
unfolding spots
greater_before zero s x y e h k l g = absurd (omega arith)
greater_before (suc n) s x y e h k l g =
    before_with n s (x / 2 ^ n) (y / 2 ^ n) (x % 2 ^ n) (y % 2 ^ n) (omega arith) (half_high n x h) (half_high n y k) (low_lt n x) (low_lt n y) l
    (let p = split x n in let q = split y n in omega arith)
    (greater_before n (suc s) (x % 2 ^ n) (y % 2 ^ n) (omega arith) (low_lt n x) (low_lt n y))

before_same : (ss : List ℕ) → Before ss ss → ⊥
before_same [] b = b
before_same (s ∷ ss) (inl h) = omega arith
before_same (s ∷ ss) (inr (e, b)) = before_same ss b

before_both : (ss ts : List ℕ) → Before ss ts → Before ts ss → ⊥
before_both [] ts a b = a
before_both (s ∷ ss) [] a b = a
before_both (s ∷ ss) (t ∷ ts) (inl h) (inl k) = omega arith
before_both (s ∷ ss) (t ∷ ts) (inl h) (inr (e, b)) = omega arith
before_both (s ∷ ss) (t ∷ ts) (inr (e, a)) (inl k) = omega arith
before_both (s ∷ ss) (t ∷ ts) (inr (e, a)) (inr (f, b)) = before_both ss ts a b

pub before_greater : (n s x y : ℕ) → n + s ≡ 32 → x < 2 ^ n → y < 2 ^ n → length (spots n s x) ≡ length (spots n s y) → Before (spots n s x) (spots n s y) → y < x
before_greater n s x y e h k l b =
    elim (cases_order y x) [
      | inl same ↦ absurd (before_same (spots n s x) (let f = ap (spots n s) same in rw f at b))
      | inr o ↦
          elim o [
            | inl less ↦ less
            | inr more ↦ absurd (before_both (spots n s x) (spots n s y) b (greater_before n s y x e k h (sym l) more))
          ]
    ]
