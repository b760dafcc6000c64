-- The facts behind each jump of the search: what no candidate can be among the sets that it passes over.
use Rattle.std.proofs.Common.{◌≡◌, ℕ, zero, suc, ◌+◌, ◌-◌, ◌*◌, ◌/◌, ◌%◌, ◌^◌, ◌<◌, ◌≤◌, sym, refl, ap, ◌∙◌, inl, inr, mul_assoc, pow-suc, mul-one, div-one, arith, pow_pos, shr-shr}
use lib.Arith.{bin_ind}
use lib.Bits.{bit_and, bit_or, and_step, or_step, or_zero_r, and_le_l, and_self}
use lib.Count.{ones, ones_step, count_trailing_zeros, under}
use Rattle.std.proofs.lemmas.Bool.{cases_eq, cases_lt}
use Rattle.hitting.specs.Masks.{Within}
use Rattle.hitting.proofs.Halves.{cases_digit, within_half, within_digit, within_from, within_le, ones_none}

-- of the sets within u below y, y itself within u, the greatest is what u has of y - 1
pub next_below : (y u z : ℕ) → Within y u → Within z u → z < y → z ≤ bit_and (y - 1) u
next_below =
    bin_ind (λ y. (u z : ℕ) → Within y u → Within z u → z < y → z ≤ bit_and (y - 1) u) (λ u z a b h. absurd (omega arith))
    (λ y ih u z a b h.
    let s = and_step (y - 1) u in
    let ay = within_half y u a in
    let bz = within_half z u b in
    let bd = within_digit z u b in
    elim (cases_digit y) [
      | inl e ↦
          let m : (y - 1) / 2 ≡ y / 2 - 1 = omega arith in
          let g = ap (λ n. bit_and n (u / 2)) m in
          let i = ih (u / 2) (z / 2) ay bz (omega arith) in
          omega arith
      | inr e ↦
          let m : (y - 1) / 2 ≡ y / 2 = omega arith in
          let g = ap (λ n. bit_and n (u / 2)) m in
          omega arith
    ])

-- x without its lowest bit, by halves
module _ (x : ℕ) where
  lowest_odd : x % 2 ≡ 1 → bit_and x (x - 1) ≡ x - 1
  lowest_odd e =
      let m : (x - 1) / 2 ≡ x / 2 = omega arith in
      let g = ap (bit_and (x / 2)) m in
      let i = and_self (x / 2) in
      let s = and_step x (x - 1) in
      omega arith

  lowest_even : x % 2 ≡ 0 → bit_and x (x - 1) ≡ bit_and (x / 2) (x / 2 - 1) * 2
  lowest_even e =
      elim (cases_eq x 0) [
        | inl z ↦ ap (λ n. bit_and n (n - 1)) z ∙ sym (ap (λ n. bit_and (n / 2) (n / 2 - 1) * 2) z)
        | inr p ↦
            let m : (x - 1) / 2 ≡ x / 2 - 1 = omega arith in
            let g = ap (bit_and (x / 2)) m in
            let s = and_step x (x - 1) in
            omega arith
      ]

pub lowest_ones : (x : ℕ) → 0 < x → ones x ≡ suc (ones (bit_and x (x - 1)))
lowest_ones =
    bin_ind (λ x. 0 < x → ones x ≡ suc (ones (bit_and x (x - 1)))) (λ h. absurd (omega arith))
    (λ x ih h.
    let a = ones_step x in
    let b = ones_step (bit_and x (x - 1)) in
    elim (cases_digit x) [
      | inl e ↦
          let l = lowest_even x e in
          let d : bit_and x (x - 1) / 2 ≡ bit_and (x / 2) (x / 2 - 1) = omega arith in
          let g = ap ones d in
          let i = ih (omega arith) in
          omega arith
      | inr e ↦
          let l = lowest_odd x e in
          let d : bit_and x (x - 1) / 2 ≡ x / 2 = omega arith in
          let g = ap ones d in
          omega arith
    ])

-- the sets between x without its lowest bit and x have as many bits as x, or more
pub between_ones : (x z : ℕ) → bit_and x (x - 1) < z → z < x → ones x ≤ ones z
between_ones =
    bin_ind (λ x. (z : ℕ) → bit_and x (x - 1) < z → z < x → ones x ≤ ones z) (λ z h k. absurd (omega arith))
    (λ x ih z h k.
    let a = ones_step x in
    let b = ones_step z in
    elim (cases_digit x) [
      | inl e ↦
          let l = lowest_even x e in
          elim (cases_lt (bit_and (x / 2) (x / 2 - 1)) (z / 2)) [
            | inl lt ↦ let i = ih (z / 2) lt (omega arith) in omega arith
            | inr ge ↦
                let same : z / 2 ≡ bit_and (x / 2) (x / 2 - 1) = omega arith in
                let g = ap ones same in
                let i = lowest_ones (x / 2) (omega arith) in
                omega arith
          ]
      | inr e ↦ let l = lowest_odd x e in absurd (omega arith)
    ])

-- x with its t lowest bits left out
pub floor : ℕ → ℕ → ℕ
floor t x = x / 2 ^ t * 2 ^ t

pub floor_is : (t x : ℕ) → floor t x ≡ x / 2 ^ t * 2 ^ t
unfolding floor
floor_is t x = refl

pub floor_none : (x : ℕ) → floor 0 x ≡ x
unfolding floor
floor_none x = mul-one (x / 1) ∙ div-one x

pub floor_more : (t x : ℕ) → floor (suc t) x ≡ floor t (x / 2) * 2
unfolding floor
floor_more t x =
    let q : x / 2 ^ suc t ≡ x / 2 / 2 ^ t = let e : 1 + t ≡ suc t = omega arith in sym (shr-shr x 1 t ∙ ap (λ n. x / 2 ^ n) e) in
    ap (λ n. n * 2 ^ suc t) q ∙ ap (λ p. x / 2 / 2 ^ t * p) (pow-suc 2 t) ∙ sym (mul_assoc (x / 2 / 2 ^ t) (2 ^ t) 2)

pub floor_le : (t x : ℕ) → floor t x ≤ x
floor_le zero x = let e = floor_none x in omega arith
floor_le (suc t) x = let e = floor_more t x in let i = floor_le t (x / 2) in omega arith

pub floor_within : (t x u : ℕ) → Within x u → Within (floor t x) u
floor_within zero x u e = rw (floor_none x) e
floor_within (suc t) x u e =
    let f = floor_more t x in
    let h : floor (suc t) x / 2 ≡ floor t (x / 2) = omega arith in
    within_from (floor (suc t) x) u (rw h (floor_within t (x / 2) (u / 2) (within_half x u e))) (omega arith)

-- the lowest bit of a set by halves
pub trailing_none : (n : ℕ) → count_trailing_zeros 0 n ≡ 0
unfolding count_trailing_zeros
trailing_none n = refl

pub trailing_even : (k n : ℕ) → n % 2 ≡ 0 → count_trailing_zeros (suc k) n ≡ suc (count_trailing_zeros k (n / 2))
unfolding count_trailing_zeros
trailing_even k n e = ap (λ d. under d (count_trailing_zeros k (n / 2))) e

pub trailing_odd : (k n : ℕ) → n % 2 ≡ 1 → count_trailing_zeros (suc k) n ≡ 0
unfolding count_trailing_zeros
trailing_odd k n e = ap (λ d. under d (count_trailing_zeros k (n / 2))) e

-- what agrees with x from the lowest bit of c up misses c if x does
pub misses_above : (k c x z : ℕ) → floor (count_trailing_zeros k c) x ≤ z → z ≤ x → bit_and x c ≡ 0 → bit_and z c ≡ 0
misses_above zero c x z l h e =
    let f = floor_none x in
    let t : count_trailing_zeros 0 c ≡ 0 = trailing_none c in
    let g = ap (λ n. floor n x) t in
    let same : z ≡ x = omega arith in
    rw same e
misses_above (suc k) c x z l h e =
    elim (cases_digit c) [
      | inl d ↦
          let g = ap (λ n. floor n x) (trailing_even k c d) in
          let f = floor_more (count_trailing_zeros k (c / 2)) x in
          let s = and_step x c in
          let r = and_step z c in
          let i = misses_above k (c / 2) (x / 2) (z / 2) (omega arith) (omega arith) (omega arith) in
          omega arith
      | inr d ↦
          let g = ap (λ n. floor n x) (trailing_odd k c d) in
          let f = floor_none x in
          let same : z ≡ x = omega arith in
          rw same e
    ]

-- what of u lies outside x: x misses it, and a set within u that misses it has no more bits than x
pub rest_half : (u x : ℕ) → Within x u → ((u - x) / 2 ≡ u / 2 - x / 2) × ((u - x) % 2 + x % 2 ≡ u % 2)
rest_half u x e =
    let d = within_digit x u e in
    let l = within_le (x / 2) (u / 2) (within_half x u e) in
    (omega arith, omega arith)

pub rest_apart : (x u : ℕ) → Within x u → bit_and x (u - x) ≡ 0
rest_apart =
    bin_ind (λ x. (u : ℕ) → Within x u → bit_and x (u - x) ≡ 0) (λ u e. refl)
    (λ x ih u e.
    let (q, r) = rest_half u x e in
    let g = ap (bit_and (x / 2)) q in
    let s = and_step x (u - x) in
    let i = ih (u / 2) (within_half x u e) in
    omega arith)

pub rest_ones : (z x u : ℕ) → Within x u → Within z u → bit_and z (u - x) ≡ 0 → ones z ≤ ones x
rest_ones =
    bin_ind (λ z. (x u : ℕ) → Within x u → Within z u → bit_and z (u - x) ≡ 0 → ones z ≤ ones x) (λ x u a b e. let n = ones_none in omega arith)
    (λ z ih x u a b e.
    let (q, r) = rest_half u x a in
    let g = ap (bit_and (z / 2)) q in
    let s = and_step z (u - x) in
    let d = within_digit z u b in
    let m = ones_step z in
    let n = ones_step x in
    let i = ih (x / 2) (u / 2) (within_half x u a) (within_half z u b) (omega arith) in
    omega arith)

-- the greatest set within u up to m, where j is the highest bit of m outside u: all of u below that bit may come in
pub fill : ℕ → ℕ → ℕ → ℕ
fill j m u = bit_and (bit_or m (2 ^ j - 1)) u

pub fill_is : (j m u : ℕ) → fill j m u ≡ bit_and (bit_or m (2 ^ j - 1)) u
unfolding fill
fill_is j m u = refl

pub fill_none : (m u : ℕ) → fill 0 m u ≡ bit_and m u
unfolding fill
fill_none m u = ap (λ n. bit_and n u) (or_zero_r m)

pub fill_more : (j m u : ℕ) → fill (suc j) m u ≡ fill j (m / 2) (u / 2) * 2 + u % 2
unfolding fill
fill_more j m u =
    let p = pow-suc 2 j in
    let q = pow_pos j in
    let h : (2 ^ suc j - 1) / 2 ≡ 2 ^ j - 1 = omega arith in
    let g = ap (bit_or (m / 2)) h in
    let s = or_step m (2 ^ suc j - 1) in
    let b : bit_or m (2 ^ suc j - 1) / 2 ≡ bit_or (m / 2) (2 ^ j - 1) = omega arith in
    let f = ap (λ n. bit_and n (u / 2)) b in
    let r = and_step (bit_or m (2 ^ suc j - 1)) u in
    omega arith

pub fill_lt : (j m u : ℕ) → 2 ^ j ≤ m - bit_and m u → m - bit_and m u < 2 ^ suc j → fill j m u < m
fill_lt zero m u l h = let f = fill_none m u in omega arith
fill_lt (suc j) m u l h =
    let f = fill_more j m u in
    let s = and_step m u in
    let p = pow-suc 2 j in
    let q = pow-suc 2 (suc j) in
    let k = and_le_l (m / 2) (u / 2) in
    let i = fill_lt j (m / 2) (u / 2) (omega arith) (omega arith) in
    omega arith

pub fill_greatest : (j m u z : ℕ) → 2 ^ j ≤ m - bit_and m u → m - bit_and m u < 2 ^ suc j → Within z u → z ≤ m → z ≤ fill j m u
fill_greatest zero m u z l h w b =
    let f = fill_none m u in
    elim (cases_eq z m) [
      | inl e ↦ let g = ap (λ n. bit_and n u) e in absurd (omega arith)
      | inr n ↦ omega arith
    ]
fill_greatest (suc j) m u z l h w b =
    let f = fill_more j m u in
    let s = and_step m u in
    let p = pow-suc 2 j in
    let q = pow-suc 2 (suc j) in
    let k = and_le_l (m / 2) (u / 2) in
    let d = within_digit z u w in
    let i = fill_greatest j (m / 2) (u / 2) (z / 2) (omega arith) (omega arith) (within_half z u w) (omega arith) in
    omega arith
