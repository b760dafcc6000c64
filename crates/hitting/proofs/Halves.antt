-- Sets of bits by halves: the lowest bit, and the rest, which is the number halved. Each law here is one step of that
-- kind, and so is each induction above.
use Rattle.std.proofs.Common.{◌≡◌, ℕ, zero, suc, ◌/◌, ◌%◌, ◌≤◌, ◌⊎◌, sym, refl, ap, inl, inr, arith}
use lib.Arith.{bin_ind}
use lib.Bits.{bit_and, bit_or, and_step, or_step, and_le_r, and_comm, or_comm}
use lib.Count.{ones, ones_step}
use Rattle.hitting.specs.Masks.{Within}

pub cases_digit : (n : ℕ) → (n % 2 ≡ 0) ⊎ (n % 2 ≡ 1)
cases_digit n = go (n % 2) refl
  where
    go : (d : ℕ) → n % 2 ≡ d → (n % 2 ≡ 0) ⊎ (n % 2 ≡ 1)
    go zero e = inl e
    go (suc zero) e = inr e
    go (suc (suc d)) e = absurd (omega arith)

pub ones_none : ones 0 ≡ 0
unfolding ones
ones_none = refl

pub ones_zero : (x : ℕ) → ones x ≡ 0 → x ≡ 0
ones_zero =
    bin_ind (λ x. ones x ≡ 0 → x ≡ 0) (λ e. refl)
    (λ x ih e. let a = ones_step x in let i = ih (omega arith) in omega arith)

pub within_half : (x u : ℕ) → Within x u → Within (x / 2) (u / 2)
within_half x u e = let s = and_step x u in omega arith

pub within_digit : (x u : ℕ) → Within x u → x % 2 ≤ u % 2
within_digit x u e = let s = and_step x u in omega arith

pub within_from : (x u : ℕ) → Within (x / 2) (u / 2) → x % 2 ≤ u % 2 → Within x u
within_from x u e d = let s = and_step x u in omega arith

pub within_le : (x u : ℕ) → Within x u → x ≤ u
within_le x u e = let h = and_le_r x u in omega arith

pub within_trans : (x y z : ℕ) → Within x y → Within y z → Within x z
within_trans =
    bin_ind (λ x. (y z : ℕ) → Within x y → Within y z → Within x z) (λ y z a b. refl)
    (λ x ih y z a b.
    let p = within_digit x y a in
    let q = within_digit y z b in
    within_from x z (ih (y / 2) (z / 2) (within_half x y a) (within_half y z b)) (omega arith))

pub and_within_l : (x y : ℕ) → Within (bit_and x y) x
and_within_l =
    bin_ind (λ x. (y : ℕ) → Within (bit_and x y) x) (λ y. refl)
    (λ x ih y.
    let s = and_step x y in
    let h : bit_and x y / 2 ≡ bit_and (x / 2) (y / 2) = omega arith in
    within_from (bit_and x y) x (rw h (ih (y / 2))) (omega arith))

pub and_within_r : (x y : ℕ) → Within (bit_and x y) y
and_within_r x y = rw (and_comm x y) (and_within_l y x)

-- a part has no more bits than the whole, and as many only if it is the whole
pub within_ones : (x u : ℕ) → Within x u → ones x ≤ ones u
within_ones =
    bin_ind (λ x. (u : ℕ) → Within x u → ones x ≤ ones u) (λ u e. let z = ones_none in omega arith)
    (λ x ih u e.
    let a = ones_step x in
    let b = ones_step u in
    let d = within_digit x u e in
    let i = ih (u / 2) (within_half x u e) in
    omega arith)

pub within_same : (x u : ℕ) → Within x u → ones u ≤ ones x → x ≡ u
within_same =
    bin_ind (λ x. (u : ℕ) → Within x u → ones u ≤ ones x → x ≡ u) (λ u e h. let n = ones_none in sym (ones_zero u (omega arith)))
    (λ x ih u e h.
    let a = ones_step x in
    let b = ones_step u in
    let d = within_digit x u e in
    let l = within_ones (x / 2) (u / 2) (within_half x u e) in
    let i = ih (u / 2) (within_half x u e) (omega arith) in
    omega arith)

-- what lies outside u is of no use with a clause within it
pub and_clause : (x u c : ℕ) → Within c u → bit_and (bit_and x u) c ≡ bit_and x c
and_clause =
    bin_ind (λ x. (u c : ℕ) → Within c u → bit_and (bit_and x u) c ≡ bit_and x c) (λ u c e. refl)
    (λ x ih u c e.
    let s = and_step x u in
    let d = within_digit c u e in
    let h : bit_and x u / 2 ≡ bit_and (x / 2) (u / 2) = omega arith in
    let g = ap (λ n. bit_and n (c / 2)) h in
    let a = and_step (bit_and x u) c in
    let b = and_step x c in
    let i = ih (u / 2) (c / 2) (within_half c u e) in
    omega arith)

pub or_within : (x y m : ℕ) → Within x m → Within y m → Within (bit_or x y) m
or_within =
    bin_ind (λ x. (y m : ℕ) → Within x m → Within y m → Within (bit_or x y) m) (λ y m a b. b)
    (λ x ih y m a b.
    let s = or_step x y in
    let p = within_digit x m a in
    let q = within_digit y m b in
    let h : bit_or x y / 2 ≡ bit_or (x / 2) (y / 2) = omega arith in
    within_from (bit_or x y) m (rw h (ih (y / 2) (m / 2) (within_half x m a) (within_half y m b))) (omega arith))

pub within_or_l : (x y : ℕ) → Within x (bit_or x y)
within_or_l =
    bin_ind (λ x. (y : ℕ) → Within x (bit_or x y)) (λ y. refl)
    (λ x ih y.
    let s = or_step x y in
    let h : bit_or x y / 2 ≡ bit_or (x / 2) (y / 2) = omega arith in
    within_from x (bit_or x y) (rw h (ih (y / 2))) (omega arith))

pub within_or_r : (x y : ℕ) → Within y (bit_or x y)
within_or_r x y = rw (or_comm x y) (within_or_l y x)
