-- Sets told by their bits: when two are the same, one within another, one numerically below another.
use Rattle.std.proofs.Common.{◌≡◌, ℕ, zero, suc, ◌+◌, ◌-◌, ◌/◌, ◌%◌, ◌^◌, ◌<◌, ◌≤◌, min, max, sym, refl, ap, ◌∙◌, inl, inr, pow-suc, div-one, add-one, arith, pow_pos, shr-shr}
use lib.Bits.{bit_and, bit_or, and_step, and_shr, and_le_l, or_step, or_shr}
use lib.Count.{ones, ones_step}
use lib.Pow.{field, mod-mod-pow}
use Rattle.std.proofs.lemmas.Nat.{div_below}
use Rattle.std.proofs.lemmas.Bool.{cases_lt, cases_eq}
use Rattle.hitting.specs.Masks.{bit, Within}
use Rattle.hitting.proofs.Halves.{cases_digit, within_from}

pub bit_is : (x b : ℕ) → bit x b ≡ x / 2 ^ b % 2
unfolding bit
bit_is x b = refl

pub bit_none : (x : ℕ) → bit x 0 ≡ x % 2
unfolding bit
bit_none x = ap (λ n. n % 2) (div-one x)

pub bit_more : (x b : ℕ) → bit x (suc b) ≡ bit (x / 2) b
unfolding bit
bit_more x b = let e : 1 + b ≡ suc b = omega arith in sym (ap (λ n. n % 2) (shr-shr x 1 b ∙ ap (λ n. x / 2 ^ n) e))

pub bit_lt : (x b : ℕ) → bit x b < 2
bit_lt x b = let e = bit_is x b in omega arith

pub half_high : (n x : ℕ) → x < 2 ^ suc n → x / 2 ^ n < 2
half_high n x h = div_below x (2 ^ n) 2 (pow_pos n) (let p = pow-suc 2 n in omega arith)

pub some_bit : (x b : ℕ) → bit x b ≡ 1 → 0 < x
some_bit x zero e = let a = bit_none x in omega arith
some_bit x (suc b) e = let i = some_bit (x / 2) b (sym (bit_more x b) ∙ e) in omega arith

-- no bit from n on
pub bit_past : (n x b : ℕ) → x < 2 ^ n → n ≤ b → bit x b ≡ 0
bit_past zero x zero h l = let e = bit_none x in omega arith
bit_past zero x (suc b) h l = let e = bit_more x b in let i = bit_past zero (x / 2) b (omega arith) (omega arith) in omega arith
bit_past (suc n) x zero h l = absurd (omega arith)
bit_past (suc n) x (suc b) h l =
    let p = pow-suc 2 n in
    let e = bit_more x b in
    let i = bit_past n (x / 2) b (omega arith) (omega arith) in
    omega arith

-- two sets of n bits with the same bits are the same
pub same_bits : (n x y : ℕ) → x < 2 ^ n → y < 2 ^ n → ((b : ℕ) → b < n → bit x b ≡ bit y b) → x ≡ y
same_bits zero x y h k e = omega arith
same_bits (suc n) x y h k e =
    let p = pow-suc 2 n in
    let d : x % 2 ≡ y % 2 = sym (bit_none x) ∙ e 0 (omega arith) ∙ bit_none y in
    let i = same_bits n (x / 2) (y / 2) (omega arith) (omega arith) (λ b l. sym (bit_more x b) ∙ e (suc b) (omega arith) ∙ bit_more y b) in
    omega arith

pub bit_of_and : (x y b : ℕ) → bit (bit_and x y) b ≡ min (bit x b) (bit y b)
bit_of_and x y b =
    let a = bit_is x b in
    let c = bit_is y b in
    let e = bit_is (bit_and x y) b in
    let q = and_shr x y b in
    let s = and_step (x / 2 ^ b) (y / 2 ^ b) in
    omega arith

pub bit_of_or : (x y b : ℕ) → bit (bit_or x y) b ≡ max (bit x b) (bit y b)
bit_of_or x y b =
    let a = bit_is x b in
    let c = bit_is y b in
    let e = bit_is (bit_or x y) b in
    let q = or_shr x y b in
    let s = or_step (x / 2 ^ b) (y / 2 ^ b) in
    omega arith

pub within_bit : (x u b : ℕ) → Within x u → bit x b ≡ 1 → bit u b ≡ 1
within_bit x u b w e =
    let a = bit_of_and x u b in
    let s = ap (λ z. bit z b) w in
    let l = bit_lt u b in
    omega arith

pub bits_within : (n x u : ℕ) → x < 2 ^ n → ((b : ℕ) → b < n → bit x b ≡ 1 → bit u b ≡ 1) → Within x u
bits_within zero x u h e = let z : x ≡ 0 = omega arith in rw z
bits_within (suc n) x u h e =
    let p = pow-suc 2 n in
    let a = bit_none x in
    let c = bit_none u in
    let d = e 0 (omega arith) in
    within_from x u
    (bits_within n (x / 2) (u / 2) (omega arith) (λ b l o. sym (bit_more u b) ∙ e (suc b) (omega arith) (bit_more x b ∙ o)))
    (elim (cases_digit x) [ inl z ↦ omega arith | inr o ↦ let f = d (a ∙ o) in omega arith ])

-- agreement above a bit, by halves
above_none : (x y : ℕ) → x / 2 ≡ y / 2 → (c : ℕ) → 0 < c → bit x c ≡ bit y c
above_none x y e zero k = absurd (omega arith)
above_none x y e (suc c) k = bit_more x c ∙ ap (λ m. bit m c) e ∙ sym (bit_more y c)

above_more : (x y b : ℕ) → ((c : ℕ) → b < c → bit (x / 2) c ≡ bit (y / 2) c) → (c : ℕ) → suc b < c → bit x c ≡ bit y c
above_more x y b s zero k = absurd (omega arith)
above_more x y b s (suc c) k = bit_more x c ∙ s c (omega arith) ∙ sym (bit_more y c)

above_half : (x y b : ℕ) → ((c : ℕ) → b < c → bit x c ≡ bit y c) → (c : ℕ) → b < suc c → bit (x / 2) c ≡ bit (y / 2) c
above_half x y b s c k = sym (bit_more x c) ∙ s (suc c) k ∙ bit_more y c

-- of two numbers the greater has the highest bit in which they differ
pub highest_differs : (n x y : ℕ) → y < 2 ^ n → x < y → (b : ℕ) × (b < n) × (bit y b ≡ 1) × (bit x b ≡ 0) × ((c : ℕ) → b < c → bit x c ≡ bit y c)
highest_differs zero x y h l = absurd (omega arith)
highest_differs (suc n) x y h l =
    let p = pow-suc 2 n in
    elim (cases_lt (x / 2) (y / 2)) [
      | inl lt ↦
          let (b, i, o, z, s) = highest_differs n (x / 2) (y / 2) (omega arith) lt in
          (suc b, omega arith, bit_more y b ∙ o, bit_more x b ∙ z, above_more x y b s)
      | inr ge ↦
          let a = bit_none x in
          let d = bit_none y in
          let e : x / 2 ≡ y / 2 = omega arith in
          (0, omega arith, omega arith, omega arith, above_none x y e)
    ]

pub differs_highest : (n x y b : ℕ) → x < 2 ^ n → y < 2 ^ n → bit y b ≡ 1 → bit x b ≡ 0 → ((c : ℕ) → b < c → bit x c ≡ bit y c) → x < y
differs_highest zero x y b h k o z s = let e = bit_past 0 y b k (omega arith) in absurd (omega arith)
differs_highest (suc n) x y zero h k o z s =
    let p = pow-suc 2 n in
    let a = bit_none x in
    let d = bit_none y in
    let e = same_bits n (x / 2) (y / 2) (omega arith) (omega arith) (λ c l. above_half x y 0 s c (omega arith)) in
    omega arith
differs_highest (suc n) x y (suc b) h k o z s =
    let p = pow-suc 2 n in
    let i = differs_highest n (x / 2) (y / 2) b (omega arith) (omega arith) (sym (bit_more y b) ∙ o) (sym (bit_more x b) ∙ z)
    (λ c l. above_half x y (suc b) s c (omega arith)) in
    omega arith

-- two sets meet if they share a bit
pub shared_bit : (n x y : ℕ) → x < 2 ^ n → 0 < bit_and x y → (b : ℕ) × (b < n) × (bit x b ≡ 1) × (bit y b ≡ 1)
shared_bit n x y h m =
    let l = and_le_l x y in
    let (b, i, o, z, s) = highest_differs n 0 (bit_and x y) (omega arith) m in
    let a = bit_of_and x y b in
    let p = bit_lt x b in
    let q = bit_lt y b in
    (b, i, omega arith, omega arith)

pub bit_shared : (x y b : ℕ) → bit x b ≡ 1 → bit y b ≡ 1 → 0 < bit_and x y
bit_shared x y b e f = some_bit (bit_and x y) b (let a = bit_of_and x y b in omega arith)

-- one bit by itself
pub bit_one : (b : ℕ) → bit (2 ^ b) b ≡ 1
bit_one zero = bit_none 1
bit_one (suc b) =
    let p = pow-suc 2 b in
    let h : 2 ^ suc b / 2 ≡ 2 ^ b = omega arith in
    bit_more (2 ^ suc b) b ∙ ap (λ m. bit m b) h ∙ bit_one b

pub bit_other : (b c : ℕ) → (c ≡ b → ⊥) → bit (2 ^ b) c ≡ 0
bit_other zero zero n = absurd (n refl)
bit_other zero (suc c) n = bit_past 1 1 (suc c) (omega arith) (omega arith)
bit_other (suc b) zero n = let p = pow-suc 2 b in let a = bit_none (2 ^ suc b) in omega arith
bit_other (suc b) (suc c) n =
    let p = pow-suc 2 b in
    let h : 2 ^ suc b / 2 ≡ 2 ^ b = omega arith in
    bit_more (2 ^ suc b) c ∙ ap (λ m. bit m c) h ∙ bit_other b c (λ e. n (ap suc e))

pub has_bit : (n x b : ℕ) → x < 2 ^ n → 0 < bit_and x (2 ^ b) → bit x b ≡ 1
has_bit n x b h m =
    let (c, i, o, one) = shared_bit n x (2 ^ b) h m in
    elim (cases_eq c b) [
      | inl e ↦ ap (bit x) (sym e) ∙ o
      | inr ne ↦ let z = bit_other b c ne in absurd (omega arith)
    ]

pub bit_has : (x b : ℕ) → bit x b ≡ 1 → 0 < bit_and x (2 ^ b)
bit_has x b o = bit_shared x (2 ^ b) b o (bit_one b)

-- x without one of its bits
pub without_bit : (x b : ℕ) → bit x b ≡ 1 → (2 ^ b ≤ x) × (ones x ≡ suc (ones (x - 2 ^ b)))
without_bit x zero o =
    let a = bit_none x in
    let s = ones_step x in
    let t = ones_step (x - 1) in
    let e : (x - 1) / 2 ≡ x / 2 = omega arith in
    let g = ap ones e in
    (omega arith, omega arith)
without_bit x (suc b) o =
    let p = pow-suc 2 b in
    let (l, i) = without_bit (x / 2) b (sym (bit_more x b) ∙ o) in
    let s = ones_step x in
    let t = ones_step (x - 2 ^ suc b) in
    let e : (x - 2 ^ suc b) / 2 ≡ x / 2 - 2 ^ b = omega arith in
    let g = ap ones e in
    (omega arith, omega arith)

pub without_gone : (x b : ℕ) → bit x b ≡ 1 → bit (x - 2 ^ b) b ≡ 0
without_gone x zero o = let a = bit_none x in let c = bit_none (x - 1) in omega arith
without_gone x (suc b) o =
    let p = pow-suc 2 b in
    let e : (x - 2 ^ suc b) / 2 ≡ x / 2 - 2 ^ b = omega arith in
    bit_more (x - 2 ^ suc b) b ∙ ap (λ n. bit n b) e ∙ without_gone (x / 2) b (sym (bit_more x b) ∙ o)

pub without_kept : (x b c : ℕ) → bit x b ≡ 1 → (c ≡ b → ⊥) → bit (x - 2 ^ b) c ≡ bit x c
without_kept x zero zero o n = absurd (n refl)
without_kept x zero (suc c) o n =
    let a = bit_none x in
    let e : (x - 1) / 2 ≡ x / 2 = omega arith in
    bit_more (x - 1) c ∙ ap (λ m. bit m c) e ∙ sym (bit_more x c)
without_kept x (suc b) zero o n =
    let p = pow-suc 2 b in
    let (l, i) = without_bit x (suc b) o in
    let e : (x - 2 ^ suc b) % 2 ≡ x % 2 = omega arith in
    bit_none (x - 2 ^ suc b) ∙ e ∙ sym (bit_none x)
without_kept x (suc b) (suc c) o n =
    let p = pow-suc 2 b in
    let e : (x - 2 ^ suc b) / 2 ≡ x / 2 - 2 ^ b = omega arith in
    bit_more (x - 2 ^ suc b) c ∙ ap (λ m. bit m c) e
    ∙ without_kept (x / 2) b c (sym (bit_more x b) ∙ o) (λ s. n (ap suc s))
    ∙ sym (bit_more x c)

-- the n lowest bits, and the bit above them
pub bit_low : (n x b : ℕ) → b < n → bit (x % 2 ^ n) b ≡ bit x b
bit_low zero x b l = absurd (omega arith)
bit_low (suc n) x zero l =
    bit_none (x % 2 ^ suc n) ∙ ap (λ k. x % 2 ^ k % 2) (sym (add-one n)) ∙ mod-mod-pow x n 1 ∙ sym (bit_none x)
bit_low (suc n) x (suc b) l =
    let h : x % 2 ^ suc n / 2 ≡ x / 2 % 2 ^ n = ap (λ k. x % 2 ^ k / 2) (sym (add-one n)) ∙ field x n 1 in
    bit_more (x % 2 ^ suc n) b ∙ ap (λ m. bit m b) h ∙ bit_low n (x / 2) b (omega arith) ∙ sym (bit_more x b)

pub bit_high : (n x : ℕ) → x < 2 ^ suc n → bit x n ≡ x / 2 ^ n
bit_high n x h =
    let q : x / 2 ^ n < 2 = half_high n x h in
    let e = bit_is x n in
    omega arith
