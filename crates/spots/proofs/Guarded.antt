-- The guards of a mask's spots are its bits, and a list of spots meets another only where masks share a bit.
use Rattle.std.proofs.Common.{◌≡◌, ℕ, ◌+◌, ◌-◌, ◌*◌, ◌^◌, ◌<◌, Bool, true, false, ◌&&◌, T, eqb, ltb, List, sym, refl, ap, subst, arith}
use lib.Bits.{bit_and}
use Rattle.std.proofs.lemmas.Bool.{ltb-true, lt-ltb, eqb-true, eq-eqb, and_from}
use Rattle.model.specs.Code.{Prog, ok}
use Rattle.model.specs.Fences.{Spot, Placed}
use Rattle.model.specs.Guards.{guards, On, Meets}
use Rattle.model.proofs.Tools.{and_both}
use Rattle.model.proofs.RunsUnderGuards.{on_guards, guards_on}
use Rattle.hitting.specs.Masks.{bit}
use Rattle.hitting.specs.Spots.{spots_of}
use Rattle.hitting.proofs.Bits.{bit_shared}
use Rattle.hitting.proofs.Theorems.{has_spot}
use Rattle.spots.specs.Masks.{position, spots, mask, masked}
use Rattle.spots.proofs.Positions.{spot_position, on_spots, spots_on}
use Rattle.spots.proofs.Lists.{mask_small, spots_mask}

-- tests that are true together are the same
same_test : (a b : Bool) → (a ≡ true → b ≡ true) → (b ≡ true → a ≡ true) → a ≡ b
same_test true b f g = sym (f refl)
same_test false true f g = g refl
same_test false false f g = refl

-- a spot of a mask, by its bit
pub on_bit : (x : ℕ) (a : Spot) → x < 2 ^ 32 → On a (spots x) → (a.index < 8) × (position a < 32) × (bit x (31 - position a) ≡ 1)
on_bit x a l i =
    let (s, j, e) = on_spots a (spots_of x) i in
    let (b, o) = (has_spot x s l).0 j in
    let n = ap (λ (z : Spot). z.thread) e in
    let k = ap (λ (z : Spot). z.index) e in
    let q : s ≡ position a = omega arith in
    (omega arith, omega arith, subst (λ (z : ℕ). bit x (31 - z) ≡ 1) q o)

pub bit_on : (x : ℕ) (a : Spot) → x < 2 ^ 32 → a.index < 8 → position a < 32 → bit x (31 - position a) ≡ 1 → On a (spots x)
bit_on x a l k b o = subst (λ (z : Spot). On z (spots x)) (spot_position a k) (spots_on (position a) (spots_of x) ((has_spot x (position a) l).1 (b, o)))

pub guards_masked : (x n k : ℕ) → x < 2 ^ 32 → guards (spots x) n k ≡ masked x n k
guards_masked x n k l = same_test (guards (spots x) n k) (masked x n k) there back
  where
    a : Spot
    a = record { thread = n; index = k }

    there : guards (spots x) n k ≡ true → masked x n k ≡ true
    there g =
        let (i, b, o) = on_bit x a l (guards_on n k (spots x) g) in
        and_from (ltb k 8) (ltb (8 * n + k) 32 && eqb (bit x (31 - (8 * n + k))) 1) (lt-ltb k 8 i)
        (and_from (ltb (8 * n + k) 32) (eqb (bit x (31 - (8 * n + k))) 1) (lt-ltb (8 * n + k) 32 b) (eq-eqb (bit x (31 - (8 * n + k))) 1 o))

    back : masked x n k ≡ true → guards (spots x) n k ≡ true
    back m =
        let (i, r) = and_both (ltb k 8) (ltb (8 * n + k) 32 && eqb (bit x (31 - (8 * n + k))) 1) m in
        let (b, o) = and_both (ltb (8 * n + k) 32) (eqb (bit x (31 - (8 * n + k))) 1) r in
        on_guards a (spots x) (bit_on x a l (ltb-true k 8 i) (ltb-true (8 * n + k) 32 b) (eqb-true (bit x (31 - (8 * n + k))) 1 o))

-- c has the bit of every spot of the list that has one
abbrev pub Covers : ℕ → List Spot → Type 0
Covers c hs = (a : Spot) → On a hs → a.thread < 4 → a.index < 8 → bit c (31 - position a) ≡ 1

-- so a clause is met by a bit: by a mask's spots, and by a list placed in a program within the limits
pub meets_bits : (x c : ℕ) (hs : List Spot) → x < 2 ^ 32 → Covers c hs → Meets (spots x) hs → 0 < bit_and x c
meets_bits x c hs l f (a, i, j) =
    let (k, b, o) = on_bit x a l i in
    bit_shared x c (31 - position a) o (f a j (omega arith) k)

pub meets_mask : (p : Prog) (ss hs : List Spot) (c : ℕ) → T (ok p) → Placed p ss → Covers c hs → Meets ss hs → 0 < bit_and (mask ss) c
meets_mask p ss hs c h w f m =
    meets_bits (mask ss) c hs (mask_small p h ss w) f (subst (λ (z : List Spot). Meets z hs) (sym (spots_mask p h ss w)) m)

pub misses_bits : (x c : ℕ) (hs : List Spot) → x < 2 ^ 32 → Covers c hs → bit_and x c ≡ 0 → Meets (spots x) hs → ⊥
misses_bits x c hs l f e m = let g = meets_bits x c hs l f m in omega arith

pub misses_mask : (p : Prog) (ss hs : List Spot) (c : ℕ) → T (ok p) → Placed p ss → Covers c hs → bit_and (mask ss) c ≡ 0 → Meets ss hs → ⊥
misses_mask p ss hs c h w f e m = let g = meets_mask p ss hs c h w f m in omega arith
