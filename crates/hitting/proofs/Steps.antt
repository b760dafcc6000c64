-- What one step of the search gives, as the functions' contracts have it.
use Rattle.std.proofs.Common.{◌≡◌, ℕ, zero, suc, ◌-◌, ◌*◌, ◌/◌, ◌%◌, ◌^◌, ◌<◌, ◌≤◌, List, sym, ap, ◌∙◌, inl, inr, arith}
use lib.Bits.{bit_and, bit_or, and_le_l, and_le_r}
use lib.Count.{ones, count_leading_zeros, leading_top, count_trailing_zeros}
use Rattle.std.proofs.lemmas.Nat.{one_shl}
use Rattle.std.proofs.lemmas.Bool.{cases_lt, cases_order}
use Rattle.hitting.specs.Masks.{Within}
use Rattle.hitting.specs.Post.{Greatest, Lowered, Passed, Unmet, Fails}
use Rattle.hitting.proofs.Halves.{ones_none, within_trans, and_within_l, and_within_r}
use Rattle.hitting.proofs.Jumps.{next_below, lowest_ones, between_ones, floor, floor_is, floor_le, floor_within, misses_above, rest_apart, rest_ones, fill, fill_is, fill_lt, fill_greatest}

-- `greatest_within`
pub leading_small : (m u : ℕ) → m < 2 ^ 32 → (bit_and m u ≡ m → ⊥) → count_leading_zeros 32 (m - bit_and m u) ≤ 31
leading_small m u h n =
    let l = and_le_l m u in
    let (j, e, a, b) = leading_top 32 (m - bit_and m u) (omega arith) (omega arith) in
    omega arith

pub greatest_fill : (m u : ℕ) → m < 2 ^ 32 → (bit_and m u ≡ m → ⊥) → Greatest u m (bit_and (bit_or m ((1 * 2 ^ (31 - count_leading_zeros 32 (m - bit_and m u))) % 2 ^ 32 - 1)) u)
greatest_fill m u h n =
    let l = and_le_l m u in
    let (j, e, a, b) = leading_top 32 (m - bit_and m u) (omega arith) (omega arith) in
    let i : 31 - count_leading_zeros 32 (m - bit_and m u) ≡ j = omega arith in
    let r : bit_and (bit_or m ((1 * 2 ^ (31 - count_leading_zeros 32 (m - bit_and m u))) % 2 ^ 32 - 1)) u ≡ fill j m u =
    ap (λ k. bit_and (bit_or m ((1 * 2 ^ k) % 2 ^ 32 - 1)) u) i
    ∙ ap (λ p. bit_and (bit_or m (p - 1)) u) (one_shl j 32 (omega arith))
    ∙ sym (fill_is j m u) in
    let t = fill_lt j m u a b in
    record {
      below = omega arith;
      within = and_within_r _ u;
      none = λ z k g w. let s = fill_greatest j m u z a b w g in omega arith;
    }

-- `without_lowest`
pub lowered : (x : ℕ) → 0 < x → Lowered x (bit_and x (x - 1))
lowered x p =
    let l = and_le_r x (x - 1) in
    record {
      below = omega arith;
      within = and_within_l x (x - 1);
      fewer = lowest_ones x p;
      between = between_ones x;
    }

-- `next_without`
module _ (x mark : ℕ) (h : x < 2 ^ 32) (e : bit_and x mark ≡ 0) where
  kept_is : (x / 2 ^ count_trailing_zeros 32 mark * 2 ^ count_trailing_zeros 32 mark) % 2 ^ 32 ≡ floor (count_trailing_zeros 32 mark) x
  kept_is =
      let f = floor_is (count_trailing_zeros 32 mark) x in
      let l = floor_le (count_trailing_zeros 32 mark) x in
      omega arith

  pub all_missed : (x / 2 ^ count_trailing_zeros 32 mark * 2 ^ count_trailing_zeros 32 mark) % 2 ^ 32 ≡ 0
      → (u z : ℕ) → z ≤ x → Within z u → bit_and z mark ≡ 0
  all_missed n u z b w = let k = kept_is in misses_above 32 mark x z (omega arith) b e

  pub passed : (u : ℕ) → Within x u → ((x / 2 ^ count_trailing_zeros 32 mark * 2 ^ count_trailing_zeros 32 mark) % 2 ^ 32 ≡ 0 → ⊥)
      → Passed u mark x (bit_and ((x / 2 ^ count_trailing_zeros 32 mark * 2 ^ count_trailing_zeros 32 mark) % 2 ^ 32 - 1) u)
  passed u w n =
      let y = floor (count_trailing_zeros 32 mark) x in
      let l = floor_le (count_trailing_zeros 32 mark) x in
      let k = kept_is in
      let a = and_le_l (y - 1) u in
      let g : bit_and ((x / 2 ^ count_trailing_zeros 32 mark * 2 ^ count_trailing_zeros 32 mark) % 2 ^ 32 - 1) u ≡ bit_and (y - 1) u = ap (λ m. bit_and (m - 1) u) k in
      record {
        below = omega arith;
        within = and_within_r _ u;
        missed = λ z b d i.
            elim (cases_lt z y) [
              | inl lt ↦ let s = next_below y u z (floor_within (count_trailing_zeros 32 mark) x u w) i lt in absurd (omega arith)
              | inr ge ↦ misses_above 32 mark x z ge d e
            ];
      }

-- `unmet`
pub too_few : (cs : List ℕ) (u n x : ℕ) → Within x u → ones x < n → Unmet cs u n x (u - x)
too_few cs u n x w h =
    record {
      missed = rest_apart x u w;
      needed = λ z e i s. let l = rest_ones z x u w i e in absurd (omega arith);
    }

-- `next_candidate`
pub some_bit : (n x : ℕ) → n < ones x → 0 < x
some_bit n zero h = let e = ones_none in absurd (omega arith)
some_bit n (suc x) h = omega arith

-- where the search stands: at x, with no candidate above
pub record Down (cs : List ℕ) (u n m x : ℕ) : Type 0 where
  pub below : x ≤ m
  pub within : Within x u
  pub none : (z : ℕ) → x < z → z ≤ m → Fails cs u n z

-- from a set with too many bits it goes on without the lowest
pub down_lowered : (cs : List ℕ) (u n m x y : ℕ) → Down cs u n m x → n < ones x → Lowered x y → Down cs u n m y
down_lowered cs u n m x y d h l =
    record {
      below = let a = d.below in let b = l.below in omega arith;
      within = within_trans y x u l.within d.within;
      none = λ z a b w s.
          elim (cases_order z x) [
            | inl e ↦ let g = ap ones e in absurd (omega arith)
            | inr o ↦
                elim o [ inl lt ↦ let g = l.between z a lt in absurd (omega arith) | inr gt ↦ d.none z gt b w s ]
          ];
    }
