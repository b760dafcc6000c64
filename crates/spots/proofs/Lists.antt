-- Lists of spots placed in a program and masks within the mask of all its spots are one another: as many spots as
-- bits, and the earlier of two lists of one length is the greater mask.
use Rattle.std.proofs.Common.{◌≡◌, ℕ, ◌-◌, ◌^◌, ◌<◌, T, List, [], ◌∷◌, ◌++◌, map, length, sym, ap, ◌∙◌, subst, inl, inr, arith}
use lib.Count.{ones}
use Rattle.std.proofs.lemmas.List.{length-map}
use Rattle.model.specs.Code.{Prog, ok}
use Rattle.model.specs.Fences.{Spot, First, Placed}
use Rattle.model.specs.Guards.{On, on_first}
use Rattle.model.proofs.RunsUnderGuards.{on_inv, on_right}
use Rattle.hitting.specs.Masks.{bit, Within}
use Rattle.hitting.specs.Spots.{spots_of, mask_of, Ascends, In, Before}
use Rattle.hitting.proofs.Bits.{bits_within, within_bit}
use Rattle.hitting.proofs.Theorems.{spots_of_set, set_of_spots, as_many, has_spot, earlier_is_greater}
use Rattle.spots.specs.Masks.{spot_of, position, spots, mask, every_spot}
use Rattle.spots.proofs.Positions.{AllSmall, positions_spots, spots_positions, in_positions, on_spots, placed_from, ascends_order, first_before}
use Rattle.spots.proofs.Every.{Inside, inside_small, every_bit, bit_every}

-- what stands in a list splits it
on_split : (a : Spot) (ss : List Spot) → On a ss → (as₁ : List Spot) × (bs : List Spot) × (ss ≡ as₁ ++ (a ∷ bs))
on_split a [] h = absurd (on_inv h)
on_split a (b ∷ ss) h =
    elim (on_inv h) [
      | inl e ↦ ([], ss, ap (λ (z : Spot). z ∷ ss) (sym e))
      | inr k ↦ let (as₁, bs, e) = on_split a ss k in (b ∷ as₁, bs, ap (λ (z : List Spot). b ∷ z) e)
    ]

-- a list of spots placed in a program within the limits, as a mask
module _ (p : Prog) (h : T (ok p)) (ss : List Spot) (w : Placed p ss) where
  pub placed_inside : (a : Spot) → On a ss → Inside p a
  placed_inside a x = let (as₁, bs, e) = on_split a ss x in w.1 a as₁ bs e

  pub placed_small : AllSmall ss
  placed_small a x = inside_small p a h (placed_inside a x)

  pub placed_ascends : Ascends 0 (map position ss)
  placed_ascends = placed_from ss w.0 placed_small

  pub mask_small : mask ss < 2 ^ 32
  mask_small = (set_of_spots (map position ss) placed_ascends).0

  mask_positions : spots_of (mask ss) ≡ map position ss
  mask_positions = (set_of_spots (map position ss) placed_ascends).1

  pub spots_mask : spots (mask ss) ≡ ss
  spots_mask = ap (map spot_of) mask_positions ∙ spots_positions ss placed_small

  pub ones_mask : ones (mask ss) ≡ length ss
  ones_mask = sym (as_many (mask ss) mask_small) ∙ ap length mask_positions ∙ length-map ss position

  pub mask_within : Within (mask ss) (every_spot p)
  mask_within = bits_within 32 (mask ss) (every_spot p) mask_small at
    where
      at : (b : ℕ) → b < 32 → bit (mask ss) b ≡ 1 → bit (every_spot p) b ≡ 1
      at b l o =
          let r : 31 - (31 - b) ≡ b = omega arith in
          let i = (has_spot (mask ss) (31 - b) mask_small).1 (omega arith, ap (bit (mask ss)) r ∙ o) in
          let (a, x, e) = in_positions (31 - b) ss (subst (In (31 - b)) mask_positions i) in
          let f : 31 - position a ≡ b = omega arith in
          subst (λ (z : ℕ). bit (every_spot p) z ≡ 1) f (every_bit p h a (placed_inside a x))

-- a mask as a list of spots
pub length_spots : (x : ℕ) → x < 2 ^ 32 → length (spots x) ≡ ones x
length_spots x l = length-map (spots_of x) spot_of ∙ as_many x l

pub mask_spots : (x : ℕ) → x < 2 ^ 32 → mask (spots x) ≡ x
mask_spots x l = ap mask_of (positions_spots (spots_of x)) ∙ (spots_of_set x l).1

pub mask_placed : (p : Prog) (x : ℕ) → T (ok p) → x < 2 ^ 32 → Within x (every_spot p) → Placed p (spots x)
mask_placed p x h l w = (ascends_order 0 (spots_of x) (spots_of_set x l).0, at)
  where
    at : (a : Spot) (as₁ bs : List Spot) → spots x ≡ as₁ ++ (a ∷ bs) → Inside p a
    at a as₁ bs e =
        let (s, i, q) = on_spots a (spots_of x) (subst (On a) (sym e) (on_right as₁ (a ∷ bs) on_first)) in
        let (b, o) = (has_spot x s l).0 i in
        subst (Inside p) (sym q) (bit_every p h s b (within_bit x (every_spot p) (31 - s) w o))

-- of lists of one length the first has the greatest mask
pub first_greater : (p : Prog) (ss ts : List Spot) → T (ok p) → Placed p ss → Placed p ts → length ss ≡ length ts → First ts ss → mask ss < mask ts
first_greater p ss ts h v w e f =
    let b : Before (map position ts) (map position ss) = first_before f (placed_small p h ts w) in
    let many : ones (mask ts) ≡ ones (mask ss) = ones_mask p h ts w ∙ sym e ∙ sym (ones_mask p h ss v) in
    (earlier_is_greater (mask ts) (mask ss) (mask_small p h ts w) (mask_small p h ss v) many).0
    (subst (λ (z : List ℕ). Before z (spots_of (mask ss))) (sym (mask_positions p h ts w)) (subst (Before (map position ts)) (sym (mask_positions p h ss v)) b))
