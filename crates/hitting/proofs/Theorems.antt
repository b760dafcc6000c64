-- The theorems about sets of bits, each at 32 bits.
use Rattle.std.proofs.Common.{◌≡◌, length, sym, refl, ◌∙◌, arith}
use Rattle.hitting.specs.Spots.{spots, spots_of}
use Rattle.hitting.specs.Theorems.{SameBits, HighestDiffers, SpotsOfSet, SetOfSpots, AsMany, HasSpot, EarlierIsGreater, Theorems}
use Rattle.hitting.proofs.Bits as bits
use Rattle.hitting.proofs.Spots.{mask_spots, spots_ascend, mask_lt, spots_mask, length_spots, in_spots, spots_in, greater_before, before_greater}

pub same_bits : SameBits
same_bits x y = bits.same_bits 32 x y

pub highest_differs : HighestDiffers
highest_differs x y h k = (
  λ l. let (b, i, o, z, s) = bits.highest_differs 32 x y k l in (b, o, z, s),
  λ d. let (b, o, z, s) = d in bits.differs_highest 32 x y b h k o z s,
)

pub spots_of_set : SpotsOfSet
unfolding spots_of
spots_of_set x h = (spots_ascend 32 0 x refl, mask_spots 32 0 x refl h)

pub set_of_spots : SetOfSpots
unfolding spots_of
set_of_spots ss a = (mask_lt 32 0 ss refl a, spots_mask 32 0 ss refl a)

pub as_many : AsMany
unfolding spots_of
as_many x h = length_spots 32 0 x h

pub has_spot : HasSpot
unfolding spots_of
has_spot x s h = (
  λ i. let (a, b, o) = in_spots 32 0 x s refl h i in (b, o),
  λ p. spots_in 32 0 x s refl h (omega arith) p.0 p.1,
)

pub earlier_is_greater : EarlierIsGreater
unfolding spots_of
earlier_is_greater x y h k e =
    let l : length (spots 32 0 x) ≡ length (spots 32 0 y) = length_spots 32 0 x h ∙ e ∙ sym (length_spots 32 0 y k) in
    (before_greater 32 0 x y refl h k l, greater_before 32 0 x y refl h k l)

pub theorems : Theorems
theorems =
    record {
      same_bits = same_bits;
      highest_differs = highest_differs;
      spots_of_set = spots_of_set;
      set_of_spots = set_of_spots;
      as_many = as_many;
      has_spot = has_spot;
      earlier_is_greater = earlier_is_greater;
    }
