-- The fewest and first list of fences, told by masks: one that works, such that none with fewer bits works, and none
-- with as many that is greater.
use Rattle.std.proofs.Common.{◌≡◌, ℕ, ◌^◌, ◌<◌, ◌≤◌, T, ◌⊎◌, List, length, sym, ◌∙◌, subst, inl, inr, arith}
use lib.Count.{ones}
use Rattle.std.proofs.lemmas.Bool.{cases_lt}
use Rattle.model.specs.Code.{Prog, ok}
use Rattle.model.specs.Fences.{Spot, First, Placed, DoesIt, Fewest}
use Rattle.model.proofs.SomeListWorks.{some_list_works}
use Rattle.hitting.specs.Masks.{Within}
use Rattle.spots.specs.Masks.{spots, mask, every_spot}
use Rattle.spots.proofs.Lists.{mask_small, mask_within, ones_mask, spots_mask, length_spots, mask_spots, first_greater}

-- z goes before x: it has fewer bits, or as many and is greater
abbrev pub Better : ℕ → ℕ → Type 0
Better z x = (ones z < ones x) ⊎ ((ones z ≡ ones x) × (x < z))

placed_of : (p : Prog) (ss : List Spot) → DoesIt p ss → Placed p ss
placed_of p ss d = (d.0, d.1)

-- the mask of a list that works works
pub mask_does_it : (p : Prog) (ss : List Spot) → T (ok p) → DoesIt p ss → DoesIt p (spots (mask ss))
mask_does_it p ss h d = subst (DoesIt p) (sym (spots_mask p h ss (placed_of p ss d))) d

pub fewest_by_masks : (p : Prog) (x : ℕ) → T (ok p) → x < 2 ^ 32 → DoesIt p (spots x) → ((z : ℕ) → z < 2 ^ 32 → Within z (every_spot p) → Better z x → DoesIt p (spots z) → ⊥) → Fewest p (spots x)
fewest_by_masks p x h l d none = record { does_it = d; fewest = fewest; first = first }
  where
    many : length (spots x) ≡ ones x
    many = length_spots x l

    refused : (ts : List Spot) → DoesIt p ts → Better (mask ts) x → ⊥
    refused ts w b = none (mask ts) (mask_small p h ts (placed_of p ts w)) (mask_within p h ts (placed_of p ts w)) b (mask_does_it p ts h w)

    fewest : (ts : List Spot) → DoesIt p ts → length (spots x) ≤ length ts
    fewest ts w =
        let e = ones_mask p h ts (placed_of p ts w) in
        let m = many in
        elim (cases_lt (length ts) (length (spots x))) [ inl s ↦ absurd (refused ts w (inl (omega arith))) | inr g ↦ g ]

    first : (ts : List Spot) → DoesIt p ts → length ts ≡ length (spots x) → First ts (spots x) → ⊥
    first ts w e f =
        let g = first_greater p (spots x) ts h (placed_of p (spots x) d) (placed_of p ts w) (sym e) f in
        let s = mask_spots x l in
        refused ts w (inr (ones_mask p h ts (placed_of p ts w) ∙ e ∙ many, omega arith))

pub some_mask_works : (p : Prog) → T (ok p) → (x : ℕ) × (x < 2 ^ 32) × Within x (every_spot p) × DoesIt p (spots x)
some_mask_works p h =
    let (ss, d) = some_list_works p in
    (mask ss, mask_small p h ss (placed_of p ss d), mask_within p h ss (placed_of p ss d), mask_does_it p ss h d)
