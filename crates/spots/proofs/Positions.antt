-- Spots and their positions: each is the other's, and their orders agree.
use Rattle.std.proofs.Common.{◌≡◌, ℕ, suc, ◌+◌, ◌*◌, ◌/◌, ◌%◌, ◌<◌, ◌≤◌, List, [], ◌∷◌, map, refl, ap, ◌∙◌, subst, inl, inr, arith}
use Rattle.std.proofs.lemmas.Bool.{cases_lt}
use Rattle.model.specs.Fences.{Spot, Earlier, InOrder, First, by_this, by_rest}
use Rattle.model.specs.Guards.{On, on_first, on_more}
use Rattle.model.proofs.RunsUnderGuards.{on_inv}
use Rattle.hitting.specs.Spots.{Ascends, In, Before}
use Rattle.spots.specs.Masks.{spot_of, position}

-- a spot that has a bit
abbrev pub Small : Spot → Type 0
Small a = (a.thread < 4) × (a.index < 8)

abbrev pub AllSmall : List Spot → Type 0
AllSmall ss = (a : Spot) → On a ss → Small a

pub position_spot : (s : ℕ) → position (spot_of s) ≡ s
position_spot s = omega arith

pub spot_position : (a : Spot) → a.index < 8 → spot_of (position a) ≡ a
spot_position a h =
    let u : (8 * a.thread + a.index) / 8 ≡ a.thread = omega arith in
    let v : (8 * a.thread + a.index) % 8 ≡ a.index = omega arith in
    λ i. record { thread = u i; index = v i }

pub positions_spots : (ps : List ℕ) → map position (map spot_of ps) ≡ ps
positions_spots [] = refl
positions_spots (s ∷ ps) = ap (λ z. z ∷ map position (map spot_of ps)) (position_spot s) ∙ ap (λ z. s ∷ z) (positions_spots ps)

pub spots_positions : (ss : List Spot) → AllSmall ss → map spot_of (map position ss) ≡ ss
spots_positions [] h = refl
spots_positions (a ∷ ss) h =
    ap (λ (z : Spot). z ∷ map spot_of (map position ss)) (spot_position a (h a on_first).1)
    ∙ ap (λ (z : List Spot). a ∷ z) (spots_positions ss (λ b x. h b (on_more x)))

-- standing in a list, as a spot and as a position
pub in_positions : (s : ℕ) (ss : List Spot) → In s (map position ss) → (a : Spot) × On a ss × (s ≡ position a)
in_positions s [] h = absurd h
in_positions s (a ∷ ss) (inl e) = (a, on_first, e)
in_positions s (a ∷ ss) (inr h) = let (b, x, e) = in_positions s ss h in (b, on_more x, e)

pub on_spots : (a : Spot) (ps : List ℕ) → On a (map spot_of ps) → (s : ℕ) × In s ps × (a ≡ spot_of s)
on_spots a [] h = absurd (on_inv h)
on_spots a (s ∷ ps) h =
    elim (on_inv h) [
      | inl e ↦ (s, inl refl, e)
      | inr k ↦ let (t, i, e) = on_spots a ps k in (t, inr i, e)
    ]

pub spots_on : (s : ℕ) (ps : List ℕ) → In s ps → On (spot_of s) (map spot_of ps)
spots_on s [] h = absurd h
spots_on s (t ∷ ps) (inl e) = subst (λ (z : ℕ). On (spot_of s) (spot_of z ∷ map spot_of ps)) e on_first
spots_on s (t ∷ ps) (inr h) = on_more (spots_on s ps h)

-- the earlier spot has the lower position
earlier_below : (a b : Spot) → a.index < 8 → Earlier a b → position a < position b
earlier_below a b h (inl l) = omega arith
earlier_below a b h (inr (e, l)) = omega arith

below_earlier : (s t : ℕ) → s < t → Earlier (spot_of s) (spot_of t)
below_earlier s t h = elim (cases_lt (s / 8) (t / 8)) [ inl l ↦ inl l | inr g ↦ inr (omega arith, omega arith) ]

-- the list, if it has a first, begins at s or behind
abbrev From : ℕ → List Spot → Type 0
From s [] = Unit {0}
From s (a ∷ ss) = s ≤ position a

order_ascends : (s : ℕ) (ss : List Spot) → From s ss → InOrder ss → AllSmall ss → Ascends s (map position ss)
order_ascends s [] f o h = tt
order_ascends s (a ∷ []) f o h = let (x, y) = h a on_first in (f, omega arith, tt)
order_ascends s (a ∷ b ∷ ss) f (e, o) h =
    let (x, y) = h a on_first in
    let l : position a < position b = earlier_below a b y e in
    (f, omega arith, order_ascends (suc (position a)) (b ∷ ss) l o (λ c z. h c (on_more z)))

pub placed_from : (ss : List Spot) → InOrder ss → AllSmall ss → Ascends 0 (map position ss)
placed_from [] o h = tt
placed_from (a ∷ ss) o h = order_ascends 0 (a ∷ ss) (omega arith) o h

pub ascends_order : (s : ℕ) (ps : List ℕ) → Ascends s ps → InOrder (map spot_of ps)
ascends_order s [] a = tt
ascends_order s (t ∷ []) a = tt
ascends_order s (t ∷ u ∷ ps) (a, b, c) = (below_earlier t u c.0, ascends_order (suc t) (u ∷ ps) c)

-- the list that comes first
pub first_before : {ts ss : List Spot} → First ts ss → AllSmall ts → Before (map position ts) (map position ss)
first_before (by_this {a} {b} e) h = inl (earlier_below a b (h a on_first).1 e)
first_before (by_rest f) h = inr (refl, first_before f (λ b x. h b (on_more x)))
