-- Lists of events: what it says that an event stands in a list, or before another, where the list is a cons, a join of
-- two, or a list that one event has been taken out of.
-- The two types are indexed by the list, so a match on one needs a variable there. Each is turned once into a type that
-- computes on the list, and all else goes by that.
use mathlib.Core.Path.{◌≡◌, refl, ap, subst}
use mathlib.Core.Logic.{◌⊎◌, inl, inr}
use mathlib.Core.List.{List, [], ◌∷◌, ◌++◌}
use Rattle.model.specs.Orders.{Ev, In, first, more, Before, here, later}

-- a stands in l, by cases of l
abbrev pub Within : Ev → List Ev → Type 0
Within a [] = ⊥
Within a (e ∷ es) = (a ≡ e) ⊎ In a es

pub within : {a : Ev} {l : List Ev} → In a l → Within a l
within first = inl refl
within (more i) = inr i

-- a stands before b in l, by cases of l
abbrev pub Ahead : Ev → Ev → List Ev → Type 0
Ahead a b [] = ⊥
Ahead a b (e ∷ es) = ((a ≡ e) × In b es) ⊎ Before a b es

pub ahead : {a b : Ev} {l : List Ev} → Before a b l → Ahead a b l
ahead (here i) = inl (refl, i)
ahead (later k) = inr k

-- and back, at an equal event
pub in_same : {a e : Ev} {es : List Ev} → a ≡ e → In a (e ∷ es)
in_same {a} {e} {es} q = subst (λ (z : Ev). In a (z ∷ es)) q first

pub here_same : {a b e : Ev} {es : List Ev} → a ≡ e → In b es → Before a b (e ∷ es)
here_same {a} {b} {e} {es} q i = subst (λ (z : Ev). Before a b (z ∷ es)) q (here i)

-- both stand in the list
pub before_first : {a b : Ev} {l : List Ev} → Before a b l → In a l
before_first (here i) = first
before_first (later k) = more (before_first k)

pub before_second : {a b : Ev} {l : List Ev} → Before a b l → In b l
before_second (here i) = more i
before_second (later k) = more (before_second k)

-- two that stand before each other stand in the list twice
pub before_both : {a b : Ev} (l : List Ev) → Before a b l → Before b a l → (c : Ev) × Before c c l
before_both [] j k = absurd (ahead j)
before_both {a} {b} (e ∷ es) j k =
    elim (ahead j) [
      | inl (p, i) ↦ elim (ahead k) [
        | inl (q, i') ↦ (a, here_same p i')
        | inr k' ↦ (a, here_same p (before_second k'))
      ]
      | inr j' ↦ elim (ahead k) [
        | inl (q, i') ↦ (b, here_same q (before_second j'))
        | inr k' ↦ let (c, z) = before_both es j' k' in (c, later z)
      ]
    ]

-- a join of two lists
pub in_left : {a : Ev} {xs : List Ev} (ys : List Ev) → In a xs → In a (xs ++ ys)
in_left ys first = first
in_left ys (more i) = more (in_left ys i)

pub in_right : {a : Ev} (xs : List Ev) {ys : List Ev} → In a ys → In a (xs ++ ys)
in_right [] i = i
in_right (x ∷ xs) i = more (in_right xs i)

pub before_left : {a b : Ev} {xs : List Ev} (ys : List Ev) → Before a b xs → Before a b (xs ++ ys)
before_left ys (here i) = here (in_left ys i)
before_left ys (later k) = later (before_left ys k)

pub in_or : {a : Ev} (xs ys : List Ev) → In a (xs ++ ys) → In a xs ⊎ In a ys
in_or [] ys i = inr i
in_or (x ∷ xs) ys i =
    elim (within i) [ inl q ↦ inl (in_same q) | inr j ↦ elim (in_or xs ys j) [ inl k ↦ inl (more k) | inr k ↦ inr k ] ]

-- what stands on either side of an event
pub before_this : {a : Ev} {xs : List Ev} (e : Ev) (ys : List Ev) → In a xs → Before a e (xs ++ (e ∷ ys))
before_this e ys (first {es = es}) = here (in_right es first)
before_this e ys (more i) = later (before_this e ys i)

pub this_before : {a : Ev} (e : Ev) (xs : List Ev) {ys : List Ev} → In a ys → Before e a (xs ++ (e ∷ ys))
this_before e [] i = here i
this_before e (x ∷ xs) i = later (this_before e xs i)

-- one event, e, taken out of a list: what stands in the rest stood in the list, in the same order
pub kept_in : {a : Ev} (e : Ev) (xs ys : List Ev) → In a (xs ++ ys) → In a (xs ++ (e ∷ ys))
kept_in e [] ys i = more i
kept_in e (x ∷ xs) ys i = elim (within i) [ inl q ↦ in_same q | inr j ↦ more (kept_in e xs ys j) ]

pub kept_before : {a b : Ev} (e : Ev) (xs ys : List Ev) → Before a b (xs ++ ys) → Before a b (xs ++ (e ∷ ys))
kept_before e [] ys k = later k
kept_before e (x ∷ xs) ys k =
    elim (ahead k) [ inl (q, i) ↦ here_same q (kept_in e xs ys i) | inr j ↦ later (kept_before e xs ys j) ]

-- what stood in the list was that event or stands in the rest
pub left_in : {a : Ev} (e : Ev) (xs ys : List Ev) → In a (xs ++ (e ∷ ys)) → (a ≡ e) ⊎ In a (xs ++ ys)
left_in e [] ys i = within i
left_in e (x ∷ xs) ys i =
    elim (within i) [ inl q ↦ inr (in_same q) | inr j ↦ elim (left_in e xs ys j) [ inl q ↦ inl q | inr k ↦ inr (more k) ] ]

pub left_before : {a b : Ev} (e : Ev) (xs ys : List Ev) → Before a b (xs ++ (e ∷ ys)) → ((In a xs × (b ≡ e)) ⊎ ((a ≡ e) × In b ys)) ⊎ Before a b (xs ++ ys)
left_before e [] ys k = elim (ahead k) [ inl h ↦ inl (inr h) | inr j ↦ inr j ]
left_before e (x ∷ xs) ys k =
    elim (ahead k) [
      | inl (q, i) ↦ elim (left_in e xs ys i) [ inl p ↦ inl (inl (in_same q, p)) | inr j ↦ inr (here_same q j) ]
      | inr j ↦ elim (left_before e xs ys j) [
        | inl (inl (i, p)) ↦ inl (inl (more i, p))
        | inl (inr h) ↦ inl (inr h)
        | inr z ↦ inr (later z)
      ]
    ]

-- an event of a list, with what stands before it and behind it
pub in_split : {a : Ev} {l : List Ev} → In a l → (xs : List Ev) × (ys : List Ev) × (l ≡ xs ++ (a ∷ ys))
in_split {a} (first {es = es}) = ([], es, refl)
in_split (more {e = e} i) = let (xs, ys, q) = in_split i in (e ∷ xs, ys, ap {B = List Ev} (λ z. e ∷ z) q)
