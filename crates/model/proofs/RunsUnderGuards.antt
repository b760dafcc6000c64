-- Runs under guards. A run under guards is a run to the same state, and a run is still one under guards exactly if it
-- passes none of them while something of its thread waits, that is, if the guarded spots are apart from its hits.
use mathlib.Core.Path.{◌≡◌, refl, sym, ap, ◌∙◌, subst}
use mathlib.Core.Logic.{◌⊎◌, inl, inr}
use mathlib.Core.List.{List, [], ◌∷◌, ◌++◌}
use mathlib.Core.Option.{Option, some, none}
use mathlib.Core.Bool.{Bool, true, false, ◌&&◌, ◌||◌, not}
use Prim.Native.Nat.{ℕ}
use lib.Dec.{eqb}
use Rattle.model.specs.Code.{pick, opt, nth, Prog}
use Rattle.model.specs.Machine.{At, St, Move, next, out, move, moves, empty}
use Rattle.model.specs.Fences.{Spot}
use Rattle.model.specs.Guards.{Guard, guards, free, gmove, gmoves, hit, hits, On, on_first, on_more, Apart}
use Rattle.model.specs.Theorems.{NoMoreStates, StillARun}
use Rattle.model.proofs.Tools.{opt_some, opt_is, false_true, pick_some, eqb_is, eqb_same, and_both}

-- standing in a list, by its first
abbrev pub OnV : Spot → List Spot → Type 0
OnV a [] = ⊥
OnV a (s ∷ ss) = (a ≡ s) ⊎ On a ss

pub on_inv : {a : Spot} {ss : List Spot} → On a ss → OnV a ss
on_inv on_first = inl refl
on_inv (on_more h) = inr h

pub on_left : {a : Spot} (ss ts : List Spot) → On a ss → On a (ss ++ ts)
on_left [] ts h = absurd (on_inv h)
on_left (s ∷ ss) ts h = elim (on_inv h) [ inl e ↦ subst (λ (z : Spot). On z (s ∷ (ss ++ ts))) (sym e) on_first | inr k ↦ on_more (on_left ss ts k) ]

pub on_right : {a : Spot} (ss ts : List Spot) → On a ts → On a (ss ++ ts)
on_right [] ts h = h
on_right (s ∷ ss) ts h = on_more (on_right ss ts h)

pub on_either : {a : Spot} (ss ts : List Spot) → On a (ss ++ ts) → On a ss ⊎ On a ts
on_either [] ts h = inr h
on_either {a} (s ∷ ss) ts h = elim (on_inv h) [ inl e ↦ inl (subst (λ (z : Spot). On z (s ∷ ss)) (sym e) on_first) | inr k ↦ elim (on_either ss ts k) [ inl x ↦ inl (on_more x) | inr y ↦ inr y ] ]

-- the test of a guard says whether the spot stands in the list
pub on_guards : (a : Spot) (ss : List Spot) → On a ss → guards ss a.thread a.index ≡ true
on_guards a [] h = absurd (on_inv h)
on_guards a (s ∷ ss) h = elim (on_inv h) [ inl e ↦ same e | inr k ↦ more (on_guards a ss k) (eqb s.thread a.thread && eqb s.index a.index) ]
  where
    same : a ≡ s → (eqb s.thread a.thread && eqb s.index a.index) || guards ss a.thread a.index ≡ true
    same e = rw e (rw (eqb_same s.thread) (rw (eqb_same s.index) refl))

    more : guards ss a.thread a.index ≡ true → (b : Bool) → b || guards ss a.thread a.index ≡ true
    more g true = refl
    more g false = g

pub guards_on : (n k : ℕ) (ss : List Spot) → guards ss n k ≡ true → On (record { thread = n; index = k }) ss
guards_on n k [] h = absurd (false_true h)
guards_on n k (s ∷ ss) h = go (eqb s.thread n && eqb s.index k) refl h (guards_on n k ss)
  where
    go : (b : Bool) → eqb s.thread n && eqb s.index k ≡ b → b || guards ss n k ≡ true → (guards ss n k ≡ true → On (record { thread = n; index = k }) ss) → On (record { thread = n; index = k }) (s ∷ ss)
    go true e g f =
        let (x, y) = and_both (eqb s.thread n) (eqb s.index k) e in
        let u = eqb_is s.thread n x in
        let v = eqb_is s.index k y in
        let q : s ≡ record { thread = n; index = k } = λ i. record { thread = u i; index = v i } in
        subst (λ (z : Spot). On z (s ∷ ss)) q on_first
    go false e g f = on_more (f g)

pub gmove_move : (g : Guard) (p : Prog) (s t : St) (m : Move) → gmove g p s m ≡ some t → (free g s m ≡ true) × (move p s m ≡ some t)
gmove_move g p s t m e = pick_some (free g s m) (move p s m) e

pub move_gmove : (g : Guard) (p : Prog) (s t : St) (m : Move) → free g s m ≡ true → move p s m ≡ some t → gmove g p s m ≡ some t
move_gmove g p s t m f e = rw f e

pub no_more_states : NoMoreStates
no_more_states g p s t [] e = e
no_more_states g p s t (m ∷ ms) e =
    let (u, eu, e1) = opt_some (gmove g p s m) _ e in
    opt_is (move p s m) none _ (gmove_move g p s u m eu).1 ∙ no_more_states g p u t ms e1

-- more guards, fewer runs
pub free_less : (g h : Guard) (s : St) (m : Move) → ((n k : ℕ) → g n k ≡ true → h n k ≡ true) → free h s m ≡ true → free g s m ≡ true
free_less g h s (next n) less f = at (nth s.threads n) f
  where
    one : (k : ℕ) (e a b : Bool) → g n k ≡ a → h n k ≡ b → not b || e ≡ true → not a || e ≡ true
    one k true true b ea eb q = refl
    one k true false b ea eb q = refl
    one k false false b ea eb q = refl
    one k false true true ea eb q = q
    one k false true false ea eb q = absurd (false_true (sym eb ∙ less n k ea))

    at : (o : Option At) → opt o true (λ a. not (h n a.pc) || empty a.waits) ≡ true → opt o true (λ a. not (g n a.pc) || empty a.waits) ≡ true
    at none q = refl
    at (some a) q = one a.pc (empty a.waits) (g n a.pc) (h n a.pc) refl refl q
free_less g h s (out n) less f = refl

pub gmoves_less : (g h : Guard) (p : Prog) (s t : St) (ms : List Move) → ((n k : ℕ) → g n k ≡ true → h n k ≡ true) → gmoves h p s ms ≡ some t → gmoves g p s ms ≡ some t
gmoves_less g h p s t [] less e = e
gmoves_less g h p s t (m ∷ ms) less e =
    let (u, eu, e1) = opt_some (gmove h p s m) _ e in
    let (f, em) = gmove_move h p s u m eu in
    opt_is (gmove g p s m) none _ (move_gmove g p s u m (free_less g h s m less f) em) ∙ gmoves_less g h p u t ms less e1

-- with no guard at all every run is one
abbrev pub unguarded : Guard
unguarded n k = false

pub moves_gmoves : (p : Prog) (s t : St) (ms : List Move) → moves p s ms ≡ some t → gmoves unguarded p s ms ≡ some t
moves_gmoves p s t [] e = e
moves_gmoves p s t (m ∷ ms) e =
    let (u, eu, e1) = opt_some (move p s m) _ e in
    opt_is (gmove unguarded p s m) none _ (move_gmove unguarded p s u m (go m) eu) ∙ moves_gmoves p u t ms e1
  where
    at : (o : Option At) → opt o true (λ a. not false || empty a.waits) ≡ true
    at none = refl
    at (some a) = refl

    go : (m : Move) → free unguarded s m ≡ true
    go (next n) = at (nth s.threads n)
    go (out n) = refl

-- no guard forbids a move exactly if its hit is no guarded spot
free_apart : (ss : List Spot) (s : St) (m : Move) → free (guards ss) s m ≡ true → Apart ss (hit s m)
free_apart ss s (next n) h = at (nth s.threads n) h
  where
    one : (k : ℕ) (e : Bool) → not (guards ss n k) || e ≡ true → Apart ss (pick e [] (record { thread = n; index = k } ∷ []))
    one k true h = λ a x y. on_inv y
    one k false h = λ a x y. elim (on_inv y) [ inl e ↦ false_true (sym (ap (λ (z : Bool). not z || false) (subst (λ (z : Spot). guards ss z.thread z.index ≡ true) e (on_guards a ss x))) ∙ h) | inr z ↦ on_inv z ]

    at : (o : Option At) → opt o true (λ a. not (guards ss n a.pc) || empty a.waits) ≡ true → Apart ss (opt o [] (λ a. pick (empty a.waits) [] (record { thread = n; index = a.pc } ∷ [])))
    at none h = λ a x y. on_inv y
    at (some b) h = one b.pc (empty b.waits) h
free_apart ss s (out n) h = λ a x y. on_inv y

apart_free : (ss : List Spot) (s : St) (m : Move) → Apart ss (hit s m) → free (guards ss) s m ≡ true
apart_free ss s (next n) h = at (nth s.threads n) h
  where
    one : (k : ℕ) (e : Bool) (b : Bool) → guards ss n k ≡ b → Apart ss (pick e [] (record { thread = n; index = k } ∷ [])) → not b || e ≡ true
    one k true true q h = refl
    one k true false q h = refl
    one k false true q h = absurd (h (record { thread = n; index = k }) (guards_on n k ss q) on_first)
    one k false false q h = refl

    at : (o : Option At) → Apart ss (opt o [] (λ a. pick (empty a.waits) [] (record { thread = n; index = a.pc } ∷ []))) → opt o true (λ a. not (guards ss n a.pc) || empty a.waits) ≡ true
    at none h = refl
    at (some b) h = one b.pc (empty b.waits) (guards ss n b.pc) refl h
apart_free ss s (out n) h = refl

still_apart : (ss : List Spot) (p : Prog) (s t : St) (ms : List Move) → gmoves (guards ss) p s ms ≡ some t → Apart ss (hits p s ms)
still_apart ss p s t [] e a x y = on_inv y
still_apart ss p s t (m ∷ ms) e a x y =
    let (u, eu, e1) = opt_some (gmove (guards ss) p s m) _ e in
    let (f, em) = gmove_move (guards ss) p s u m eu in
    let k = subst (λ (z : List Spot). On a (hit s m ++ z)) (opt_is (move p s m) [] (λ v. hits p v ms) em) y in
    elim (on_either (hit s m) (hits p u ms) k) [ inl h ↦ free_apart ss s m f a x h | inr h ↦ still_apart ss p u t ms e1 a x h ]

apart_still : (ss : List Spot) (p : Prog) (s t : St) (ms : List Move) → moves p s ms ≡ some t → Apart ss (hits p s ms) → gmoves (guards ss) p s ms ≡ some t
apart_still ss p s t [] e h = e
apart_still ss p s t (m ∷ ms) e h =
    let (u, eu, e1) = opt_some (move p s m) _ e in
    let split = opt_is (move p s m) [] (λ v. hits p v ms) eu in
    let k = subst (λ (z : List Spot). Apart ss (hit s m ++ z)) split h in
    let f = apart_free ss s m (λ a x y. k a x (on_left (hit s m) (hits p u ms) y)) in
    opt_is (gmove (guards ss) p s m) none _ (move_gmove (guards ss) p s u m f eu) ∙ apart_still ss p u t ms e1 (λ a x y. k a x (on_right (hit s m) (hits p u ms) y))

pub still_a_run : StillARun
still_a_run ss p s t ms e = (still_apart ss p s t ms, apart_still ss p s t ms e)
