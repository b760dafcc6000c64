-- A run of the program is one under guards exactly if no spot that it passes is guarded, for any test of guards.
use Rattle.std.proofs.Common.{◌≡◌, ℕ, Bool, true, false, not, ◌||◌, List, [], ◌∷◌, ◌++◌, sym, refl, ap, ◌∙◌, subst, inl, inr}
use mathlib.Core.Option.{Option, some, none}
use lib.Bits.{bit_and}
use Rattle.model.specs.Code.{pick, opt, nth, Prog}
use Rattle.model.specs.Machine.{At, St, Move, next, out, move, moves, empty}
use Rattle.model.specs.Fences.{Spot}
use Rattle.model.specs.Guards.{Guard, free, gmove, gmoves, hit, hits, On, on_first}
use Rattle.model.proofs.Tools.{opt_some, opt_is, false_true}
use Rattle.model.proofs.RunsUnderGuards.{on_inv, on_left, on_right, on_either, gmove_move, move_gmove}
use Rattle.guard.specs.Masks.{masked, mask}
use Rattle.guard.proofs.MaskLaws.{apart_clear, clear_apart}

-- no spot of the list is guarded
abbrev pub Unguarded : Guard → List Spot → Type 0
Unguarded g ss = (a : Spot) → On a ss → g a.thread a.index ≡ true → ⊥

-- one move
pub free_hit : (g : Guard) (s : St) (m : Move) → free g s m ≡ true → Unguarded g (hit s m)
free_hit g s (next n) h = at (nth s.threads n) h
  where
    one : (k : ℕ) (e : Bool) → not (g n k) || e ≡ true → Unguarded g (pick e [] (record { thread = n; index = k } ∷ []))
    one k true h = λ a o x. on_inv o
    one k false h =
        λ a o x.
        elim (on_inv o) [
          | inl e ↦ false_true (sym (ap (λ (z : Bool). not z || false) (subst (λ (z : Spot). g z.thread z.index ≡ true) e x)) ∙ h)
          | inr z ↦ on_inv z
        ]

    at : (o : Option At) → opt o true (λ a. not (g n a.pc) || empty a.waits) ≡ true → Unguarded g (opt o [] (λ a. pick (empty a.waits) [] (record { thread = n; index = a.pc } ∷ [])))
    at none h = λ a o x. on_inv o
    at (some b) h = one b.pc (empty b.waits) h
free_hit g s (out n) h = λ a o x. on_inv o

pub hit_free : (g : Guard) (s : St) (m : Move) → Unguarded g (hit s m) → free g s m ≡ true
hit_free g s (next n) h = at (nth s.threads n) h
  where
    one : (k : ℕ) (e : Bool) (b : Bool) → g n k ≡ b → Unguarded g (pick e [] (record { thread = n; index = k } ∷ [])) → not b || e ≡ true
    one k true true q h = refl
    one k true false q h = refl
    one k false true q h = absurd (h (record { thread = n; index = k }) on_first q)
    one k false false q h = refl

    at : (o : Option At) → Unguarded g (opt o [] (λ a. pick (empty a.waits) [] (record { thread = n; index = a.pc } ∷ []))) → opt o true (λ a. not (g n a.pc) || empty a.waits) ≡ true
    at none h = refl
    at (some b) h = one b.pc (empty b.waits) (g n b.pc) refl h
hit_free g s (out n) h = refl

-- a run
pub run_unguarded : (g : Guard) (p : Prog) (s t : St) (ms : List Move) → gmoves g p s ms ≡ some t → Unguarded g (hits p s ms)
run_unguarded g p s t [] e a o x = on_inv o
run_unguarded g p s t (m ∷ ms) e a o x =
    let (u, eu, e1) = opt_some (gmove g p s m) _ e in
    let (f, em) = gmove_move g p s u m eu in
    let k = subst (λ (z : List Spot). On a (hit s m ++ z)) (opt_is (move p s m) [] (λ v. hits p v ms) em) o in
    elim (on_either (hit s m) (hits p u ms) k) [ inl h ↦ free_hit g s m f a h x | inr h ↦ run_unguarded g p u t ms e1 a h x ]

pub unguarded_run : (g : Guard) (p : Prog) (s t : St) (ms : List Move) → moves p s ms ≡ some t → Unguarded g (hits p s ms) → gmoves g p s ms ≡ some t
unguarded_run g p s t [] e h = e
unguarded_run g p s t (m ∷ ms) e h =
    let (u, eu, e1) = opt_some (move p s m) _ e in
    let k = subst (λ (z : List Spot). Unguarded g (hit s m ++ z)) (opt_is (move p s m) [] (λ v. hits p v ms) eu) h in
    let f = hit_free g s m (λ a o. k a (on_left (hit s m) (hits p u ms) o)) in
    opt_is (gmove g p s m) none _ (move_gmove g p s u m f eu) ∙ unguarded_run g p u t ms e1 (λ a o. k a (on_right (hit s m) (hits p u ms) o))

-- the same by bits
pub free_clear : (g : ℕ) (s : St) (m : Move) → free (masked g) s m ≡ true → bit_and (mask (hit s m)) g ≡ 0
free_clear g s m h = apart_clear g (hit s m) (free_hit (masked g) s m h)

pub clear_free : (g : ℕ) (s : St) (m : Move) → bit_and (mask (hit s m)) g ≡ 0 → free (masked g) s m ≡ true
clear_free g s m e = hit_free (masked g) s m (clear_apart g (hit s m) e)

-- a run under guards passes none of them, and a run that passes none is one under guards
pub run_clear : (g : ℕ) (p : Prog) (s t : St) (ms : List Move) → gmoves (masked g) p s ms ≡ some t → bit_and (mask (hits p s ms)) g ≡ 0
run_clear g p s t ms e = apart_clear g (hits p s ms) (run_unguarded (masked g) p s t ms e)

pub clear_run : (g : ℕ) (p : Prog) (s t : St) (ms : List Move) → moves p s ms ≡ some t → bit_and (mask (hits p s ms)) g ≡ 0 → gmoves (masked g) p s ms ≡ some t
clear_run g p s t ms e z = unguarded_run (masked g) p s t ms e (clear_apart g (hits p s ms) z)
