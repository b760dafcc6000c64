-- What a bad run teaches: every list that works has one of its hits, for else the run would still be one under the list's
-- guards. So a list that works and is the fewest and first of those that meet all clauses learnt is the fewest and first.
use mathlib.Core.Path.{◌≡◌, refl, sym, ◌∙◌, subst}
use mathlib.Core.Logic.{◌⊎◌, inl, inr}
use mathlib.Core.List.{List, [], ◌∷◌}
use mathlib.Core.Bool.{Bool, true, false}
use Rattle.model.specs.Code.{Prog}
use Rattle.model.specs.Machine.{begin, outcome}
use Rattle.model.specs.Fences.{Spot, DoesIt}
use Rattle.model.specs.Guards.{guards, hits, On, on_first, on_more, Apart, Meets}
use Rattle.model.specs.Theorems.{MustHit, ByClauses, Learnt, MeetsAll}
use Rattle.model.proofs.Tools.{false_true}
use Rattle.model.proofs.RunsUnderGuards.{on_inv, on_guards, guards_on, still_a_run}
use Rattle.model.proofs.FencesAreGuards.{fences_are_guards, fences_at_once}

-- two lists of spots meet or are apart: look at each spot of the one
meets_or : (ss ts : List Spot) → Meets ss ts ⊎ Apart ss ts
meets_or [] ts = inr (λ a x y. on_inv x)
meets_or (s ∷ ss) ts = go (guards ts s.thread s.index) refl (meets_or ss ts)
  where
    go : (b : Bool) → guards ts s.thread s.index ≡ b → Meets ss ts ⊎ Apart ss ts → Meets (s ∷ ss) ts ⊎ Apart (s ∷ ss) ts
    go true e h = inl (s, on_first, guards_on s.thread s.index ts e)
    go false e (inl (a, x, y)) = inl (a, on_more x, y)
    go false e (inr f) = inr (λ a x y. elim (on_inv x) [ inl q ↦ false_true (sym e ∙ on_guards s ts (subst (λ (z : Spot). On z ts) q y)) | inr z ↦ f a z y ])

pub must_hit : MustHit
must_hit p ss ms works (s, e, d, bad) = elim (meets_or ss (hits p (begin p) ms)) [ inl m ↦ m | inr f ↦ absurd (bad ((fences_at_once ss p (outcome s)).0 (works.2 (outcome s) ((fences_are_guards ss p (outcome s)).1 (ms, s, (still_a_run ss p (begin p) s ms e).1 f, d, refl))))) ]

works_meets : (p : Prog) (cs : List (List Spot)) (ts : List Spot) → Learnt p cs → DoesIt p ts → MeetsAll ts cs
works_meets p cs ts learnt works k c e =
    let (ms, bad, sub) = learnt k c e in
    let (a, x, y) = must_hit p ts ms works bad in
    (a, x, sub a y)

pub by_clauses : ByClauses
by_clauses p cs ss learnt works fewest first =
    record { does_it = works; fewest = λ ts w. fewest ts (w.0, w.1) (works_meets p cs ts learnt w); first = λ ts w. first ts (w.0, w.1) (works_meets p cs ts learnt w) }
