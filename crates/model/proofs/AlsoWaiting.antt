-- What comes out at once comes out where stores wait: a step at once is one or two moves.
use mathlib.Core.Path.{◌≡◌, sym, ap, ◌∙◌}
use mathlib.Core.Logic.{inl, inr}
use mathlib.Core.List.{List, [], ◌∷◌}
use mathlib.Core.Option.{Option, some, none}
use Prim.Native.Nat.{ℕ}
use Rattle.model.specs.Code.{opt, Prog}
use Rattle.model.specs.Machine.{St, Move, next, out, move, moves, begin, at_once, all_at_once}
use Rattle.model.specs.Theorems.{AlsoWaiting}
use Rattle.model.proofs.Tools.{opt_some, opt_is, once_of, of_next, of_out, Once}

-- a step at once, and moves after it
step_moves : (p : Prog) (s t u : St) (n : ℕ) (ms : List Move) → Once p s n t → moves p t ms ≡ some u → (ns : List Move) × (moves p s ns ≡ some u)
step_moves p s t u n ms x e = elim x.then [ inl st ↦ (next n ∷ out n ∷ ms, one _ ∙ (opt_is (move p x.mid (out n)) none _ (of_out p x.mid n t st.1) ∙ e)) | inr st ↦ (next n ∷ ms, one _ ∙ (ap (λ (z : St). moves p z ms) (sym st.1) ∙ e)) ]
  where
    one : (f : St → Option St) → opt (move p s (next n)) none f ≡ f x.mid
    one f = opt_is (move p s (next n)) none f (of_next p s n x.mid x.first)

pub all_moves : (p : Prog) (s t : St) (ns : List ℕ) → all_at_once p s ns ≡ some t → (ms : List Move) × (moves p s ms ≡ some t)
all_moves p s t [] e = ([], e)
all_moves p s t (n ∷ ns) e =
    let (u, eu, e1) = opt_some (at_once p s n) _ e in
    let (ms, em) = all_moves p u t ns e1 in
    step_moves p s u t n ms (once_of p s n u eu) em

pub also_waiting : AlsoWaiting
also_waiting p o (ns, s, e, d, q) = let (ms, em) = all_moves p (begin p) s ns e in (ms, s, em, d, q)
