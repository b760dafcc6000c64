-- A program is plain exactly if every finished state that runs come to is come to at once, since an outcome determines its
-- finished state; with fences the same of runs under the guards: fences are guards, and at once they change nothing.
use mathlib.Core.Path.{◌≡◌, refl, ap, ◌∙◌}
use mathlib.Core.List.{List}
use mathlib.Core.Option.{some}
use mathlib.Core.Bool.{true}
use Prim.Native.Nat.{ℕ}
use Rattle.model.specs.Code.{Prog}
use Rattle.model.specs.Machine.{St, Move, moves, begin, all_done, all_at_once, outcome}
use Rattle.model.specs.Fences.{Spot, with_fences}
use Rattle.model.specs.Guards.{guards, gmoves}
use Rattle.model.specs.Outcomes.{IsPlain}
use Rattle.model.specs.Theorems.{PlainByStates, ByStates}
use Rattle.model.proofs.AlsoWaiting.{all_moves}
use Rattle.model.proofs.RunsUnderGuards.{no_more_states}
use Rattle.model.proofs.OneEnd.{one_end}
use Rattle.model.proofs.FencesAreGuards.{fences_are_guards, fences_at_once}

states_of : (p : Prog) → IsPlain p → (ms : List Move) (s : St) → moves p (begin p) ms ≡ some s → all_done p s.threads ≡ true → (ns : List ℕ) × (all_at_once p (begin p) ns ≡ some s)
states_of p plain ms s e d =
    let (ns, t, en, dt, q) = plain (outcome s) (ms, s, e, d, refl) in
    let (ks, ek) = all_moves p (begin p) t ns en in
    let same : t ≡ s = one_end p ks ms t s ek e dt d q in
    (ns, en ∙ ap some same)

pub plain_by_states : PlainByStates
plain_by_states p = (states_of p, λ f o w. let (ms, s, e, d, q) = w in let (ns, en) = f ms s e d in (ns, s, en, d, q))

plain_states : (ss : List Spot) (p : Prog) → IsPlain (with_fences ss p) → (ms : List Move) (s : St) → gmoves (guards ss) p (begin p) ms ≡ some s → all_done p s.threads ≡ true → (ns : List ℕ) × (all_at_once p (begin p) ns ≡ some s)
plain_states ss p plain ms s e d =
    let (ns, t, en, dt, q) = (fences_at_once ss p (outcome s)).0 (plain (outcome s) ((fences_are_guards ss p (outcome s)).1 (ms, s, e, d, refl))) in
    let (ks, ek) = all_moves p (begin p) t ns en in
    let same : t ≡ s = one_end p ks ms t s ek (no_more_states (guards ss) p (begin p) s ms e) dt d q in
    (ns, en ∙ ap some same)

states_plain : (ss : List Spot) (p : Prog) → ((ms : List Move) (s : St) → gmoves (guards ss) p (begin p) ms ≡ some s → all_done p s.threads ≡ true → (ns : List ℕ) × (all_at_once p (begin p) ns ≡ some s)) → IsPlain (with_fences ss p)
states_plain ss p f o w =
    let (ms, s, e, d, q) = (fences_are_guards ss p o).0 w in
    let (ns, en) = f ms s e d in
    (fences_at_once ss p o).1 (ns, s, en, d, q)

pub by_states : ByStates
by_states ss p = (plain_states ss p, states_plain ss p)
