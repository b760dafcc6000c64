-- Words hold one state at most, and in one way, so that a state that is known to be there can be had.
use Rattle.std.proofs.Common.{◌≡◌, ℕ, List, [], ◌∷◌, length, refl}
use mathlib.Core.HLevel.{×_prop, is_prop→PathP, hedberg}
use mathlib.Core.Logic.{∥∥₁_elim}
use mathlib.Core.List.{is_set}
use native.Mathlib.Bridge.{le_prop}
use native.Mathlib.Decide.{ℕ_discrete}
use Rattle.lent.specs.Nibbles.{AllBelow}
use Rattle.model.specs.Code.{Prog}
use Rattle.model.specs.Machine.{At, St}
use Rattle.machine.specs.Packed.{pack, WithinAt, WithinTs, Within, Packs}
use Rattle.machine.specs.Post.{Holds}
use Rattle.machine.proofs.Unpacking.{pack_one}

below_prop : (n : ℕ) (xs : List ℕ) → IsProp (AllBelow n xs)
below_prop n [] = λ a b. refl
below_prop n (x ∷ xs) = ×_prop le_prop (below_prop n xs)

within_at_prop : (t : At) → IsProp (WithinAt t)
within_at_prop t a b =
    λ i. record {
      four = hedberg ℕ_discrete _ _ a.four b.four i;
      regs = below_prop _ _ a.regs b.regs i;
      few = le_prop a.few b.few i;
      held = le_prop a.held b.held i;
      values = below_prop _ _ a.values b.values i;
      places = below_prop _ _ a.places b.places i;
    }

within_ts_prop : (ts : List At) → IsProp (WithinTs ts)
within_ts_prop [] = λ a b. refl
within_ts_prop (t ∷ ts) = ×_prop (within_at_prop t) (within_ts_prop ts)

within_prop : (s : St) → IsProp (Within s)
within_prop s a b =
    λ i. record {
      eight = hedberg ℕ_discrete _ _ a.eight b.eight i;
      mem = below_prop _ _ a.mem b.mem i;
      each = within_ts_prop s.threads a.each b.each i;
    }

packs_prop : (ws : List ℕ) (s : St) → IsProp (Packs ws s)
packs_prop ws s = ×_prop (within_prop s) (is_set (hedberg ℕ_discrete) (pack s) ws)

pub holds_prop : (p : Prog) (ws : List ℕ) → IsProp (Holds p ws)
holds_prop p ws a b =
    let e = pack_one ws a.0 b.0 a.1 b.1 in
    let n = length p in
    λ i. (
      e i,
      is_prop→PathP (λ j. Packs ws (e j)) (λ j. packs_prop ws (e j)) a.1 b.1 i,
      is_prop→PathP (λ j. length (e j).threads ≡ n) (λ j. hedberg ℕ_discrete (length (e j).threads) n) a.2 b.2 i,
    )

pub held : (p : Prog) (ws : List ℕ) → ∥ Holds p ws ∥₁ → Holds p ws
held p ws h = ∥∥₁_elim h (holds_prop p ws) (λ x. x)
