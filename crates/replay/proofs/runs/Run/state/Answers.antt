use Rattle.std.proofs.Common.{ℕ, List, sym, subst}
use mathlib.Core.Logic.{∥∥₁_map}
use Rattle.machine.specs.Post.{Holds}
use Rattle.program.specs.Meaning.{program}
use Rattle.replay.specs.Post.{state}
use Rattle.replay.proofs.HeldState.{reached_holds}
use Rattle.replay.proofs.StateWords.{state_is}
use Rattle.replay.proofs.runs.Run.state.Goals as goal

pub invariant_of-result : goal.invariant_of-result
invariant_of-result c =
    let r = c.args.self.now in
    record { held = subst (λ (ws : List ℕ). ∥ Holds (program r.p) ws ∥₁) (sym (state_is r c.count.result c.count.ensures.value)) (∥∥₁_map r.reached (reached_holds (program r.p) (state r))) }

pub returns-clause-words : goal.returns-clause-words
returns-clause-words c = state_is c.args.self.now c.count.result c.count.ensures.value
