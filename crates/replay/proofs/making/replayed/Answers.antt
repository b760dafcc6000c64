use Rattle.std.proofs.Common.{◌≡◌, ℕ, ◌+◌, true, false, List, ap, ◌∙◌, subst}
use mathlib.Core.Option.{none}
use Rattle.std.proofs.lemmas.List.{take_all}
use Rattle.model.specs.Code.{Prog}
use Rattle.model.specs.Machine.{moves, begin}
use Rattle.program.specs.Meaning.{program}
use Rattle.replay.specs.Runs.{told, Comes}
use Rattle.replay.specs.Post.{state}
use Rattle.replay.proofs.RunLaws.{told_none, went_on}
use Rattle.replay.proofs.making.replayed.Goals as goal

pub returns-then-not-make : goal.returns-then-not-make
returns-then-not-make c =
    let p = program c.begin-run.result.p in
    let ws = c.args.words.now in
    let i = c.loop-word.word-index in
    let inv = c.loop-word.invariant in
    let stuck = went_on p _ ws _ _ i false (ap program inv.0) c.loop-word-test.true c.if-not-make.ensures.made inv.1 in
    subst (λ (z : Prog). moves z (begin z) (told ws) ≡ none) (ap program c.begin-run.ensures.program) (told_none p (i + 1) ws stuck)

pub loop-word-preserved : goal.loop-word-preserved
loop-word-preserved c =
    let inv = c.loop-word.invariant in (
      c.make.ensures.program ∙ inv.0,
      went_on _ _ c.args.words.now _ _ c.loop-word.word-index true (ap program inv.0) c.loop-word-test.true c.if-not-make.ensures.made inv.1,
    )

pub returns : goal.returns
returns c =
    let p = program c.begin-run.result.p in
    let ws = c.args.words.now in
    let inv = c.loop-word.invariant in
    let e = ap program c.begin-run.ensures.program in
    let all = subst (λ (l : List ℕ). Comes p (told l) (state c.loop-word.run)) (take_all c.loop-word.word-index ws c.loop-word-test.false) inv.1 in
    (ap program inv.0 ∙ e, subst (λ (z : Prog). Comes z (told ws) (state c.loop-word.run)) e all)
