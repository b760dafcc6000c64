use Rattle.std.proofs.Common.{ℕ, List, length, replicate, sym, refl, ap, ◌∙◌, subst, arith}
use Rattle.program.specs.Meaning.{program}
use Rattle.machine.specs.Post.{Holds}
use Rattle.tests.proofs.Held.{holds_at_first}
use Rattle.tests.proofs.play.play.Goals as goal

pub loop-i-init : goal.loop-i-init
loop-i-init c =
    let k = c.requires.long in
    let s = c.requires.same in
    let l = c.fill.ensures.len in
    let e = c.fill.ensures.after (λ y e. e) in
    (holds_at_first c.args.p.now c.fill.new.self (e ∙ ap (λ n. replicate n 0) k), omega arith, omega arith)

pub loop-i-preserved : goal.loop-i-preserved
loop-i-preserved c =
    let i = c.loop-i.invariant in
    let l = c.copy_from_slice.ensures.len in
    let e = c.copy_from_slice.ensures.after in
    let n = ap length e in
    (subst (λ (ws : List ℕ). Holds (program c.args.p.now) ws) (sym e) (c.if-not-make.ensures refl), l ∙ i.1, sym n ∙ l ∙ i.1)
