use Rattle.std.proofs.Common.{◌+◌, ◌*◌, true, false, length, ap, ◌∙◌}
use mathlib.Core.Logic.{∥∥₁_map}
use borrow.Rule.Slice.PartMut.{same_len_mid}
use Rattle.program.specs.Meaning.{program}
use Rattle.replay.specs.Post.{state}
use Rattle.replay.proofs.RunLaws.{told_step, made_true, made_false, reached_more}
use Rattle.replay.proofs.StateWords.{part_is, part_long}
use Rattle.replay.proofs.runs.Run.make.Goals as goal

pub returns-then-not-make-clause-made : goal.returns-then-not-make-clause-made
returns-then-not-make-clause-made c =
    let r = c.args.self.now in
    let p = program r.p in
    made_false p c.args.word (state r) c.make.new.to
    (told_step p _ c.args.word _ (state r) _ false c.make.new.to (ap program c.state.ensures.program) c.state.ensures.words c.numbered.ensures c.if-not-make.ensures)

pub invariant_of-self : goal.invariant_of-self
invariant_of-self c =
    let r = c.args.self.now in
    let p = program r.p in
    let t = c.count.result in
    let l = c.make.auto.to ∙ ap length (part_is (1 + 3 * t) r.words) ∙ part_long t r.words r.long c.count.ensures.few in
    let m =
    made_true p c.args.word (state r) r.words c.make.new.to (1 + 3 * length p) (1 + 3 * t) (ap (λ k. 1 + 3 * k) c.count.ensures.value) l
    (told_step p _ c.args.word _ (state r) _ true c.make.new.to (ap program c.state.ensures.program) c.state.ensures.words c.numbered.ensures c.if-not-make.ensures) in
    record { long = same_len_mid 0 _ r.words c.make.new.to c.make.auto.to ∙ r.long; reached = ∥∥₁_map r.reached (reached_more p c.args.word _ _ m) }

pub returns-clause-made : goal.returns-clause-made
returns-clause-made c =
    let r = c.args.self.now in
    let p = program r.p in
    let t = c.count.result in
    let l = c.make.auto.to ∙ ap length (part_is (1 + 3 * t) r.words) ∙ part_long t r.words r.long c.count.ensures.few in
    made_true p c.args.word (state r) r.words c.make.new.to (1 + 3 * length p) (1 + 3 * t) (ap (λ k. 1 + 3 * k) c.count.ensures.value) l
    (told_step p _ c.args.word _ (state r) _ true c.make.new.to (ap program c.state.ensures.program) c.state.ensures.words c.numbered.ensures c.if-not-make.ensures)
