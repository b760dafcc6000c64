use Rattle.std.proofs.Common.{length, sym, ◌∙◌, arith}
use Rattle.model.proofs.Tools.{false_true}
use Rattle.program.specs.Meaning.{program}
use Rattle.explore.specs.Found.{state}
use Rattle.fences.proofs.RowLaws.{record_within, record_long, record_packs}
use Rattle.fences.proofs.LookLaws.{chosen_skip}
use Rattle.fences.proofs.looks.Base.choose.Goals as goal

pub record-requires : goal.record-requires
record-requires c = record_within c.args.self.now.p.now _ c.count.ensures.value c.args.self.now.queue.now c.args.self.now.n c.args.i c.requires.below c.requires.held

pub finished-requires : goal.finished-requires
finished-requires c = record_long c.args.self.now.p.now _ c.count.ensures.value c.args.self.now.queue.now _ c.args.self.now.n c.args.i c.requires.below c.requires.held c.record.ensures

pub returns-then-not-finished : goal.returns-then-not-finished
returns-then-not-finished c =
    let p = c.args.self.now.p.now in
    let q = c.args.self.now.queue.now in
    let (g, ex) = c.requires.explored in
    let packs = record_packs p _ c.count.ensures.value q g _ c.args.self.now.n c.args.i ex c.requires.below c.record.ensures in
    let d = c.if-not-finished.ensures (state (length (program p)) q c.args.i) packs in
    chosen_skip (program p) q c.args.self.now.once.now c.args.cost.now c.args.i c.args.best c.requires.best (λ e m. absurd (false_true (d ∙ e)))

pub returns : goal.returns
returns c =
    let p = c.args.self.now.p.now in
    let q = c.args.self.now.queue.now in
    let (g, ex) = c.requires.explored in
    let packs = record_packs p _ c.count.ensures.value q g _ c.args.self.now.n c.args.i ex c.requires.below c.record.ensures in
    let d = c.if-not-finished.ensures (state (length (program p)) q c.args.i) packs in
    (omega arith, sym d, omega arith, λ m. omega arith)
