use Rattle.std.proofs.Common.{◌≡◌, ℕ, ◌+◌, ◌*◌, Bool, length, sym, ap, ◌∙◌, arith}
use Rattle.std.proofs.lemmas.Bool.{lt-ltb, le-ltb}
use Rattle.model.specs.Code.{pick}
use Rattle.fences.specs.Rows.{once_bit}
use Rattle.program.specs.Meaning.{program}
use Rattle.explore.specs.Found.{state}
use Rattle.fences.proofs.RowLaws.{record_within, record_long, record_packs, words_of, wrote_none, wrote_one, length_one, length_found}
use Rattle.fences.proofs.listing.write_row.Goals as goal
use Rattle.fences.proofs.listing.write_row.Goals.{then-cost-i-gt0, else-cost-i-gt0}

pub record-state-requires : goal.record-state-requires
record-state-requires c = record_within c.args.p.now _ c.count-threads.ensures.value c.args.queue.now c.args.n c.args.i c.requires.below c.requires.held

pub finished-requires : goal.finished-requires
finished-requires c = record_long c.args.p.now _ c.count-threads.ensures.value c.args.queue.now _ c.args.n c.args.i c.requires.below c.requires.held c.record-state.ensures

pub returns-then-not-finished : goal.returns-then-not-finished
returns-then-not-finished c =
    let p = c.args.p.now in
    let q = c.args.queue.now in
    let (g, ex) = c.requires.explored in
    let packs = record_packs p _ c.count-threads.ensures.value q g _ c.args.n c.args.i ex c.requires.below c.record-state.ensures in
    wrote_none (program p) q c.args.cost.now c.args.out.now c.args.i c.args.at (sym (c.if-not-finished.ensures (state (length (program p)) q c.args.i) packs))

pub write_outcome-requires : goal.write_outcome-requires
write_outcome-requires c =
    let p = c.args.p.now in
    let q = c.args.queue.now in
    let (g, ex) = c.requires.explored in
    let packs = record_packs p _ c.count-threads.ensures.value q g _ c.args.n c.args.i ex c.requires.below c.record-state.ensures in
    let d = sym (c.if-not-finished.ensures (state (length (program p)) q c.args.i) packs) in
    let l = length_one (program p) q c.args.cost.now c.args.i d in
    let m = length_found p _ c.count-threads.ensures.value q g c.args.n c.args.i ex c.requires.below in
    let r = c.requires.room in
    let w = words_of p _ c.count-threads.ensures.value in
    let z = record_long p _ c.count-threads.ensures.value q _ c.args.n c.args.i c.requires.below c.requires.held c.record-state.ensures in
    record { words = z ∙ sym w; room = omega arith }

pub returns : goal.returns
returns c =
    let p = c.args.p.now in
    let q = c.args.queue.now in
    let (g, ex) = c.requires.explored in
    let st = state (length (program p)) q c.args.i in
    let packs = record_packs p _ c.count-threads.ensures.value q g _ c.args.n c.args.i ex c.requires.below c.record-state.ensures in
    let d = sym (c.if-not-finished.ensures st packs) in
    let m = length_found p _ c.count-threads.ensures.value q g c.args.n c.args.i ex c.requires.below in
    let once : c.if-cost-i-gt0.once ≡ once_bit c.args.cost.now c.args.i =
    elim c.if-cost-i-gt0.branch [
      | then-cost-i-gt0 w ↦ w.once-is ∙ sym (ap (λ (b : Bool). pick {A = ℕ} b 1 0) (lt-ltb 0 _ w.if-cost-i-gt0.true))
      | else-cost-i-gt0 w ↦ w.once-is ∙ sym (ap (λ (b : Bool). pick {A = ℕ} b 1 0) (le-ltb 0 _ w.if-cost-i-gt0.false))
    ] in
    wrote_one (program p) q c.args.cost.now c.args.out.now c.write_outcome.new.out c.args.i c.args.at (c.args.at + (9 + 4 * c.count-threads.result)) c.if-cost-i-gt0.once d once (omega arith) (c.write_outcome.ensures.written st packs) c.write_outcome.ensures.behind
