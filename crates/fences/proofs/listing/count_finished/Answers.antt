use Rattle.std.proofs.Common.{length, sym, arith}
use Rattle.program.specs.Meaning.{program}
use Rattle.explore.specs.Found.{state}
use Rattle.fences.specs.Rows.{rows_from}
use Rattle.fences.proofs.RowLaws.{record_within, record_long, record_packs, count_more, count_same}
use Rattle.fences.proofs.listing.count_finished.Goals as goal
use Rattle.fences.proofs.listing.count_finished.Goals.{then-finished, else-finished}

pub record-requires : goal.record-requires
record-requires c = record_within c.args.p.now _ c.count.ensures.value c.args.queue.now c.args.n c.loop-i.i c.loop-i-test.true c.requires.held

pub finished-requires : goal.finished-requires
finished-requires c = record_long c.args.p.now _ c.count.ensures.value c.args.queue.now _ c.args.n c.loop-i.i c.loop-i-test.true c.requires.held c.record.ensures

pub loop-i-preserved : goal.loop-i-preserved
loop-i-preserved c =
    let p = c.args.p.now in
    let q = c.args.queue.now in
    let i = c.loop-i.i in
    let (g, ex) = c.requires.explored in
    let b = c.loop-i.invariant.0 in
    let packs = record_packs p _ c.count.ensures.value q g _ c.args.n i ex c.loop-i-test.true c.record.ensures in
    let st = state (length (program p)) q i in
    elim c.if-finished.branch [
      | then-finished w ↦
          let e = w.count-is in (
            omega arith,
            λ cost.
                let m = count_more (program p) q cost i c.args.n c.loop-i.count (length (rows_from (program p) q cost 0 c.args.n)) c.loop-i-test.true (sym (w.if-finished.ensures st packs)) (c.loop-i.invariant.1 cost) in
                omega arith,
          )
      | else-finished w ↦
          let e = w.count-is in (
            omega arith,
            λ cost.
                let m = count_same (program p) q cost i c.args.n c.loop-i.count (length (rows_from (program p) q cost 0 c.args.n)) c.loop-i-test.true (sym (w.if-finished.ensures st packs)) (c.loop-i.invariant.1 cost) in
                omega arith,
          )
    ]
