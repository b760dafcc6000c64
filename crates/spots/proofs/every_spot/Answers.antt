use Rattle.std.proofs.Common.{List, map, take, ap, sym, ◌∙◌, arith}
use Rattle.std.proofs.lemmas.List.{take_all}
use Rattle.hitting.specs.Spots.{mask_of}
use Rattle.program.specs.declared.threads.Thread.{Thread}
use Rattle.program.specs.Meaning.{thread, program}
use Rattle.spots.specs.Masks.{rows}
use Rattle.spots.proofs.Every.{every_is}
use Rattle.spots.proofs.Adding.{rows_more, rows_small}
use Rattle.spots.proofs.every_spot.Goals as goal

pub overflow_add-bits : goal.overflow_add-bits
overflow_add-bits c =
    let ts = c.threads-t-items in
    omega (
      arith,
      rows_more ts.result.now c.loop-n.n c.t-item.result c.instructions.result.now c.loop-n-test.true c.t-item.is c.instructions.ensures.are,
      rows_small c.args.p.now ts.result.now c.loop-n.n ts.ensures c.loop-n-test.true,
    )

pub loop-n-preserved : goal.loop-n-preserved
loop-n-preserved c =
    omega (arith, rows_more c.threads-t-items.result.now c.loop-n.n c.t-item.result c.instructions.result.now c.loop-n-test.true c.t-item.is c.instructions.ensures.are)

pub returns : goal.returns
returns c =
    let ts = c.threads-t-items in
    c.loop-n.invariant
    ∙ ap (λ (us : List Thread). mask_of (rows 0 (map thread us))) (take_all c.loop-n.n ts.result.now c.loop-n-test.false ∙ ts.ensures)
    ∙ sym (every_is (program c.args.p.now))
