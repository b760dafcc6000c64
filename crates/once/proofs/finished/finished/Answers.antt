use Rattle.std.proofs.Common.{length, sym, ap, ◌∙◌, arith}
use Rattle.std.proofs.lemmas.List.{length-map}
use Rattle.program.specs.Meaning.{thread, program}
use Rattle.once.proofs.Ended.{done_more, not_done, done_all, code_at}
use Rattle.once.proofs.finished.finished.Goals as goal

pub returns-then-not-ended : goal.returns-then-not-ended
returns-then-not-ended c =
    let p = c.args.p.now in
    let t = c.t-item.result in
    not_done (program p) c.args.state.now c.requires c.loop-n.n t (code_at p c.threads-t-items.result.now c.loop-n.n t c.threads-t-items.ensures c.loop-n-test.true c.t-item.is)
    (λ s a h e. sym (c.ended.ensures s a h e) ∙ c.if-not-ended.true)

pub loop-n-preserved : goal.loop-n-preserved
loop-n-preserved c =
    let p = c.args.p.now in
    let t = c.t-item.result in
    done_more (program p) c.args.state.now c.requires c.loop-n.n t (code_at p c.threads-t-items.result.now c.loop-n.n t c.threads-t-items.ensures c.loop-n-test.true c.t-item.is)
    (λ s a h e. sym (c.ended.ensures s a h e) ∙ c.if-not-ended.false) c.loop-n.invariant

pub returns : goal.returns
returns c =
    let p = c.args.p.now in
    let l = length-map p.threads.items thread in
    let e = ap length c.threads-t-items.ensures in
    done_all (program p) c.args.state.now c.loop-n.n (omega arith) c.loop-n.invariant
