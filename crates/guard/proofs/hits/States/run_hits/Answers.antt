use Rattle.std.proofs.Common.{arith}
use Rattle.guard.proofs.Along.{goes_on, goes_all, no_words, no_edge}
use Rattle.guard.proofs.hits.States.run_hits.Goals as goal

pub returns-then-node-width : goal.returns-then-node-width
returns-then-node-width c =
    let s = c.args.self.now in
    let l = c.loop-by in
    no_words s.threads s.queue.now s.edges.now c.args.path.now l.node l.by-index l.passed l.passed (omega arith) (omega arith) l.invariant.1

pub returns-in_default : goal.returns-in_default
returns-in_default c =
    let s = c.args.self.now in
    let l = c.loop-by in
    no_edge s.threads s.queue.now s.edges.now c.args.path.now l.node l.by-index l.passed l.passed (omega arith) c.in_default.ensures l.invariant.1

pub loop-by-preserved : goal.loop-by-preserved
loop-by-preserved c =
    let s = c.args.self.now in
    let l = c.loop-by in (
      omega arith,
      goes_on s.threads s.queue.now s.edges.now c.args.path.now l.node l.by-index l.passed c.hit-passed.result c.in-Some.target
          (omega arith) c.in-Some.ensures c.hit-passed.ensures l.invariant.1,
    )

pub returns : goal.returns
returns c =
    let s = c.args.self.now in
    let l = c.loop-by in
    goes_all s.threads s.queue.now s.edges.now c.args.path.now l.node l.by-index l.passed (omega arith) l.invariant.1
