use Rattle.std.proofs.Common.{◌≡◌, ℕ, ◌+◌, ◌*◌, true, false, List, length, set, Some, sym, ap, ◌∙◌, subst}
use Rattle.program.specs.Meaning.{program}
use Rattle.machine.specs.Post.{Holds, Stepped}
use Rattle.model.specs.Machine.{move}
use Rattle.explore.specs.Found.{moves_of, move_of}
use Rattle.explore.specs.Post.{Visited}
use Rattle.explore.proofs.Edges.{holds, no_edge, no_room, an_edge, record_state, record_length}
use Rattle.explore.proofs.MoveNumbers.{stepped_number}
use Rattle.explore.proofs.visit.visit.Goals as goal

pub invariant_of-state : goal.invariant_of-state
invariant_of-state c =
    let r = c.args.records.now in
    let p = program c.args.p.now in
    let go = c.requires.going in
    let e = record_state p r.shape c.args.limit r.queue.now r.table.now c.args.edges.now r.n c.args.i c.args.m _ go c.record.ensures in
    record { held = ∣ subst (Holds p) (sym e) (holds p r.queue.now r.n c.args.i go.found go.here) ∣₁ }

pub make-requires : goal.make-requires
make-requires c =
    let r = c.args.records.now in
    c.requires.key ∙ sym (record_length (program c.args.p.now) r.shape c.args.limit r.queue.now r.table.now c.args.edges.now r.n c.args.i c.args.m _ c.requires.going c.record.ensures c.requires.ends)

pub returns-then-not-make-clause-visited : goal.returns-then-not-make-clause-visited
returns-then-not-make-clause-visited c =
    let r = c.args.records.now in
    let p = program c.args.p.now in
    let go = c.requires.going in
    let e = record_state p r.shape c.args.limit r.queue.now r.table.now c.args.edges.now r.n c.args.i c.args.m _ go c.record.ensures in
    let at : c.args.i * (2 * c.count-threads.result) + c.args.m ≡ c.args.i * moves_of (length p) + c.args.m = ap (λ (z : ℕ). c.args.i * (2 * z) + c.args.m) c.count-threads.ensures.value in
    let st = subst (λ (ws : List ℕ). Stepped (λ s. move p s (move_of (length p) c.args.m)) ws false c.make.new.to) e (stepped_number p c.count-threads.result c.args.m _ c.record.result.now false c.make.new.to c.numbered.ensures c.count-threads.ensures.value c.if-not-make.ensures) in
    subst (λ (z : ℕ). Visited p r.shape c.args.limit r.n c.args.i c.args.m r.queue.now r.table.now (set c.args.edges.now z 0) r.n (Some tt)) (sym at)
    (no_edge p r.shape c.args.limit r.queue.now r.table.now c.args.edges.now r.n c.args.i c.args.m go c.requires.below c.requires.word c.make.new.to st)

pub returns-in_err-j-clause-visited : goal.returns-in_err-j-clause-visited
returns-in_err-j-clause-visited c =
    let r = c.args.records.now in
    let p = program c.args.p.now in
    let go = c.requires.going in
    let e = record_state p r.shape c.args.limit r.queue.now r.table.now c.args.edges.now r.n c.args.i c.args.m _ go c.record.ensures in
    let st = subst (λ (ws : List ℕ). Stepped (λ s. move p s (move_of (length p) c.args.m)) ws true c.make.new.to) e (stepped_number p c.count-threads.result c.args.m _ c.record.result.now true c.make.new.to c.numbered.ensures c.count-threads.ensures.value c.if-not-make.ensures) in
    rw c.from_residual.ensures (no_room p r.shape c.args.limit r.queue.now r.table.now c.args.edges.now r.n c.args.i c.args.m go c.requires.below c.requires.word c.make.new.to st c.in_err-j.ensures.entered.0, c.in_err-j.ensures.entered.1)

pub returns-clause-visited : goal.returns-clause-visited
returns-clause-visited c =
    let r = c.args.records.now in
    let r' = c.enter.new.records in
    let p = program c.args.p.now in
    let go = c.requires.going in
    let e = record_state p r.shape c.args.limit r.queue.now r.table.now c.args.edges.now r.n c.args.i c.args.m _ go c.record.ensures in
    let at : c.args.i * (2 * c.count-threads.result) + c.args.m ≡ c.args.i * moves_of (length p) + c.args.m = ap (λ (z : ℕ). c.args.i * (2 * z) + c.args.m) c.count-threads.ensures.value in
    let st = subst (λ (ws : List ℕ). Stepped (λ s. move p s (move_of (length p) c.args.m)) ws true c.make.new.to) e (stepped_number p c.count-threads.result c.args.m _ c.record.result.now true c.make.new.to c.numbered.ensures c.count-threads.ensures.value c.if-not-make.ensures) in
    subst (λ (z : ℕ). Visited p r.shape c.args.limit r.n c.args.i c.args.m r'.queue.now r'.table.now (set c.args.edges.now z (c.in_ok-j.j + 1)) r'.n (Some tt)) (sym at)
    (an_edge p r.shape c.args.limit r.queue.now r.table.now c.args.edges.now r.n c.args.i c.args.m go c.requires.below c.requires.word c.make.new.to r'.queue.now r'.table.now c.in_ok-j.j r'.n st c.in_ok-j.ensures.entered)
