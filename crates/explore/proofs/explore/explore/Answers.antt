use Rattle.std.proofs.Common.{◌≡◌, ℕ, ◌+◌, ◌<◌, List, length, refl, sym, ap, ◌∙◌, subst, arith}
use Rattle.lent.specs.declared.shape.Shape.{Shape}
use Rattle.program.specs.Meaning.{program}
use Rattle.explore.specs.Found.{Explored}
use Rattle.explore.specs.Post.{Between}
use Rattle.explore.proofs.Turns.{turn, turned, explored}
use Rattle.explore.proofs.explore.explore.Goals as goal

pub states-init : goal.states-init
states-init c =
    let r = c.start-records.result in
    record {
      between = subst (λ (z : ℕ). Between (program c.args.p.now) r.shape c.args.limit r.queue.now r.table.now c.args.edges.now z 0) (sym c.start-records.ensures.one) (c.start-records.ensures.started c.args.edges.now);
      words = refl;
      queue = refl;
      table = refl;
    }

pub expand-requires-clause-going : goal.expand-requires-clause-going
expand-requires-clause-going c =
    let p = program c.args.p.now in
    let r = c.states.records in
    let r' = c.with_room-records.result in
    let made = c.with_room-records.ensures in
    let g = c.states.edges in
    let i = c.states.i in
    let same = made.n in
    let b = subst (λ (z : List ℕ). Between p r.shape c.args.limit z r.table.now g r'.n i) (sym made.states) (subst (λ (z : ℕ). Between p r.shape c.args.limit r.queue.now r.table.now g z i) (sym same) c.states.invariant.between) in
    let h : i < r'.n = omega arith in
    turn p r.shape r'.shape c.args.limit r'.queue.now r.table.now r'.table.now g r'.n i b h made.roomy.width made.roomy.probed

pub states-preserved : goal.states-preserved
states-preserved c =
    let p = program c.args.p.now in
    let r = c.expand.new.records in
    let made = c.with_room-records.ensures in
    let fits = made.roomy.fits in
    let done = c.expand.ensures in
    let places = done.places in
    record {
      between = subst (λ (s : Shape). Between p s c.args.limit r.queue.now r.table.now c.expand.new.edges r.n (c.states.i + 1)) (sym done.shape) (turned p c.with_room-records.result.shape c.args.limit r.queue.now r.table.now c.expand.new.edges r.n c.states.i c.in_ok-expand.ensures.expanded (omega arith));
      words = done.words ∙ ap length made.states ∙ c.states.invariant.words;
      queue = done.queue ∙ made.queue ∙ c.states.invariant.queue;
      table = done.table ∙ made.table ∙ c.states.invariant.table;
    }

pub returns : goal.returns
returns c =
    let p = program c.args.p.now in
    let r = c.states.records in
    let b = c.states.invariant.between in
    let done = b.done in
    let e : c.states.i ≡ r.n = omega arith in
    let all = explored p r.shape c.args.limit r.queue.now r.table.now c.states.edges r.n (subst (λ (z : ℕ). Between p r.shape c.args.limit r.queue.now r.table.now c.states.edges r.n z) e b) in
    let back = c.queue-2-1.given.1.1 (sym (c.states.invariant.queue ∙ c.start-records.ensures.queue)) in
    (subst (λ (z : List ℕ). Explored p z c.states.edges r.n) (sym back) all, b.few)
