use Rattle.std.proofs.Common.{◌≡◌, ℕ, ◌-◌, length, take, ap, arith}
use Rattle.fences.proofs.LookLaws.{may_walk, never_long, learned}
use Rattle.fences.proofs.looks.Base.learn.Goals as goal

pub walk_back-requires : goal.walk_back-requires
walk_back-requires c =
    let p = c.args.self.now.p.now in
    let few = c.count-threads.ensures.few in
    let (cost, b) = c.requires.bad in
    record {
      few = omega arith;
      traced = may_walk p _ c.count-threads.ensures.value c.count-threads.ensures.few c.args.self.now.queue.now c.args.self.now.edges.now c.args.guards c.args.self.now.n c.requires.explored cost c.args.from.now c.args.bad c.requires.kept c.requires.in_from b;
    }

pub returns-in_default : goal.returns-in_default
returns-in_default c =
    absurd
    (never_long c.args.self.now.p.now _ c.count-threads.ensures.value c.count-threads.ensures.few c.args.self.now.queue.now c.args.self.now.edges.now c.args.guards c.args.self.now.n c.requires.explored c.args.bad c.args.path.now c.walk_back.new.path
    c.requires.room c.in_default.ensures)

pub returns : goal.returns
returns c =
    let k = c.walk_back.auto.path in
    let r = c.requires.room in
    let l : length c.walk_back.new.path ≡ 64 = omega arith in
    let e : c.in-Some.len - 0 ≡ c.in-Some.len = omega arith in
    learned c.args.self.now.p.now _ c.count-threads.ensures.value c.count-threads.ensures.few c.args.self.now.queue.now c.args.self.now.edges.now c.args.guards c.args.self.now.n c.requires.explored c.args.bad c.args.path.now c.walk_back.new.path
    (take (c.in-Some.len - 0) c.walk_back.new.path) c.in-Some.len c.run_hits.result l c.in-Some.ensures
    (ap (λ (k : ℕ). take k c.walk_back.new.path) e) c.run_hits.ensures
