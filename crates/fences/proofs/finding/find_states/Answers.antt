use Rattle.std.proofs.Common.{ℕ, ◌*◌, ◌≤◌, length, sym, ◌∙◌, subst, mul-le-mul_right, arith}
use Rattle.program.specs.Meaning.{program}
use Rattle.explore.specs.Found.{width, moves_of}
use Rattle.fences.proofs.FindingLaws.{handed_on, explored_ok, explored_err}
use Rattle.fences.proofs.finding.find_states.Goals as goal

pub explore-requires : goal.explore-requires
explore-requires c =
    let p = c.args.p.now in
    let limit = c.states_that_fit-limit.result in
    let f = c.states_that_fit-limit.ensures in
    let fits = f.fits in
    let l = sym c.count-threads.ensures.value in
    let k1 = c.split_at_mut-key.ensures.front_len in
    let k2 = c.split_at_mut-key.ensures.back_len in
    let q1 = c.split_at_mut-queue.ensures.front_len in
    let q2 = c.split_at_mut-queue.ensures.back_len in
    let e1 = c.split_at_mut-edges.ensures.front_len in
    let e2 = c.split_at_mut-edges.ensures.back_len in
    record {
      some = f.some_fit;
      told = f.told;
      key = omega arith;
      ends = subst (λ (z : ℕ). limit * width z ≤ length c.split_at_mut-queue.result.0.now) (sym l) (omega arith);
      edges_end = subst (λ (z : ℕ). limit * moves_of z ≤ length c.split_at_mut-edges.result.0.now) (sym l) (omega arith);
      small = omega arith;
      fits = omega arith;
    }

pub returns-in_err-n : goal.returns-in_err-n
returns-in_err-n c =
    let e = c.in_err-n.field-0.0 in
    rw (handed_on c.from_residual.result e c.from_residual.ensures.1)
    (explored_err (program c.args.p.now) c.states_that_fit-limit.result (length c.args.work.now) c.explore.new.queue c.explore.new.edges c.explore.result e c.explore.ensures c.states_that_fit-limit.ensures.most (sym c.ok_or.ensures.value ∙ c.in_err-n.was))

pub returns : goal.returns
returns c =
    let p = c.args.p.now in
    let limit = c.states_that_fit-limit.result in
    let f = c.states_that_fit-limit.ensures in
    let fits = f.fits in
    let l = sym c.count-threads.ensures.value in
    let n = c.in_ok-n.n in
    let found = explored_ok (program p) limit c.explore.new.queue c.explore.new.edges c.explore.result n c.explore.ensures (sym c.ok_or.ensures.value ∙ c.in_ok-n.was) in
    let few = found.1 in
    let k2 = c.split_at_mut-key.ensures.back_len in
    let q1 = c.split_at_mut-queue.ensures.front_len in
    let q2 = c.split_at_mut-queue.ensures.back_len in
    let e1 = c.split_at_mut-edges.ensures.front_len in
    let e2 = c.split_at_mut-edges.ensures.back_len in
    let kq = c.explore.auto.queue in
    let ke = c.explore.auto.edges in
    let kt = c.explore.auto.table in
    let a = mul-le-mul_right (width c.count-threads.result) few in
    let b = mul-le-mul_right (moves_of c.count-threads.result) few in
    record {
      explored = found.0;
      held = subst (λ (z : ℕ). n * width z ≤ length c.explore.new.queue) (sym l) (omega arith);
      kept = subst (λ (z : ℕ). n * moves_of z ≤ length c.explore.new.edges) (sym l) (omega arith);
      room = omega arith;
    }
