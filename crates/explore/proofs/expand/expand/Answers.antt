use Rattle.std.proofs.Common.{◌≡◌, ℕ, ◌*◌, ◌≤◌, length, sym, ap, subst, arith}
use Rattle.lent.specs.declared.shape.Shape.{Shape}
use Rattle.program.specs.Meaning.{program}
use Rattle.program.proofs.WriteWords.{length_program}
use Rattle.explore.specs.Found.{moves_of}
use Rattle.explore.specs.Post.{Going}
use Rattle.explore.proofs.expand.expand.Goals as goal

pub visit-requires : goal.visit-requires
visit-requires c =
    let l = length_program c.args.p.now in
    let few = c.args.p.now.few in
    let now = c.loop-m.invariant in
    let same = now.shape in
    let wide : c.loop-m.records.shape.width ≡ c.args.records.now.shape.width = ap (λ (s : Shape). s.width) same in
    let roomy : c.loop-m.records.shape.room ≡ c.args.records.now.shape.room = ap (λ (s : Shape). s.room) same in
    let r = c.requires.room in
    let n = now.few in
    let w = now.words in
    let e = c.requires.edges_end in
    let q = c.requires.ends in
    let k = c.requires.key in
    let ke = c.loop-m.auto.edges in
    let kk = c.loop-m.auto.key in
    record {
      going = now.going;
      key = omega arith;
      room = omega arith;
      told = c.requires.told;
      word = omega arith;
      ends = subst (λ (z : ℕ). c.args.limit * z ≤ length c.loop-m.records.queue.now) (sym wide) (omega arith);
      below = omega arith;
    }

pub returns-clause-expanded : goal.returns-clause-expanded
returns-clause-expanded c =
    let p = program c.args.p.now in
    let l = length_program c.args.p.now in
    let r = c.loop-m.records in
    let m : c.loop-m.m ≡ moves_of (length p) = omega arith in
    subst (λ (s : Shape). Going p s c.args.limit r.queue.now r.table.now c.loop-m.edges r.n c.args.i (moves_of (length p))) c.loop-m.invariant.shape
    (subst (λ (z : ℕ). Going p r.shape c.args.limit r.queue.now r.table.now c.loop-m.edges r.n c.args.i z) m c.loop-m.invariant.going)
