use Rattle.std.proofs.Common.{ℕ, ◌*◌, ◌≤◌, map, length, take, sym, refl, ap, arith}
use Rattle.program.specs.Meaning.{program}
use Rattle.explore.specs.Found.{move_of}
use Rattle.spots.specs.Masks.{spots}
use Rattle.fences.specs.Told.{text_ss}
use Rattle.fences.proofs.Answered.{cut_below, cut_length, run_length, all_written, rest_kept}
use Rattle.fences.proofs.SearchLaws.{plain, shows}
use Rattle.fences.proofs.looking.look_found.Goals as goal

pub returns-in_default : goal.returns-in_default
returns-in_default c = (plain (program c.args.p.now) c.in_default.ensures, refl)

pub learn-moves-requires-clause-bad : goal.learn-moves-requires-clause-bad
learn-moves-requires-clause-bad c = (c.look_at.new.cost, c.in-Some.ensures)

pub returns-then-out-lt256 : goal.returns-then-out-lt256
returns-then-out-lt256 c =
    let p = program c.args.p.now in
    let b = c.in-Some.ensures in
    let l = c.learn-moves.ensures in
    let ms = map (move_of (length p)) (take c.learn-moves.result.0 c.learn-moves.new.path) in
    (ms, shows p c.args.found.queue.now c.in-Some.bad ms b.done b.apart l.run, c.if-out-lt256.true, refl)

pub write_moves-requires : goal.write_moves-requires
write_moves-requires c =
    let p = c.args.p.now in
    let l = c.learn-moves.ensures in
    let k = c.learn-moves.auto.path in
    let m = c.learn-moves.result.0 in
    let few = l.few in
    let n = cut_length m c.learn-moves.new.path (omega arith) in
    let e = sym c.count.ensures.value in
    let o = c.if-out-lt256.false in
    record {
      few = c.count.ensures.few;
      below = cut_below _ _ m c.learn-moves.new.path (ap (λ (z : ℕ). 2 * z) e) l.numbers;
      room = omega arith;
    }

pub returns : goal.returns
returns c =
    let p = c.args.p.now in
    let pr = program p in
    let b = c.in-Some.ensures in
    let l = c.learn-moves.ensures in
    let kp = c.learn-moves.auto.path in
    let m = c.learn-moves.result.0 in
    let path = c.learn-moves.new.path in
    let h : m ≤ length path = let few = l.few in omega arith in
    let ms = map (move_of (length pr)) (take m path) in
    let f = c.write_fences-count.ensures in (
      ms,
      spots c.fewest-fences.result,
      shows pr c.args.found.queue.now c.in-Some.bad ms b.done b.apart l.run,
      c.fewest-fences.ensures,
      run_length (length pr) m path h,
      f.count,
      all_written c.count.result (length pr) m c.write_fences-count.result path c.args.out.now c.write_moves.new.out c.write_fences-count.new.out (text_ss (spots c.fewest-fences.result)) c.count.ensures.value h c.write_moves.ensures.written f.written,
      rest_kept m c.write_fences-count.result path c.args.out.now c.write_moves.new.out c.write_fences-count.new.out h c.write_moves.ensures.behind f.behind,
    )
