use Rattle.std.proofs.Common.{◌+◌, ◌≤◌, mul-le-mul_right, arith}
use Rattle.explore.proofs.enter.enter.Goals as goal

pub insert-requires : goal.insert-requires
insert-requires c =
    let more : c.args.records.now.n + 1 ≤ c.args.limit = omega arith in
    let w = mul-le-mul_right c.args.records.now.shape.width more in
    let e = c.requires.ends in
    record { probed = c.requires.probed; room = c.requires.room; told = (let t = c.requires.told in omega arith); ends = omega arith; whole = c.requires.whole; free = (let (inside, free) = c.in-Err.ensures in free) }
