use Rattle.std.proofs.Common.{map, length, take}
use Rattle.program.specs.Meaning.{program}
use Rattle.explore.specs.Found.{move_of}
use Rattle.fences.proofs.SearchLaws.{shows}
use Rattle.fences.proofs.looks.Base.try_list.Goals as goal

pub returns : goal.returns
returns c =
    let p = program c.args.self.now.p.now in
    let b = c.in_ok-bad.ensures in
    let l = c.learn-len.ensures in
    let ms = map (move_of (length p)) (take c.learn-len.result.0 c.learn-len.new.path) in
    (ms, shows p c.args.self.now.queue.now c.in_ok-bad.bad ms b.done b.apart l.run, l.clause, l.new)
