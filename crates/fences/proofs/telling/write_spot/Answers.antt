use Rattle.fences.proofs.TellLaws.{wrote_no_spot, wrote_spot}
use Rattle.fences.proofs.telling.write_spot.Goals as goal

pub returns-then-fences-s-eq0 : goal.returns-then-fences-s-eq0
returns-then-fences-s-eq0 c = wrote_no_spot c.args.fences c.args.s c.args.out.now c.args.at c.if-fences-s-eq0.true

pub returns : goal.returns
returns c = wrote_spot c.args.fences c.args.s c.args.out.now c.args.at c.requires.room c.if-fences-s-eq0.false
