use Rattle.std.proofs.Common.{arith}
use Rattle.hitting.proofs.Steps.{all_missed, passed}
use Rattle.hitting.proofs.candidates.next_without.Goals as goal

pub returns-then-kept-eq0 : goal.returns-then-kept-eq0
returns-then-kept-eq0 c = all_missed c.args.x c.args.mark (omega arith) c.requires.missed c.if-kept-eq0.true c.args.among

pub returns : goal.returns
returns c = passed c.args.x c.args.mark (omega arith) c.requires.missed c.args.among c.requires.within c.if-kept-eq0.false
