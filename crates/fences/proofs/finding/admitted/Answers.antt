use Rattle.fences.proofs.FindingLaws.{admitted_is}
use Rattle.fences.proofs.finding.admitted.Goals as goal

pub returns : goal.returns
returns c = rw c.ok_or.ensures.value (admitted_is c.args.words.now c.args.most c.args.lent c.from_words.result c.from_words.ensures c.if-lent-most.false)
