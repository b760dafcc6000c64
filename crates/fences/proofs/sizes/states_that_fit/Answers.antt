use Rattle.fences.proofs.Sharing.{shares_all, shares_most}
use Rattle.fences.proofs.sizes.states_that_fit.Goals as goal

pub returns-then-fit-lt4294967295 : goal.returns-then-fit-lt4294967295
returns-then-fit-lt4294967295 c = shares_all c.args.threads c.args.words c.requires.few c.requires.lent c.if-fit-lt4294967295.true

pub returns-else-fit-lt4294967295 : goal.returns-else-fit-lt4294967295
returns-else-fit-lt4294967295 c = shares_most c.args.threads c.args.words c.requires.few c.requires.lent c.if-fit-lt4294967295.false
