use Rattle.std.proofs.Common.{◌-◌, length, arith}
use Rattle.text.specs.Meaning.{token}
use Rattle.text.proofs.Headings.{no_cr_off, no_cr_on}
use Rattle.text.proofs.pages.without_cr.Goals as goal

pub returns-in-13 : goal.returns-in-13
returns-in-13 c = no_cr_off (token c.args.line) (length (token c.args.line) - 1) (omega arith) (omega arith)

pub returns-in_default-2 : goal.returns-in_default-2
returns-in_default-2 c = no_cr_on (token c.args.line) (length (token c.args.line) - 1) (omega arith) (λ h. omega arith)
