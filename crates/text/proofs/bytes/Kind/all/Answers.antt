use Rattle.std.proofs.Common.{◌∙◌, rules}
use borrow.Author.Tests.{tests}
use Rattle.std.proofs.lemmas.Iterator.{YieldsList-from_slice}
use Rattle.std.proofs.lemmas.Iterator.Search.{all_from_yields_List}
use Rattle.text.specs.Kinds.{test}
use Rattle.text.proofs.Runs.{all_listed}
use Rattle.text.proofs.bytes.Kind.all.Goals as goal

pub returns : goal.returns
returns c =
    all_from_yields_List (test c.args.self) _ _ c.all.result c.all.ensures.ran (YieldsList-from_slice c.args.bytes.now cc) (λ x b q k. search (rules, tests))
    ∙ all_listed (test c.args.self) c.args.bytes.now
