use Rattle.std.proofs.Common.{string_bytes, ap, ◌∙◌, rules}
use borrow.Author.Tests.{tests}
use Rattle.std.proofs.lemmas.Iterator.{YieldsList-from_slice}
use Rattle.std.proofs.lemmas.Iterator.Search.{position_from_yields_List}
use Rattle.text.specs.Bytes.{same}
use Rattle.text.specs.Meaning.{token, option}
use Rattle.text.proofs.Lookup.{index_found}
use Rattle.text.proofs.naming.index_of.Goals as goal

pub returns-clause-value : goal.returns-clause-value
returns-clause-value c =
    ap option (position_from_yields_List (λ s. same (token c.args.word) (string_bytes s)) _ _ c.position.result c.position.ensures.ran (YieldsList-from_slice c.args.all.now cc) (λ x b q k. search (rules, tests)))
    ∙ index_found (token c.args.word) c.args.all.now
