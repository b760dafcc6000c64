use Rattle.std.proofs.Common.{vec_items, string_bytes, ◌∙◌, rules}
use borrow.Author.Tests.{tests}
use Rattle.std.proofs.lemmas.Iterator.{YieldsList-from_slice}
use Rattle.std.proofs.lemmas.Iterator.Search.{any_from_yields_List}
use Rattle.text.specs.Bytes.{same}
use Rattle.text.specs.Meaning.{token}
use Rattle.text.proofs.Lookup.{has_listed}
use Rattle.text.proofs.pages.Page.has.Goals as goal

pub returns : goal.returns
returns c =
    any_from_yields_List (λ t. same (token c.args.name) (string_bytes t.name)) _ _ c.any.result c.any.ensures.ran (YieldsList-from_slice (vec_items c.args.self.now.threads) cc) (λ x b q k. search (rules, tests))
    ∙ has_listed (token c.args.name) (vec_items c.args.self.now.threads)
