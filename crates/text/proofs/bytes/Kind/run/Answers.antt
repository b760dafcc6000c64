use Rattle.std.proofs.Common.{◌∙◌, arith, rules}
use borrow.Author.Tests.{tests}
use Rattle.std.proofs.lemmas.Iterator.{YieldsList-from_slice}
use Rattle.std.proofs.lemmas.Iterator.Consumers.{count_from_yields_List}
use Rattle.std.proofs.lemmas.Iterator.Search.{YieldsList-from_take_while}
use Rattle.text.specs.Kinds.{test}
use Rattle.text.proofs.Runs.{run_taken, run_le}
use Rattle.text.proofs.bytes.Kind.run.Goals as goal

pub returns : goal.returns
returns c =
    let f = test c.args.self in
    let bs = c.args.bytes.now in
    let e =
    count_from_yields_List _ c.count.result c.count.ensures.ran (YieldsList-from_take_while _ f (YieldsList-from_slice bs cc) c.take_while.ensures.closure c.take_while.ensures.done (λ x b q k. search (rules, tests)))
    ∙ run_taken f bs in
    record { value = e; within = omega (arith, run_le f bs) }
