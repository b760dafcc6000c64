use Rattle.std.proofs.Common.{max, length, vec_items, arith, rules}
use Rattle.std.proofs.lemmas.Iterator.{YieldsList-from_slice}
use Rattle.std.proofs.lemmas.Iterator.Consumers.{fold_from_yields_List}
use Rattle.text.specs.declared.source.Thread.{Thread}
use Rattle.text.proofs.Printed.{tallest}
use Rattle.text.proofs.printing.height_of.Goals as goal

pub returns : goal.returns
returns c =
    let most =
    fold_from_yields_List _ (λ most (t : Thread). max (length (vec_items t.code)) most) 0 c.fold.result c.fold.ensures.ran (YieldsList-from_slice c.args.threads.now cc) (λ a x b q k. search rules) in
    let height = tallest 0 c.args.threads.now in
    omega arith
