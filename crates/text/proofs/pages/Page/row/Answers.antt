use Rattle.std.proofs.Common.{vec_items, ap, ◌∙◌, arith}
use mathlib.Core.Option.{none}
use Rattle.std.proofs.lemmas.List.{length-map}
use Rattle.text.specs.Grammar.{row}
use Rattle.text.specs.Meaning.{token, page, column}
use Rattle.text.proofs.Filling.{cell_past}
use Rattle.text.proofs.Picks.{opt_none}
use Rattle.text.proofs.pages.Page.row.Goals as goal

pub returns-then-k-len : goal.returns-then-k-len
returns-then-k-len c _ =
    let k = c.loop-k.k-iterator.count in
    let s = page c.loop-k.self in
    let threads = c.loop-k.self.threads in
    let fits = threads.ok.0 in
    let long = length-map (vec_items threads) column in
    c.loop-k.invariant.2 ∙ ap (row k s) c.in-Some.ensures.steps.0 ∙ opt_none none _ (cell_past k s (token c.in-Some.cell) (omega (arith, c.in-Some.ensures.steps.1)))
