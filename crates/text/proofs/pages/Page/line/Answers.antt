use Rattle.std.proofs.Common.{◌≡◌, ℕ, true, List, take, sym, ap, ◌∙◌, arith}
use Rattle.text.specs.Bytes.{plain, all, before, no_cr}
use Rattle.text.specs.Grammar.{content, line}
use Rattle.text.specs.Meaning.{token, page}
use Rattle.text.proofs.Headings.{all_of, not_all_of}
use Rattle.text.proofs.Picks.{pick_true, pick_false}
use Rattle.text.proofs.pages.Page.line.Goals as goal

pub returns-then-plain-line : goal.returns-then-plain-line
returns-then-plain-line c _ =
    let text = token c.without_cr-line.result in
    pick_false _ _ (ap (all plain) (sym c.without_cr-line.ensures) ∙ not_all_of plain text c.run-plain.result c.run-plain.ensures.value (omega arith))

pub returns : goal.returns
returns c =
    let text = token c.without_cr-line.result in
    let is = c.without_cr-line.ensures in
    let s = page c.args.self.now in
    let all_plain : all plain (no_cr (token c.args.piece)) ≡ true = ap (all plain) (sym is) ∙ all_of plain text c.run-plain.result c.run-plain.ensures.value (omega arith) c.run-plain.ensures.within in
    let e : line s (token c.args.piece) ≡ content s (token c.front-2.result) =
    pick_true _ _ all_plain ∙ ap (λ (bs : List ℕ). content s (before 35 bs)) (sym is)
    ∙ ap (λ (m : ℕ). content s (take m text)) (sym c.run.ensures.value) ∙ ap (content s) (sym c.front-2.ensures) in
    rw e c.content.ensures
