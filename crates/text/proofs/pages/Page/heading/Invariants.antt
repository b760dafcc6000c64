use Rattle.std.proofs.Common.{◌≡◌}
use Rattle.text.specs.Bytes.{pieces}
use Rattle.text.specs.Grammar.{each, begins}
use Rattle.text.specs.Kinds.{left}
use Rattle.text.specs.Meaning.{token, page}
use Rattle.text.proofs.pages.Page.heading.Given as goal

abbrev pub invariant-loop-cell : goal.invariant-loop-cell
invariant-loop-cell l = each begins (page l.initial.self) (pieces 124 (token l.content)) ≡ each begins (page l.self) (left l.cell-iterator)
