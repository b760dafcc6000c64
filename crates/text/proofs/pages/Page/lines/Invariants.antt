use Rattle.std.proofs.Common.{◌≡◌}
use Rattle.text.specs.Bytes.{pieces}
use Rattle.text.specs.Grammar.{each, line}
use Rattle.text.specs.Kinds.{left}
use Rattle.text.specs.Meaning.{page}
use Rattle.text.proofs.pages.Page.lines.Given as goal

abbrev pub invariant-loop-line : goal.invariant-loop-line
invariant-loop-line l = each line (page l.initial.self) (pieces 10 l.text) ≡ each line (page l.self) (left l.line-iterator)
