use Rattle.std.proofs.Common.{◌≡◌}
use Rattle.std.specs.Iterator.Adapters.{enumerate_source, enumerate_count}
use Rattle.text.specs.Bytes.{pieces}
use Rattle.text.specs.Grammar.{row}
use Rattle.text.specs.Kinds.{left}
use Rattle.text.specs.Meaning.{token, page}
use Rattle.text.proofs.pages.Page.row.Given as goal

abbrev pub invariant-loop-k : goal.invariant-loop-k
invariant-loop-k l =
    (goal.iterator-loop-k).can_next l.k-iterator × (goal.iterator-loop-k).is_finite l.k-iterator
    × (row 0 (page l.initial.self) (pieces 124 (token l.content)) ≡ row (enumerate_count l.k-iterator) (page l.self) (left (enumerate_source l.k-iterator)))
