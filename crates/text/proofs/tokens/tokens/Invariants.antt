use Rattle.std.proofs.Common.{◌≡◌, [], map, length, vec_items}
use Rattle.text.specs.Bytes.{tokens, tokens_on}
use Rattle.text.specs.Meaning.{token}
use Rattle.text.proofs.Scanning.{at}
use Rattle.text.proofs.tokens.tokens.Given as goal

-- the tokens found so far, and the text that is left
abbrev pub invariant-loop-b : goal.invariant-loop-b
invariant-loop-b l = tokens (token l.fn.cell) ≡ tokens_on (at (map token (vec_items l.found)) []) (token l.rest)

abbrev pub decreases-loop-b : goal.decreases-loop-b
decreases-loop-b l = length (token l.rest)
