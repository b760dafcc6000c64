-- The first f fields are written.
use Rattle.std.proofs.Common.{◌≡◌, take}
use Rattle.lent.specs.Nibbles.{nibbles}
use Rattle.report.proofs.outcomes.write_fields.Given as goal

abbrev pub invariant-loop-f : goal.invariant-loop-f
invariant-loop-f l = take l.f l.out ≡ nibbles l.f l.word
