-- The spots at positions below s are written.
use Rattle.fences.specs.Rows.{Wrote}
use Rattle.fences.proofs.TellLaws.{up_to, text_at}
use Rattle.fences.proofs.telling.write_fences.Given as goal

abbrev pub invariant-loop-s : goal.invariant-loop-s
invariant-loop-s l = Wrote (text_at (up_to l.fences l.s)) l.initial.out l.out l.at l.end
