-- The choice among the states before i.
use Rattle.program.specs.Meaning.{program}
use Rattle.fences.specs.Looks.{Chosen}
use Rattle.fences.proofs.looks.Base.find_bad.Given as goal

abbrev pub invariant-loop-i : goal.invariant-loop-i
invariant-loop-i l = Chosen (program l.self.p.now) l.self.queue.now l.self.once.now l.cost l.i l.best
