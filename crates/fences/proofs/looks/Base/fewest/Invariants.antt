-- The clauses kept are learnt, and no list of fewer fences works.
use Rattle.std.proofs.Common.{◌-◌, ◌^◌, ◌≤◌, length}
use Rattle.program.specs.Meaning.{program}
use Rattle.fences.specs.Searching.{LearntMasks, EarlierFail}
use Rattle.fences.proofs.looks.Base.fewest.Given as goal

abbrev pub invariant-lengths : goal.invariant-lengths
invariant-lengths l = (l.known ≤ length l.clauses) × LearntMasks (program l.self.p.now) l.clauses l.known × EarlierFail (program l.self.p.now) l.bits (2 ^ 32 - 1)
