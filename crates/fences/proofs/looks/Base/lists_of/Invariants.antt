-- The clauses kept are learnt, and no list before 'upto' works.
use Rattle.std.proofs.Common.{◌^◌, ◌<◌, ◌≤◌, length}
use Rattle.program.specs.Meaning.{program}
use Rattle.fences.specs.Searching.{LearntMasks, EarlierFail}
use Rattle.fences.proofs.looks.Base.lists_of.Given as goal

abbrev pub invariant-lists : goal.invariant-lists
invariant-lists l = (l.known ≤ length l.clauses) × LearntMasks (program l.self.p.now) l.clauses l.known × EarlierFail (program l.self.p.now) l.bits l.upto × (l.upto < 2 ^ 32)

abbrev pub decreases-lists : goal.decreases-lists
decreases-lists l = l.upto
