use Rattle.std.proofs.Common.{arith}
use Rattle.program.specs.Meaning.{program}
use Rattle.program.proofs.WriteWords.{program_ok}
use Rattle.fences.proofs.SearchLaws.{ends}
use Rattle.fences.proofs.looks.Base.fewest.Goals as goal

pub unreachable-requires : goal.unreachable-requires
unreachable-requires c = ends (program c.args.self.now.p.now) c.lengths.bits _ (program_ok c.args.self.now.p.now) (omega arith) c.lengths.invariant.2
