-- What an instruction of the code means: one of the model.
use Rattle.model.specs.Code.{I, sets, adds, loads, stores, fence}
use Rattle.program.specs.declared.instructions.Instruction.{Instruction}
use Rattle.program.specs.declared.instructions.Instruction.TheVariants.{Set, Add, Load, Store, Fence}

abbrev pub instruction : Instruction → I
instruction (Set r n) = sets r.0 n
instruction (Add r a b) = adds r.0 a.0 b.0
instruction (Load r x) = loads r.0 x.0
instruction (Store x r) = stores x.0 r.0
instruction Fence = fence
