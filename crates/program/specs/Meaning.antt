-- What a thread and a program of the code mean: those of the model.
use Rattle.std.specs.Prelude.{map}
use Rattle.model.specs.Code.{Prog}
use Rattle.model.specs.Code as model
use Rattle.program.specs.declared.threads.Thread.{Thread}
use Rattle.program.specs.declared.threads.Program.{Program}
use Rattle.program.specs.Instructions.{instruction}

abbrev pub thread : Thread → model.Thread
thread t = map instruction t.code.items

abbrev pub program : Program → Prog
program p = map thread p.threads.items
