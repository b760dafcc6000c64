-- What a row, a thread and a move of the code mean: those of the model.
use Rattle.std.specs.Prelude.{ℕ, ◌-◌, List, nat_lt}
use Rattle.lent.specs.Nibbles.{nibbles}
use Rattle.model.specs.Code.{pick}
use Rattle.model.specs.Machine.{Wait, At, next, out}
use Rattle.model.specs.Machine as model
use Rattle.machine.specs.declared.rows.Row.{Row}
use Rattle.machine.specs.declared.threads.ThreadState.{ThreadState}
use Rattle.machine.specs.declared.moves.Move.{Move}
use Rattle.machine.specs.declared.moves.Move.TheVariants.{Next, Out}
use Rattle.machine.specs.Stores.{row}

abbrev pub waits : Row → List Wait
waits r = row r.items r.begin r.len

abbrev pub at : ThreadState → At
at t = record { pc = t.pc; regs = nibbles 4 t.regs; waits = waits t.row }

abbrev pub meant : Move → model.Move
meant (Next n) = next n.0
meant (Out n) = out n.0

-- move m of n threads: the next instruction of thread m; from n on, the oldest store of thread m - n going to memory
abbrev pub numbered : ℕ → ℕ → model.Move
numbered n m = pick (nat_lt m n) (next m) (out (m - n))
