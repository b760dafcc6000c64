-- Nothing is set past the end.
use Rattle.std.proofs.Common.{sym, arith}
use Rattle.std.proofs.lemmas.List.{set_past}
use Rattle.orders.proofs.numbers.put.Goals as goal

pub returns-else-i-cells : goal.returns-else-i-cells
returns-else-i-cells c = sym (set_past c.args.cells.now c.args.i c.args.number (omega arith))
