-- Each call has one spot less to choose from.
use Rattle.std.proofs.Common.{length}
use Rattle.orders.proofs.fewest.+try_longer.Given as goal

abbrev pub decreases-try_longer : goal.decreases-try_longer
decreases-try_longer l = length l.spots.now
