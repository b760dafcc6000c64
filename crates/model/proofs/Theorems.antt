-- The theorems about the definitions, gathered.
use Rattle.model.specs.Theorems.{Theorems}
use Rattle.model.proofs.OneProgram.{one_program}
use Rattle.model.proofs.AlsoWaiting.{also_waiting}
use Rattle.model.proofs.Orders.{machine_is_orders}
use Rattle.model.proofs.EnoughFences.{enough}
use Rattle.model.proofs.FencesAreGuards.{fences_are_guards, fences_at_once, more_fences}
use Rattle.model.proofs.RunsUnderGuards.{no_more_states, still_a_run}
use Rattle.model.proofs.Clauses.{must_hit, by_clauses}
use Rattle.model.proofs.SomeListWorks.{some_list_works}
use Rattle.model.proofs.OneEnd.{one_end}
use Rattle.model.proofs.ByStates.{plain_by_states, by_states}
use Rattle.model.proofs.RunLength.{run_length}
use Rattle.model.proofs.StoreBuffering.{store_buffering}

pub theorems : Theorems
theorems = record { one_program = one_program; also_waiting = also_waiting; machine_is_orders = machine_is_orders; enough = enough; fences_are_guards = fences_are_guards; fences_at_once = fences_at_once; more_fences = more_fences; no_more_states = no_more_states; still_a_run = still_a_run; must_hit = must_hit; some_list_works = some_list_works; by_clauses = by_clauses; one_end = one_end; plain_by_states = plain_by_states; by_states = by_states; run_length = run_length; store_buffering = store_buffering }
