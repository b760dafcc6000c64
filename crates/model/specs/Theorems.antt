-- What is proved of the definitions, as types: one sentence, one theorem.
use Rattle.std.specs.Prelude.{◌≡◌, ◌↔◌, true, false, List, [], ◌∷◌, ℕ, ◌*◌, ◌≤◌, length, T}
use Rattle.std.proofs.Math.Option.{some}
use Rattle.model.specs.Code.{nth, I, stores, fence, ok, size, Thread, Prog, Reads}
use Rattle.model.specs.Machine.{St, Move, moves, begin, all_done, outcome, all_at_once, is_store}
use Rattle.model.specs.Outcomes.{Waiting, AtOnce, ByOrder, IsPlain, Shows}
use Rattle.model.specs.Fences.{Spot, with_fences, First, Placed, DoesIt, Fewest}
use Rattle.model.specs.StoreBuffering.{StoreBuffering}
use Rattle.model.specs.Guards.{Guard, guards, gmoves, Guarded, hits, On, Apart, Meets}

-- words are at most one program
abbrev pub OneProgram : Type 0
OneProgram = (s : List ℕ) (p q : Prog) → Reads s p → Reads s q → p ≡ q

-- what comes out at once comes out where stores wait
abbrev pub AlsoWaiting : Type 0
AlsoWaiting = (p : Prog) (o : List ℕ) → AtOnce p o → Waiting p o

-- the machine in which stores wait gives what orders give, and nothing else
abbrev pub MachineIsOrders : Type 0
MachineIsOrders = (p : Prog) (o : List ℕ) → T (ok p) → Waiting p o ↔ ByOrder p o

-- with a fence behind every store nothing new comes out
pub data AllFenced : Thread → Type 0 where
  none_left : AllFenced []
  fenced : {x r : ℕ} {t : Thread} → AllFenced t → AllFenced (stores x r ∷ fence ∷ t)
  other : {i : I} {t : Thread} → is_store i ≡ false → AllFenced t → AllFenced (i ∷ t)

abbrev pub Enough : Type 0
Enough = (p : Prog) (o : List ℕ) → ((n : ℕ) (t : Thread) → nth p n ≡ some t → AllFenced t) → Waiting p o → AtOnce p o

-- fences put in are guards: where stores wait, the program with fences gives what the program itself gives under guards
abbrev pub FencesAreGuards : Type 0
FencesAreGuards = (ss : List Spot) (p : Prog) (o : List ℕ) → Waiting (with_fences ss p) o ↔ Guarded (guards ss) p o

-- at once, fences change nothing
abbrev pub FencesAtOnce : Type 0
FencesAtOnce = (ss : List Spot) (p : Prog) (o : List ℕ) → AtOnce (with_fences ss p) o ↔ AtOnce p o

-- more fences never let more out
abbrev pub MoreFences : Type 0
MoreFences = (ss ts : List Spot) (p : Prog) (o : List ℕ) → ((a : Spot) → On a ss → On a ts) → Waiting (with_fences ts p) o → Waiting (with_fences ss p) o

-- no more states come under guards than without: a run under guards is a run, to the same state
abbrev pub NoMoreStates : Type 0
NoMoreStates = (g : Guard) (p : Prog) (s t : St) (ms : List Move) → gmoves g p s ms ≡ some t → moves p s ms ≡ some t

-- a run is still a run under guards exactly if it passes none of them while something of its thread waits
abbrev pub StillARun : Type 0
StillARun = (ss : List Spot) (p : Prog) (s t : St) (ms : List Move) → moves p s ms ≡ some t → (gmoves (guards ss) p s ms ≡ some t) ↔ Apart ss (hits p s ms)

-- every list that works has a hit of every run whose outcome can't come out at once
abbrev pub MustHit : Type 0
MustHit = (p : Prog) (ss : List Spot) (ms : List Move) → DoesIt p ss → Shows p ms → Meets ss (hits p (begin p) ms)

-- some list always works
abbrev pub SomeListWorks : Type 0
SomeListWorks = (p : Prog) → (ss : List Spot) × DoesIt p ss

-- the list meets every clause
abbrev pub MeetsAll : List Spot → List (List Spot) → Type 0
MeetsAll ss cs = (k : ℕ) (c : List Spot) → nth cs k ≡ some c → Meets ss c

-- clauses: each holds the hits of a run whose outcome can't come out at once
abbrev pub Learnt : Prog → List (List Spot) → Type 0
Learnt p cs = (k : ℕ) (c : List Spot) → nth cs k ≡ some c → (ms : List Move) × Shows p ms × ((a : Spot) → On a (hits p (begin p) ms) → On a c)

-- a list that works, and that is the fewest and first of those that meet every clause, is the fewest and first
abbrev pub ByClauses : Type 0
ByClauses = (p : Prog) (cs : List (List Spot)) (ss : List Spot) → Learnt p cs → DoesIt p ss → ((ts : List Spot) → Placed p ts → MeetsAll ts cs → length ss ≤ length ts) → ((ts : List Spot) → Placed p ts → MeetsAll ts cs → length ts ≡ length ss → First ts ss → ⊥) → Fewest p ss

-- an outcome determines the finished state
abbrev pub OneEnd : Type 0
OneEnd = (p : Prog) (ms ns : List Move) (s t : St) → moves p (begin p) ms ≡ some s → moves p (begin p) ns ≡ some t → all_done p s.threads ≡ true → all_done p t.threads ≡ true → outcome s ≡ outcome t → s ≡ t

-- so a program is plain exactly if every finished state that runs come to is come to at once
abbrev pub PlainByStates : Type 0
PlainByStates = (p : Prog) → IsPlain p ↔ ((ms : List Move) (s : St) → moves p (begin p) ms ≡ some s → all_done p s.threads ≡ true → (ns : List ℕ) × (all_at_once p (begin p) ns ≡ some s))

-- and with fences it is plain exactly if every finished state that runs under the guards come to is come to at once
abbrev pub ByStates : Type 0
ByStates = (ss : List Spot) (p : Prog) → IsPlain (with_fences ss p) ↔ ((ms : List Move) (s : St) → gmoves (guards ss) p (begin p) ms ≡ some s → all_done p s.threads ≡ true → (ns : List ℕ) × (all_at_once p (begin p) ns ≡ some s))

-- a run has at most twice as many moves as the program has instructions
abbrev pub RunLength : Type 0
RunLength = (p : Prog) (ms : List Move) (s : St) → moves p (begin p) ms ≡ some s → length ms ≤ 2 * size p

-- all of these
pub record Theorems : Type 0 where
  pub one_program : OneProgram
  pub also_waiting : AlsoWaiting
  pub machine_is_orders : MachineIsOrders
  pub enough : Enough
  pub fences_are_guards : FencesAreGuards
  pub fences_at_once : FencesAtOnce
  pub more_fences : MoreFences
  pub no_more_states : NoMoreStates
  pub still_a_run : StillARun
  pub must_hit : MustHit
  pub some_list_works : SomeListWorks
  pub by_clauses : ByClauses
  pub one_end : OneEnd
  pub plain_by_states : PlainByStates
  pub by_states : ByStates
  pub run_length : RunLength
  pub store_buffering : StoreBuffering
