-- What comes out of a program: where stores wait, at once, and by an order.
use Rattle.std.specs.Prelude.{◌≡◌, true, List, ◌++◌, ℕ, replicate}
use Rattle.std.proofs.Math.Option.{some}
use Rattle.model.specs.Code.{Prog}
use Rattle.model.specs.Machine.{St, Move, moves, begin, all_done, outcome, all_at_once}
use Rattle.model.specs.Orders.{Ev, Order, alones, evs_of, regs_of, writes_in}

-- o comes out where stores wait: some run ends with all done and nothing waiting, and with o in registers and memory
abbrev pub Waiting : Prog → List ℕ → Type 0
Waiting p o = (ms : List Move) × (s : St) × (moves p (begin p) ms ≡ some s) × (all_done p s.threads ≡ true) × (outcome s ≡ o)

-- o comes out at once
abbrev pub AtOnce : Prog → List ℕ → Type 0
AtOnce p o = (ns : List ℕ) × (s : St) × (all_at_once p (begin p) ns ≡ some s) × (all_done p s.threads ≡ true) × (outcome s ≡ o)

-- o is had by an order: for some numbers that the reads give, there is a memory order of the events, the registers of
-- o are those of the threads by themselves, and its memory is what the writes leave in this order
abbrev pub ByOrder : Prog → List ℕ → Type 0
ByOrder p o = (vss : List (List ℕ)) × (es : List Ev) × Order p (evs_of (alones 0 p vss)) es × (o ≡ regs_of (alones 0 p vss) ++ writes_in es (replicate 8 0))

-- plain: nothing comes out where stores wait that doesn't at once
abbrev pub IsPlain : Prog → Type 0
IsPlain p = (o : List ℕ) → Waiting p o → AtOnce p o

-- a run that shows what doesn't come out at once
abbrev pub Shows : Prog → List Move → Type 0
Shows p ms = (s : St) × (moves p (begin p) ms ≡ some s) × (all_done p s.threads ≡ true) × (AtOnce p (outcome s) → ⊥)
