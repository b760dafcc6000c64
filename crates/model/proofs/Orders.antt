-- The machine in which stores wait gives what orders give, and nothing else.
-- Between a run and an order stand events taken one after the other out of what the threads have still to do (Going).
-- An order is events so taken (Ordered), by what a read has (Reading). A run takes them too: each thread's row, and then
-- its rest, is a list of events (Rows, States), and only a load and a store that goes out take one (Taking). So a run
-- gives them (FromRuns), and they give a run (Settling, ToRuns).
pub mod Events
pub mod Going
pub mod Reading
pub mod Ordered
pub mod Rows
pub mod States
pub mod Taking
pub mod FromRuns
pub mod Settling
pub mod ToRuns
pub mod Alones
use mathlib.Core.Path.{◌≡◌, refl, sym, ◌∙◌, ap, ap₂, subst}
use mathlib.Core.List.{List, [], ◌∷◌, ◌++◌}
use mathlib.Core.Option.{Option, some, none}
use Prim.Native.Nat.{ℕ, zero, suc}
use native.Mathlib.Omega.{arith}
use lib.ListN.{replicate}
use lib.Dec.{T}
use Rattle.model.specs.Code.{nth, Thread, Prog, ok}
use Rattle.model.specs.Machine.{At, starts, begin}
use Rattle.model.specs.Orders.{Ev, Alone, alone}
use Rattle.model.specs.Outcomes.{Waiting, ByOrder}
use Rattle.model.specs.Theorems.{MachineIsOrders}
use Rattle.model.proofs.Tools.{fresh, starts_length}
use Rattle.model.proofs.Orders.Events.{within}
use Rattle.model.proofs.Orders.Ordered.{goes_ordered, ordered_goes}
use Rattle.model.proofs.Orders.Rows.{rest, Row}
use Rattle.model.proofs.Orders.States.{code, stand, stand_is, future, events, goes_same, Pending}
use Rattle.model.proofs.Orders.FromRuns.{from_run}
use Rattle.model.proofs.Orders.ToRuns.{to_run}
use Rattle.model.proofs.Orders.Alones.{given, table, given_table, whole, whole_well, all_regs, order_ordered, ordered_order}

-- at the beginning every thread has all to do, and no row
starts_at : (p : Prog) (n : ℕ) → stand (starts p) n ≡ fresh
starts_at [] n = refl
starts_at (t ∷ ts) zero = refl
starts_at (t ∷ ts) (suc n) = starts_at ts n

abbrev no_rows : ℕ → List Ev
no_rows n = []

pending : (p : Prog) → Pending p (starts p) no_rows
pending p = record {
  many = starts_length p;
  rows = λ n. subst (λ (a : At). Row (code p n) a []) (sym (starts_at p n)) (record { inside = omega arith; line = refl; held = λ e i. absurd (within i) });
}

all_to_come : (p : Prog) (vs : ℕ → List ℕ) (n : ℕ) → future p (starts p) vs n ≡ whole p vs n
all_to_come p vs n = ap (λ (a : At). rest n (code p n) a (vs n)) (starts_at p n)

-- what a function says that the threads read, a list says too: where there is no thread nothing is read
abbrev Like : Alone → Alone → Type 0
Like a b = (a.evs ≡ b.evs) × (a.regs ≡ b.regs)

listed : (p : Prog) (vs : ℕ → List ℕ) (n : ℕ) → Like (whole p vs n) (whole p (given (table vs p)) n)
listed p vs n = go (nth p n) refl
  where
    go : (o : Option Thread) → nth p n ≡ o → Like (whole p vs n) (whole p (given (table vs p)) n)
    go none q = rw q (refl, refl)
    go (some t) q =
        let z = sym (given_table vs p n q) in
        (ap (λ (xs : List ℕ). (alone n 0 (code p n) (replicate 4 0) xs).evs) z, ap (λ (xs : List ℕ). (alone n 0 (code p n) (replicate 4 0) xs).regs) z)

waiting_ordered : (p : Prog) (o : List ℕ) → T (ok p) → Waiting p o → ByOrder p o
waiting_ordered p o fine (ms, s, run, ended, came) =
    let f = from_run p ms (begin p) s no_rows (pending p) run ended in
    let vss = table f.vs p in
    let same_evs : (n : ℕ) → events p (starts p) no_rows f.vs n ≡ (whole p (given vss) n).evs = λ n. ap (λ (a : Alone). a.evs) (all_to_come p f.vs n) ∙ (listed p f.vs n).0 in
    let goes = goes_same p (replicate 8 0) _ _ f.es same_evs f.goes in
    let order = ordered_order p vss f.es (goes_ordered p (replicate 8 0) _ f.es (whole_well p (given vss) fine) goes) in
    let regs = all_regs p vss s.threads f.same.many (λ n a q. ap (λ (b : At). b.regs) (sym (stand_is s.threads n q)) ∙ (f.same.regs n ∙ (ap (λ (b : Alone). b.regs) (all_to_come p f.vs n) ∙ (listed p f.vs n).1))) in
    (vss, f.es, order, sym came ∙ ap₂ (λ (xs ys : List ℕ). xs ++ ys) regs f.same.mem)

ordered_waiting : (p : Prog) (o : List ℕ) → T (ok p) → ByOrder p o → Waiting p o
ordered_waiting p o fine (vss, es, order, is) =
    let vs = given vss in
    let goes = ordered_goes p (replicate 8 0) _ es (whole_well p vs fine) (order_ordered p vss es order) in
    let r = to_run p es (begin p) no_rows vs (pending p) (goes_same p (replicate 8 0) _ (events p (starts p) no_rows vs) es (λ n. sym (ap (λ (a : Alone). a.evs) (all_to_come p vs n))) goes) in
    let regs = all_regs p vss r.to.threads r.same.many (λ n a q. ap (λ (b : At). b.regs) (sym (stand_is r.to.threads n q)) ∙ (r.same.regs n ∙ ap (λ (b : Alone). b.regs) (all_to_come p vs n))) in
    (r.ms, r.to, r.run, r.ended, ap₂ (λ (xs ys : List ℕ). xs ++ ys) regs r.same.mem ∙ sym is)

pub machine_is_orders : MachineIsOrders
machine_is_orders p o fine = (waiting_ordered p o fine, ordered_waiting p o fine)
