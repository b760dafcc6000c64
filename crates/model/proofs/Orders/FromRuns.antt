-- From a run of the machine to events taken one after the other: the rows go forwards with the run, and from its end
-- back come the events and what the threads read.
use mathlib.Core.Path.{◌≡◌, refl, sym, ◌∙◌, ap, subst}
use mathlib.Core.Bool.{Bool, true, false}
use mathlib.Core.List.{List, [], ◌∷◌, ◌++◌}
use mathlib.Core.Option.{Option, some, none}
use Prim.Native.Nat.{ℕ}
use native.Mathlib.Omega.{arith}
use lib.ListN.{length}
use Rattle.model.specs.Code.{pick, nth, put, I, sets, adds, loads, stores, fence, Thread, Prog}
use Rattle.model.specs.Machine.{Wait, At, St, Move, next, out, does, at_mem, newest, done, with_thread, move, moves, all_done}
use Rattle.model.specs.Orders.{Ev, Alone, In, first, writes_in}
use Rattle.model.proofs.Tools.{some_is, false_true, opt_some, next_of, Out, out_of, rest_of, gone, done_at, past_nth, nth_below, below_nth}
use Rattle.model.proofs.Orders.Going.{wait, waits_of, after, Goes, upd, upd_here, upd_there}
use Rattle.model.proofs.Orders.Rows.{read_ev, head_or, tail_of, row_after, is_load, row_none, row_cons, end_rest}
use Rattle.model.proofs.Orders.States.{code, code_is, row_here, Stopped, absent, stand, future, events, goes_same, Pending, step_pending, step_events, step_regs}
use Rattle.model.proofs.Orders.Taking.{load_took, load_regs, out_pending, out_took, out_regs}

-- from s the state u comes with the registers and the memory that the order es gives, if the threads read vs
pub record Same (p : Prog) (s u : St) (vs : ℕ → List ℕ) (es : List Ev) : Type 0 where
  pub regs : (n : ℕ) → (stand u.threads n).regs ≡ (future p s.threads vs n).regs
  pub mem : u.mem ≡ writes_in es s.mem
  pub many : length u.threads ≡ length p

-- the same from a state before
pub same_from : (p : Prog) (s t u : St) (vs ys : ℕ → List ℕ) (es fs : List Ev) → ((n : ℕ) → (future p t.threads ys n).regs ≡ (future p s.threads vs n).regs) → writes_in es t.mem ≡ writes_in fs s.mem → Same p t u ys es → Same p s u vs fs
same_from p s t u vs ys es fs r m h = record { regs = λ n. h.regs n ∙ r n; mem = h.mem ∙ m; many = h.many }

-- an order for a run from s, whose rows are ws, to u
pub record From (p : Prog) (s u : St) (ws : ℕ → List Ev) : Type 0 where
  pub vs : ℕ → List ℕ
  pub es : List Ev
  pub goes : Goes p s.mem (events p s.threads ws vs) es
  pub same : Same p s u vs es

-- at the end every thread is at its end, with nothing in its row
ended : (p : Prog) (as₁ : List At) (ws : ℕ → List Ev) → Pending p as₁ ws → all_done p as₁ ≡ true → (n : ℕ) → Stopped p as₁ n
ended p as₁ ws pend d n = go (nth p n) refl
  where
    go : (o : Option Thread) → nth p n ≡ o → Stopped p as₁ n
    go none z = absent p as₁ ws pend n (past_nth p n z)
    go (some t) z =
        let (a, q, e) = done_at p as₁ n d z in
        rw (z, q) e

end_from : (p : Prog) (s : St) (ws : ℕ → List Ev) → Pending p s.threads ws → all_done p s.threads ≡ true → From p s s ws
end_from p s ws pend d = record {
  vs = λ n. [];
  es = [];
  goes = λ n. ap (λ (z : List Ev). z ++ (future p s.threads (λ k. []) n).evs) (row_none n (code p n) (stand s.threads n) (ws n) (pend.rows n) (ended p s.threads ws pend d n).1) ∙ ap (λ (z : Alone). z.evs) (rest_ended n);
  same = record { regs = λ n. sym (ap (λ (z : Alone). z.regs) (rest_ended n)); mem = refl; many = pend.many };
}
  where
    rest_ended : (n : ℕ) → future p s.threads (λ k. []) n ≡ record { regs = (stand s.threads n).regs; evs = []; left = [] }
    rest_ended n = end_rest n (code p n) (stand s.threads n) [] (ended p s.threads ws pend d n).0

-- one move back
module _ (p : Prog) (s u : St) (ws : ℕ → List Ev) (pend : Pending p s.threads ws) (n : ℕ) (a : At) (stands : nth s.threads n ≡ some a) where
  quiet_from : (i : I) (b : At) → is_load i ≡ false → (q : nth (code p n) a.pc ≡ some i) (e : does s.mem a i ≡ some b) → From p (with_thread s n b) u (upd ws n (row_after n a i (ws n))) → From p s u ws
  quiet_from i b c q e f = record {
    vs = f.vs;
    es = f.es;
    goes = goes_same p s.mem _ (events p s.threads ws f.vs) f.es (step_events p s.mem s.threads ws pend n a b i stands q e f.vs c) f.goes;
    same = same_from p s (with_thread s n b) u f.vs f.vs f.es f.es (step_regs p s.mem s.threads ws pend n a b i stands q e f.vs c) refl f.same;
  }

  load_from : (r x : ℕ) → nth (code p n) a.pc ≡ some (loads r x) → From p (with_thread s n (done a (put a.regs r (newest a.waits x (at_mem s.mem x))) a.waits)) u (upd ws n (ws n)) → From p s u ws
  load_from r x q f =
      let v = newest a.waits x (at_mem s.mem x) in
      let vs = upd f.vs n (v ∷ f.vs n) in
      let here = upd_here f.vs n (v ∷ f.vs n) in
      let there : (k : ℕ) → (n ≡ k → ⊥) → f.vs k ≡ vs k = λ k d. sym (upd_there f.vs n (v ∷ f.vs n) k d) in
      let gives : v ≡ newest (waits_of (ws n)) x (at_mem s.mem x) = ap (λ (z : List Wait). newest z x (at_mem s.mem x)) (row_here p s.threads ws pend n a stands).line in
      record {
        vs = vs;
        es = read_ev n a x v ∷ f.es;
        goes = (_, load_took p s.threads ws pend n a stands r x v q vs f.vs (ap head_or here) (ap tail_of here) there, λ w. gives, f.goes);
        same = same_from p s (with_thread s n (done a (put a.regs r v) a.waits)) u vs f.vs f.es (read_ev n a x v ∷ f.es) (load_regs p s.threads ws pend n a stands r x v q vs f.vs (ap head_or here) (ap tail_of here) there) refl f.same;
      }

  next_from : (i : I) (b : At) (q : nth (code p n) a.pc ≡ some i) (e : does s.mem a i ≡ some b) → From p (with_thread s n b) u (upd ws n (row_after n a i (ws n))) → From p s u ws
  next_from (sets r c) b q e f = quiet_from (sets r c) b refl q e f
  next_from (adds r x y) b q e f = quiet_from (adds r x y) b refl q e f
  next_from (loads r x) b q e f = load_from r x q (subst (λ (z : At). From p (with_thread s n z) u (upd ws n (ws n))) (sym (some_is e)) f)
  next_from (stores x r) b q e f = quiet_from (stores x r) b refl q e f
  next_from fence b q e f = quiet_from fence b refl q e f

  out_from : (t : Thread) → nth p n ≡ some t → (e : Ev) (us : List Ev) → ws n ≡ e ∷ us → From p (gone s n (wait e) (rest_of a (waits_of us))) u (upd ws n us) → From p s u ws
  out_from t has e us q f =
      let w : e.write ≡ true = ((row_here p s.threads ws pend n a stands).held e (subst (λ (z : List Ev). In e z) (sym q) first)).0 in
      let to_memory : after s.mem e ≡ put s.mem e.place e.val = ap (λ (z : Bool). pick z (put s.mem e.place e.val) s.mem) w in
      record {
        vs = f.vs;
        es = e ∷ f.es;
        goes = (_, out_took p s.threads ws pend n a stands t has e us q f.vs, λ z. absurd (false_true (sym z ∙ w)), subst (λ (m : List ℕ). Goes p m (events p (put s.threads n (rest_of a (waits_of us))) (upd ws n us) f.vs) f.es) (sym to_memory) f.goes);
        same = same_from p s (gone s n (wait e) (rest_of a (waits_of us))) u f.vs f.vs f.es (e ∷ f.es) (out_regs p s.threads ws pend n a stands t has e us q f.vs) (ap (writes_in f.es) (sym to_memory)) f.same;
      }

-- a store that goes out is the first event of its thread's row; an order from where it leads is wanted
out_back : (p : Prog) (s t u : St) (ws : ℕ → List Ev) (n : ℕ) → Pending p s.threads ws → Out s n t → ((r : St) (us : ℕ → List Ev) → Pending p r.threads us → t ≡ r → From p r u us) → From p s u ws
out_back p s t u ws n pend x f =
    let (e, us, q, qw, qs) = row_cons n (code p n) x.was (ws n) (row_here p s.threads ws pend n x.was x.stands) x.w x.ws x.line in
    let below = nth_below s.threads n x.stands in
    let many = pend.many in
    let (c, has) = below_nth p n (omega arith) in
    go c has e us q (x.gives ∙ (ap (λ (y : Wait). gone s n y (rest_of x.was x.ws)) qw ∙ ap (λ (y : List Wait). gone s n (wait e) (rest_of x.was y)) qs))
  where
    go : (c : Thread) → nth p n ≡ some c → (e : Ev) (us : List Ev) → ws n ≡ e ∷ us → t ≡ gone s n (wait e) (rest_of x.was (waits_of us)) → From p s u ws
    go c has e us q to =
        let still = out_pending p s.threads ws pend n x.was x.stands c has e us q (λ k. []) in
        out_from p s u ws pend n x.was x.stands c has e us q (f (gone s n (wait e) (rest_of x.was (waits_of us))) (upd ws n us) still to)

-- every run to the end has an order
pub from_run : (p : Prog) (ms : List Move) (s u : St) (ws : ℕ → List Ev) → Pending p s.threads ws → moves p s ms ≡ some u → all_done p u.threads ≡ true → From p s u ws
from_run p [] s u ws pend e d =
    let z : s ≡ u = some_is e in
    subst (λ (y : St). From p s y ws) z (end_from p s ws pend (ap (λ (y : St). all_done p y.threads) z ∙ d))
from_run p (next n ∷ ms) s u ws pend e d =
    let (t, et, e') = opt_some (move p s (next n)) _ e in
    let x = next_of p s n t et in
    let q : nth (code p n) x.was.pc ≡ some x.i = ap (λ (c : Thread). nth c x.was.pc) (code_is p n x.of) ∙ x.at in
    let still = step_pending p s.mem s.threads ws pend n x.was x.now x.i x.stands q x.did in
    let run = subst (λ (y : St). moves p y ms ≡ some u) x.gives e' in
    next_from p s u ws pend n x.was x.stands x.i x.now q x.did (from_run p ms (with_thread s n x.now) u (upd ws n (row_after n x.was x.i (ws n))) still run d)
from_run p (out n ∷ ms) s u ws pend e d =
    let (t, et, e') = opt_some (move p s (out n)) _ e in
    out_back p s t u ws n pend (out_of p s n t et) (λ r us still to. from_run p ms r u us still (subst (λ (y : St). moves p y ms ≡ some u) to e') d)
