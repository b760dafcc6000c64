-- Finished states come last: they have all instructions done and nothing waiting, which no other state has, so no level is
-- higher than theirs, and a state whose level is as high is finished.
use mathlib.Core.Path.{◌≡◌, refl, sym, ap, subst, ◌∙◌}
use mathlib.Core.Bool.{true, ◌&&◌}
use mathlib.Core.List.{List, [], ◌∷◌}
use mathlib.Core.Option.{some}
use Prim.Native.Nat.{ℕ, zero, suc, ◌+◌, ◌≤◌}
use native.Mathlib.Omega.{arith}
use lib.Dec.{eqb}
use lib.ListN.{length, take}
use lib.Seq.{take-length}
use Rattle.model.specs.Code.{nth, put, Thread, Prog}
use Rattle.model.specs.Machine.{Wait, At, St, Move, next, out, move, moves, starts, begin, all_done, empty}
use Rattle.model.proofs.Tools.{some_is, eqb_is, eqb_same, and_both, false_true, nth_below, does_pc, next_of, out_of, rest_of, moves_keep}
use Rattle.model.proofs.Levels.{stores_in, done_by, held, run_adds, run_threads}

-- what all threads do in all
abbrev all_by : Prog → ℕ
all_by [] = 0
all_by (t ∷ ts) = length t + stores_in t + all_by ts

-- no thread is behind the end of its code
abbrev Inside : Prog → List At → Type 0
Inside [] as₁ = Unit {0}
Inside (t ∷ ts) [] = Unit {0}
Inside (t ∷ ts) (a ∷ as₁) = (a.pc ≤ length t) × Inside ts as₁

inside_put : (p : Prog) (as₁ : List At) (n : ℕ) (c : Thread) (b : At) → nth p n ≡ some c → b.pc ≤ length c → Inside p as₁ → Inside p (put as₁ n b)
inside_put [] as₁ n c b e h i = tt
inside_put (t ∷ ts) [] n c b e h i = tt
inside_put (t ∷ ts) (a ∷ as₁) zero c b e h i = (subst (λ (z : Thread). b.pc ≤ length z) (sym (some_is e)) h, i.1)
inside_put (t ∷ ts) (a ∷ as₁) (suc n) c b e h i = (i.0, inside_put ts as₁ n c b e h i.1)

inside_kept : (p : Prog) (as₁ : List At) (n : ℕ) (a b : At) → nth as₁ n ≡ some a → b.pc ≡ a.pc → Inside p as₁ → Inside p (put as₁ n b)
inside_kept [] as₁ n a b e h i = tt
inside_kept (t ∷ ts) [] n a b e h i = tt
inside_kept (t ∷ ts) (x ∷ as₁) zero a b e h i = (let q : x.pc ≡ a.pc = ap (λ (z : At). z.pc) (some_is e) in let k = i.0 in omega arith, i.1)
inside_kept (t ∷ ts) (x ∷ as₁) (suc n) a b e h i = (i.0, inside_kept ts as₁ n a b e h i.1)

inside_move : (p : Prog) (s t : St) (m : Move) → Inside p s.threads → move p s m ≡ some t → Inside p t.threads
inside_move p s t (next n) i e =
    let x = next_of p s n t e in
    let pc = does_pc s.mem x.was x.now x.i x.did in
    let b = nth_below x.code x.was.pc x.at in
    let h : x.now.pc ≤ length x.code = omega arith in
    rw x.gives (inside_put p s.threads n x.code x.now x.of h i)
inside_move p s t (out n) i e = let x = out_of p s n t e in rw x.gives (inside_kept p s.threads n x.was (rest_of x.was x.ws) x.stands refl i)

inside_begin : (p : Prog) → Inside p (starts p)
inside_begin [] = tt
inside_begin (t ∷ ts) = (omega arith, inside_begin ts)

inside_run : (p : Prog) (ms : List Move) (s : St) → moves p (begin p) ms ≡ some s → Inside p s.threads
inside_run p ms s e = moves_keep (λ (z : St). Inside p z.threads) p (inside_move p) (begin p) s ms (inside_begin p) e

-- what is done is a part of it
stores_part : (t : Thread) (k : ℕ) → stores_in (take k t) ≤ stores_in t
stores_part [] zero = omega arith
stores_part [] (suc k) = omega arith
stores_part (i ∷ t) zero = omega arith
stores_part (i ∷ t) (suc k) = let h = stores_part t k in omega arith

done_part : (p : Prog) (as₁ : List At) → Inside p as₁ → done_by p as₁ ≤ all_by p
done_part [] as₁ i = omega arith
done_part (t ∷ ts) [] i = omega arith
done_part (t ∷ ts) (a ∷ as₁) i =
    let h = stores_part t a.pc in
    let k = i.0 in
    let l = done_part ts as₁ i.1 in
    omega arith

empty_is : (ws : List Wait) → empty ws ≡ true → length ws ≡ 0
empty_is [] e = refl
empty_is (w ∷ ws) e = absurd (false_true e)

is_empty : (ws : List Wait) → length ws ≡ 0 → empty ws ≡ true
is_empty [] e = refl
is_empty (w ∷ ws) e = absurd (omega arith)

-- finished: all of it
finished_all : (p : Prog) (as₁ : List At) → length as₁ ≡ length p → all_done p as₁ ≡ true → (done_by p as₁ ≡ all_by p) × (held as₁ ≡ 0)
finished_all [] [] l e = (refl, refl)
finished_all [] (a ∷ as₁) l e = absurd (omega arith)
finished_all (t ∷ ts) [] l e = absurd (omega arith)
finished_all (t ∷ ts) (a ∷ as₁) l e =
    let (pc, r) = and_both (eqb a.pc (length t)) (empty a.waits && all_done ts as₁) e in
    let (w, d) = and_both (empty a.waits) (all_done ts as₁) r in
    let k : a.pc ≡ length t = eqb_is a.pc (length t) pc in
    let s : stores_in (take a.pc t) ≡ stores_in t = ap (λ (n : ℕ). stores_in (take n t)) k ∙ ap stores_in (take-length t) in
    let z = empty_is a.waits w in
    let i = finished_all ts as₁ (omega arith) d in
    let i0 = i.0 in
    let i1 = i.1 in
    (omega arith, omega arith)

-- and where all of it is done, finished
all_finished : (p : Prog) (as₁ : List At) → length as₁ ≡ length p → Inside p as₁ → held as₁ + all_by p ≤ done_by p as₁ → all_done p as₁ ≡ true
all_finished [] as₁ l i h = refl
all_finished (t ∷ ts) [] l i h = absurd (omega arith)
all_finished (t ∷ ts) (a ∷ as₁) l i h =
    let s = stores_part t a.pc in
    let k = i.0 in
    let d = done_part ts as₁ i.1 in
    let pc : a.pc ≡ length t = omega arith in
    let w : length a.waits ≡ 0 = omega arith in
    let rest = all_finished ts as₁ (omega arith) i.1 (omega arith) in
    let e1 : eqb a.pc (length t) ≡ true = ap (λ (n : ℕ). eqb n (length t)) pc ∙ eqb_same (length t) in
    let e2 : empty a.waits ≡ true = is_empty a.waits w in
    ap (λ b. b && (empty a.waits && all_done ts as₁)) e1 ∙ ap (λ b. b && all_done ts as₁) e2 ∙ rest

-- a state that takes no fewer moves than a finished one is finished
pub finished_last : (p : Prog) (ms ns : List Move) (s t : St) → moves p (begin p) ms ≡ some s → moves p (begin p) ns ≡ some t → all_done p s.threads ≡ true → length ms ≤ length ns → all_done p t.threads ≡ true
finished_last p ms ns s t a b d l =
    let f = finished_all p s.threads (run_threads p ms s a) d in
    let f0 = f.0 in
    let f1 = f.1 in
    let x = run_adds p ms s a in
    let y = run_adds p ns t b in
    all_finished p t.threads (run_threads p ns t b) (inside_run p ns t b) (omega arith)
