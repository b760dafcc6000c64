-- A run has at most twice as many moves as the program has instructions: each instruction not yet done counts two and
-- each store that waits counts one, and every move lowers the sum.
use mathlib.Core.Path.{◌≡◌, refl, sym, ap, ◌∙◌, subst}
use mathlib.Core.Logic.{inl, inr}
use mathlib.Core.List.{List, [], ◌∷◌}
use mathlib.Core.Option.{Option, some, none}
use Prim.Native.Nat.{ℕ, zero, suc, ◌+◌, ◌*◌, ◌-◌, ◌≤◌, ◌<◌}
use native.Mathlib.Omega.{arith}
use lib.ListN.{length, length-append}
use Rattle.model.specs.Code.{nth, put, I, size, Thread, Prog}
use Rattle.model.specs.Machine.{Wait, At, St, Move, next, out, move, moves, starts, begin, does}
use Rattle.model.specs.Theorems.{RunLength}
use Rattle.model.proofs.Tools.{opt_some, some_is, none_some, nth_below, store_or, does_pc, does_waits, next_of, out_of, rest_of}

-- what a thread can still do at most; a thread with no code can only let its stores out
abbrev cost : Option Thread → At → ℕ
cost none a = length a.waits
cost (some c) a = 2 * (length c - a.pc) + length a.waits

abbrev left : Prog → List At → ℕ
left p [] = 0
left [] (a ∷ as₁) = cost none a + left [] as₁
left (t ∷ ts) (a ∷ as₁) = cost (some t) a + left ts as₁

left_put : (p : Prog) (as₁ : List At) (n : ℕ) (a b : At) → nth as₁ n ≡ some a → cost (nth p n) b < cost (nth p n) a → left p (put as₁ n b) < left p as₁
left_put p [] n a b e h = absurd (none_some e)
left_put [] (x ∷ as₁) zero a b e h = let q : length x.waits ≡ length a.waits = ap (λ (z : At). length z.waits) (some_is e) in omega arith
left_put [] (x ∷ as₁) (suc n) a b e h = let k = left_put [] as₁ n a b e h in omega arith
left_put (t ∷ ts) (x ∷ as₁) zero a b e h = let q : cost (some t) x ≡ cost (some t) a = ap (cost (some t)) (some_is e) in omega arith
left_put (t ∷ ts) (x ∷ as₁) (suc n) a b e h = let k = left_put ts as₁ n a b e h in omega arith

does_cost : (m : List ℕ) (c : Thread) (a b : At) (i : I) → a.pc < length c → does m a i ≡ some b → cost (some c) b < cost (some c) a
does_cost m c a b i h e =
    let pc = does_pc m a b i e in
    elim (store_or i) [ inl st ↦ (let row : length b.waits ≡ length a.waits + 1 = ap (λ (z : At). length z.waits) (sym (some_is (subst (λ (z : I). does m a z ≡ some b) st.2 e))) ∙ length-append a.waits _ in omega arith) | inr q ↦ (let row = ap length (does_waits m a b i q e) in omega arith) ]

out_cost : (o : Option Thread) (a : At) (w : Wait) (ws : List Wait) → a.waits ≡ w ∷ ws → cost o (rest_of a ws) < cost o a
out_cost none a w ws e = let q : length a.waits ≡ suc (length ws) = ap length e in omega arith
out_cost (some c) a w ws e = let q : length a.waits ≡ suc (length ws) = ap length e in omega arith

move_left : (p : Prog) (s t : St) (m : Move) → move p s m ≡ some t → left p t.threads < left p s.threads
move_left p s t (next n) e =
    let x = next_of p s n t e in
    let h = does_cost s.mem x.code x.was x.now x.i (nth_below x.code x.was.pc x.at) x.did in
    let k : cost (nth p n) x.now < cost (nth p n) x.was = rw x.of h in
    rw x.gives (left_put p s.threads n x.was x.now x.stands k)
move_left p s t (out n) e =
    let x = out_of p s n t e in
    rw x.gives (left_put p s.threads n x.was (rest_of x.was x.ws) x.stands (out_cost (nth p n) x.was x.w x.ws x.line))

moves_left : (p : Prog) (s t : St) (ms : List Move) → moves p s ms ≡ some t → length ms + left p t.threads ≤ left p s.threads
moves_left p s t [] e = let q : left p s.threads ≡ left p t.threads = ap (λ (z : St). left p z.threads) (some_is e) in omega arith
moves_left p s t (m ∷ ms) e =
    let (u, eu, e1) = opt_some (move p s m) _ e in
    let h = move_left p s u m eu in
    let k = moves_left p u t ms e1 in
    omega arith

left_begin : (p : Prog) → left p (starts p) ≡ 2 * size p
left_begin [] = refl
left_begin (t ∷ ts) = let h = left_begin ts in omega arith

pub run_length : RunLength
run_length p ms s e = let h = moves_left p (begin p) s ms e in let k = left_begin p in omega arith
