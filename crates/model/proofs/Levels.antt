-- The level of a state is how many moves any run took that comes to it: one for each instruction done, and one for
-- each store that went to memory, which is each store done that no longer waits.
use mathlib.Core.Path.{◌≡◌, refl, sym, ap, ◌∙◌, subst}
use mathlib.Core.Logic.{inl, inr}
use mathlib.Core.List.{List, [], ◌∷◌, ◌++◌}
use mathlib.Core.Option.{some, none}
use Prim.Native.Nat.{ℕ, zero, suc, ◌+◌, ◌-◌}
use native.Mathlib.Omega.{arith}
use lib.ListN.{length, length-append, take}
use Rattle.model.specs.Code.{pick, nth, put, I, Thread, Prog}
use Rattle.model.specs.Machine.{At, St, Move, next, out, move, moves, starts, begin, does, is_store}
use Rattle.model.proofs.Tools.{opt_some, opt_is, some_is, none_some, store_or, does_pc, does_waits, next_of, out_of, rest_of, length_put, starts_length, moves_then, moves_keep}

-- one for a store
abbrev pub if_store : I → ℕ
if_store i = pick (is_store i) 1 0

-- how many of the instructions are stores
abbrev pub stores_in : Thread → ℕ
stores_in [] = 0
stores_in (i ∷ is) = if_store i + stores_in is

-- what the code t did where its thread stands at pc: so many instructions, and its stores once more
abbrev pub did_by : Thread → ℕ → ℕ
did_by t pc = pc + stores_in (take pc t)

-- the same of all threads
abbrev pub done_by : Prog → List At → ℕ
done_by [] as₁ = 0
done_by (t ∷ ts) [] = 0
done_by (t ∷ ts) (a ∷ as₁) = did_by t a.pc + done_by ts as₁

-- how many stores wait
abbrev pub held : List At → ℕ
held [] = 0
held (a ∷ as₁) = length a.waits + held as₁

abbrev pub level : Prog → St → ℕ
level p s = done_by p s.threads - held s.threads

-- another thread in the n-th place
done_put : (p : Prog) (as₁ : List At) (n : ℕ) (c : Thread) (a b : At) → nth p n ≡ some c → nth as₁ n ≡ some a → done_by p (put as₁ n b) + did_by c a.pc ≡ done_by p as₁ + did_by c b.pc
done_put [] as₁ n c a b f e = absurd (none_some f)
done_put (t ∷ ts) [] n c a b f e = absurd (none_some e)
done_put (t ∷ ts) (x ∷ as₁) zero c a b f e =
    let q : did_by t x.pc ≡ did_by c a.pc = ap (λ (z : At). did_by t z.pc) (some_is e) ∙ ap (λ (z : Thread). did_by z a.pc) (some_is f) in
    let r : did_by t b.pc ≡ did_by c b.pc = ap (λ (z : Thread). did_by z b.pc) (some_is f) in
    omega arith
done_put (t ∷ ts) (x ∷ as₁) (suc n) c a b f e = let k = done_put ts as₁ n c a b f e in omega arith

done_kept : (p : Prog) (as₁ : List At) (n : ℕ) (a b : At) → nth as₁ n ≡ some a → b.pc ≡ a.pc → done_by p (put as₁ n b) ≡ done_by p as₁
done_kept [] as₁ n a b e h = refl
done_kept (t ∷ ts) [] n a b e h = refl
done_kept (t ∷ ts) (x ∷ as₁) zero a b e h = ap (λ (z : ℕ). did_by t z + done_by ts as₁) (h ∙ sym (ap (λ (z : At). z.pc) (some_is e)))
done_kept (t ∷ ts) (x ∷ as₁) (suc n) a b e h = ap (λ (z : ℕ). did_by t x.pc + z) (done_kept ts as₁ n a b e h)

held_put : (as₁ : List At) (n : ℕ) (a b : At) → nth as₁ n ≡ some a → held (put as₁ n b) + length a.waits ≡ held as₁ + length b.waits
held_put [] n a b e = absurd (none_some e)
held_put (x ∷ as₁) zero a b e = let q : length x.waits ≡ length a.waits = ap (λ (z : At). length z.waits) (some_is e) in omega arith
held_put (x ∷ as₁) (suc n) a b e = let k = held_put as₁ n a b e in omega arith

-- one instruction more
stores_more : (c : Thread) (n : ℕ) (i : I) → nth c n ≡ some i → stores_in (take (suc n) c) ≡ stores_in (take n c) + if_store i
stores_more [] n i e = absurd (none_some e)
stores_more (j ∷ c) zero i e = let q : if_store j ≡ if_store i = ap if_store (some_is e) in omega arith
stores_more (j ∷ c) (suc n) i e = let k = stores_more c n i e in omega arith

does_adds : (m : List ℕ) (c : Thread) (a b : At) (i : I) → nth c a.pc ≡ some i → does m a i ≡ some b → did_by c b.pc + length a.waits ≡ suc (did_by c a.pc + length b.waits)
does_adds m c a b i f e =
    let pc : did_by c b.pc ≡ did_by c (suc a.pc) = ap (did_by c) (does_pc m a b i e) in
    let more = stores_more c a.pc i f in
    elim (store_or i) [ inl st ↦ (let one : if_store i ≡ 1 = ap if_store st.2 in let row : length b.waits ≡ length a.waits + 1 = ap (λ (z : At). length z.waits) (sym (some_is (subst (λ (z : I). does m a z ≡ some b) st.2 e))) ∙ length-append a.waits _ in omega arith) | inr q ↦ (let none_more : if_store i ≡ 0 = ap (λ z. pick {A = ℕ} z 1 0) q in let row = ap length (does_waits m a b i q e) in omega arith) ]

-- a move adds one to what is done, less what waits
move_adds : (p : Prog) (s t : St) (m : Move) → move p s m ≡ some t → done_by p t.threads + held s.threads ≡ suc (done_by p s.threads + held t.threads)
move_adds p s t (next n) e =
    let x = next_of p s n t e in
    let h = does_adds s.mem x.code x.was x.now x.i x.at x.did in
    let d = done_put p s.threads n x.code x.was x.now x.of x.stands in
    let w = held_put s.threads n x.was x.now x.stands in
    rw x.gives (omega arith)
move_adds p s t (out n) e =
    let x = out_of p s n t e in
    let b = rest_of x.was x.ws in
    let d = done_kept p s.threads n x.was b x.stands refl in
    let w = held_put s.threads n x.was b x.stands in
    let l : length x.was.waits ≡ suc (length x.ws) = ap length x.line in
    rw x.gives (omega arith)

moves_add : (p : Prog) (s t : St) (ms : List Move) → moves p s ms ≡ some t → done_by p t.threads + held s.threads ≡ length ms + done_by p s.threads + held t.threads
moves_add p s t [] e =
    let d : done_by p s.threads ≡ done_by p t.threads = ap (λ (z : St). done_by p z.threads) (some_is e) in
    let h : held s.threads ≡ held t.threads = ap (λ (z : St). held z.threads) (some_is e) in
    omega arith
moves_add p s t (m ∷ ms) e =
    let (u, eu, e1) = opt_some (move p s m) _ e in
    let h = move_adds p s u m eu in
    let k = moves_add p u t ms e1 in
    omega arith

done_begin : (p : Prog) → done_by p (starts p) ≡ 0
done_begin [] = refl
done_begin (t ∷ ts) = let h = done_begin ts in omega arith

held_begin : (p : Prog) → held (starts p) ≡ 0
held_begin [] = refl
held_begin (t ∷ ts) = let h = held_begin ts in omega arith

-- what is done is as much as the run has moves, and what waits
pub run_adds : (p : Prog) (ms : List Move) (s : St) → moves p (begin p) ms ≡ some s → done_by p s.threads ≡ length ms + held s.threads
run_adds p ms s e =
    let h = moves_add p (begin p) s ms e in
    let d = done_begin p in
    let k = held_begin p in
    omega arith

pub level_run : (p : Prog) (ms : List Move) (s : St) → moves p (begin p) ms ≡ some s → level p s ≡ length ms
level_run p ms s e = let h = run_adds p ms s e in omega arith

-- a run with one move more
pub run_more : (p : Prog) (ms : List Move) (s t : St) (m : Move) → moves p (begin p) ms ≡ some s → move p s m ≡ some t → moves p (begin p) (ms ++ m ∷ []) ≡ some t
run_more p ms s t m e f = moves_then p (begin p) s t ms (m ∷ []) e (opt_is (move p s m) none _ f)

pub level_move : (p : Prog) (ms : List Move) (s t : St) (m : Move) → moves p (begin p) ms ≡ some s → move p s m ≡ some t → level p t ≡ suc (level p s)
level_move p ms s t m e f =
    let h = level_run p ms s e in
    let k = level_run p (ms ++ m ∷ []) t (run_more p ms s t m e f) in
    let l = length-append ms (m ∷ []) in
    omega arith

-- a move keeps how many threads there are
move_threads : (p : Prog) (s t : St) (m : Move) → move p s m ≡ some t → length t.threads ≡ length s.threads
move_threads p s t (next n) e = let x = next_of p s n t e in rw x.gives (length_put s.threads n x.now)
move_threads p s t (out n) e = let x = out_of p s n t e in rw x.gives (length_put s.threads n (rest_of x.was x.ws))

pub run_threads : (p : Prog) (ms : List Move) (s : St) → moves p (begin p) ms ≡ some s → length s.threads ≡ length p
run_threads p ms s e = moves_keep (λ (z : St). length z.threads ≡ length p) p (λ u v m h f. move_threads p u v m f ∙ h) (begin p) s ms (starts_length p) e
