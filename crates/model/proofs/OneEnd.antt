-- An outcome determines the finished state: memory stays eight places and a thread's registers stay four, so an outcome
-- can be cut up again; where a finished thread stands is the length of its code, and nothing of it waits.
use mathlib.Core.Path.{◌≡◌, refl, sym, ap, ◌∙◌, subst}
use mathlib.Core.List.{List, [], ◌∷◌, ◌++◌, append_assoc}
use mathlib.Core.Option.{some}
use mathlib.Core.Bool.{true}
use Prim.Native.Nat.{ℕ, suc}
use native.Mathlib.Omega.{arith}
use lib.ListN.{length}
use lib.Dec.{eqb}
use Rattle.model.specs.Code.{I, sets, adds, loads, stores, fence, Thread, Prog}
use Rattle.model.specs.Machine.{At, St, Move, next, out, move, moves, begin, does, empty, all_done, regs_of}
use Rattle.model.specs.Theorems.{OneEnd}
use Rattle.model.proofs.Tools.{some_is, length_put, next_of, out_of, rest_of, pick_some, Each, each_right, each_both, each_back, moves_keep, starts_each, and_both, eqb_is, empty_is}

-- every thread of the code has four registers
abbrev Fine : ℕ → Thread → At → Type 0
Fine n c a = length a.regs ≡ 4

abbrev Whole : Prog → St → Type 0
Whole p s = (length s.mem ≡ 8) × Each Fine p s.threads

does_regs : (m : List ℕ) (a b : At) (i : I) → does m a i ≡ some b → length b.regs ≡ length a.regs
does_regs m a b (sets r n) e = ap (λ (z : At). length z.regs) (sym (some_is e)) ∙ length_put a.regs r _
does_regs m a b (adds r x y) e = ap (λ (z : At). length z.regs) (sym (some_is e)) ∙ length_put a.regs r _
does_regs m a b (loads r x) e = ap (λ (z : At). length z.regs) (sym (some_is e)) ∙ length_put a.regs r _
does_regs m a b (stores x r) e = ap (λ (z : At). length z.regs) (sym (some_is e))
does_regs m a b fence e = let (q, f) = pick_some (empty a.waits) _ e in ap (λ (z : At). length z.regs) (sym (some_is f))

move_whole : (p : Prog) (s t : St) (m : Move) → Whole p s → move p s m ≡ some t → Whole p t
move_whole p s t (next n) (l, h) e =
    let x = next_of p s n t e in
    let four = each_both Fine p s.threads n h x.of x.stands in
    subst (Whole p) (sym x.gives) (l, each_right Fine p s.threads n x.now h x.of (does_regs s.mem x.was x.now x.i x.did ∙ four))
move_whole p s t (out n) (l, h) e =
    let x = out_of p s n t e in
    let (c, ec, four) = each_back Fine p s.threads n h x.stands in
    subst (Whole p) (sym x.gives) (length_put s.mem _ _ ∙ l, each_right Fine p s.threads n (rest_of x.was x.ws) h ec four)

begin_whole : (p : Prog) → Whole p (begin p)
begin_whole p = (refl, starts_each Fine p (λ n c e. refl))

pub run_whole : (p : Prog) (s : St) (ms : List Move) → moves p (begin p) ms ≡ some s → Whole p s
run_whole p s ms e = moves_keep (Whole p) p (move_whole p) (begin p) s ms (begin_whole p) e

-- two lists cut at the same place
cut : (xs ys us vs : List ℕ) → length xs ≡ length us → xs ++ ys ≡ us ++ vs → (xs ≡ us) × (ys ≡ vs)
cut [] ys [] vs l e = (refl, e)
cut [] ys (u ∷ us) vs l e = absurd (omega arith)
cut (x ∷ xs) ys [] vs l e = absurd (omega arith)
cut (x ∷ xs) ys (u ∷ us) vs l e =
    let f : xs ++ ys ≡ us ++ vs = cc in
    let g : x ≡ u = cc in
    let (a, b) = cut xs ys us vs (omega arith) f in
    (cc, b)

same_ends : (p : Prog) (as₁ bs : List At) (m k : List ℕ) → Each Fine p as₁ → Each Fine p bs → all_done p as₁ ≡ true → all_done p bs ≡ true → regs_of as₁ ++ m ≡ regs_of bs ++ k → (as₁ ≡ bs) × (m ≡ k)
same_ends [] [] [] m k f g d e q = (refl, q)
same_ends [] [] (b ∷ bs) m k f g d e q = absurd (g 0)
same_ends [] (a ∷ as₁) bs m k f g d e q = absurd (f 0)
same_ends (t ∷ ts) [] bs m k f g d e q = absurd (f 0)
same_ends (t ∷ ts) (a ∷ as₁) [] m k f g d e q = absurd (g 0)
same_ends (t ∷ ts) (a ∷ as₁) (b ∷ bs) m k f g d e q =
    let l : length a.regs ≡ 4 = f 0 in
    let r : length b.regs ≡ 4 = g 0 in
    let (regs, more) = cut a.regs (regs_of as₁ ++ m) b.regs (regs_of bs ++ k) (l ∙ sym r) (sym (append_assoc a.regs (regs_of as₁) m) ∙ (q ∙ append_assoc b.regs (regs_of bs) k)) in
    let (d1, d2) = and_both (eqb a.pc (length t)) _ d in
    let (d3, d4) = and_both (empty a.waits) _ d2 in
    let (e1, e2) = and_both (eqb b.pc (length t)) _ e in
    let (e3, e4) = and_both (empty b.waits) _ e2 in
    let (tail, mem) = same_ends ts as₁ bs m k (λ n. f (suc n)) (λ n. g (suc n)) d4 e4 more in
    let pc : a.pc ≡ b.pc = eqb_is a.pc (length t) d1 ∙ sym (eqb_is b.pc (length t) e1) in
    let row : a.waits ≡ b.waits = empty_is a.waits d3 ∙ sym (empty_is b.waits e3) in
    let head : a ≡ b = λ i. record { pc = pc i; regs = regs i; waits = row i } in
    (cc, mem)

pub one_end : OneEnd
one_end p ms ns s t es et ds dt q =
    let ws = run_whole p s ms es in
    let wt = run_whole p t ns et in
    let (threads, mem) = same_ends p s.threads t.threads s.mem t.mem ws.1 wt.1 ds dt q in
    λ i. record { mem = mem i; threads = threads i }
