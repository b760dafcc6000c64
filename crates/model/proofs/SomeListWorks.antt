-- Some list of fences always works: the one with every spot of the program. Nothing is then done while a store of the
-- thread waits. (A fence behind a thread's last store, as the theorem on enough fences asks for, no list can put there;
-- so this goes by guards.)
use mathlib.Core.Path.{◌≡◌, refl, sym, ap, subst}
use mathlib.Core.Logic.{inl, inr}
use mathlib.Core.List.{List, [], ◌∷◌, ◌++◌}
use mathlib.Core.Option.{some}
use Prim.Native.Nat.{ℕ, zero, suc, ◌+◌, ◌≤◌, ◌<◌}
use native.Mathlib.Omega.{arith}
use lib.ListN.{length}
use Rattle.model.specs.Code.{nth, Thread, Prog}
use Rattle.model.specs.Fences.{Spot, Earlier, InOrder}
use Rattle.model.specs.Guards.{guards, On, on_first, on_more}
use Rattle.model.specs.Theorems.{SomeListWorks}
use Rattle.model.proofs.Tools.{none_some, some_is, nth_below}
use Rattle.model.proofs.RunsUnderGuards.{on_inv, on_guards, on_left, on_right, on_either}
use Rattle.model.proofs.EnoughFences.{comes_at_once}
use Rattle.model.proofs.ByStates.{by_states}

abbrev spot : ℕ → ℕ → Spot
spot n k = record { thread = n; index = k }

-- every spot of a thread from its k-th on, and of threads from the n-th on
abbrev thread_spots : ℕ → ℕ → Thread → List Spot
thread_spots n k [] = []
thread_spots n k (i ∷ is) = spot n k ∷ thread_spots n (suc k) is

abbrev spots : ℕ → Prog → List Spot
spots n [] = []
spots n (t ∷ ts) = thread_spots n 0 t ++ spots (suc n) ts

-- each is of the thread, or of the program
abbrev InThread : ℕ → ℕ → Thread → Spot → Type 0
InThread n k t a = (a.thread ≡ n) × (k ≤ a.index) × (a.index < k + length t)

on_thread : (a : Spot) (n k : ℕ) (t : Thread) → On a (thread_spots n k t) → InThread n k t a
on_thread a n k [] h = absurd (on_inv h)
on_thread a n k (i ∷ is) h = elim (on_inv h) [ inl e ↦ first e | inr x ↦ later (on_thread a n (suc k) is x) ]
  where
    first : a ≡ spot n k → InThread n k (i ∷ is) a
    first e = let x : a.thread ≡ n = ap (λ (z : Spot). z.thread) e in let y : a.index ≡ k = ap (λ (z : Spot). z.index) e in (x, omega arith, omega arith)

    later : InThread n (suc k) is a → InThread n k (i ∷ is) a
    later (x, y, z) = (x, omega arith, omega arith)

abbrev InProg : ℕ → Prog → Spot → Type 0
InProg n p a = (m : ℕ) × (a.thread ≡ n + m) × (t : Thread) × (nth p m ≡ some t) × (a.index < length t)

on_spots : (a : Spot) (n : ℕ) (p : Prog) → On a (spots n p) → InProg n p a
on_spots a n [] h = absurd (on_inv h)
on_spots a n (t ∷ ts) h = elim (on_either (thread_spots n 0 t) (spots (suc n) ts) h) [ inl x ↦ here (on_thread a n 0 t x) | inr x ↦ there (on_spots a (suc n) ts x) ]
  where
    here : InThread n 0 t a → InProg n (t ∷ ts) a
    here (x, y, z) = (0, omega arith, t, refl, omega arith)

    there : InProg (suc n) ts a → InProg n (t ∷ ts) a
    there (m, x, u, e, y) = (suc m, omega arith, u, e, y)

-- and each of the program is there
thread_on : (n k j l : ℕ) (t : Thread) → l ≡ k + j → j < length t → On (spot n l) (thread_spots n k t)
thread_on n k j l [] e h = absurd (omega arith)
thread_on n k zero l (i ∷ is) e h = let q : l ≡ k = omega arith in subst (λ (z : ℕ). On (spot n z) (thread_spots n k (i ∷ is))) (sym q) on_first
thread_on n k (suc j) l (i ∷ is) e h = on_more (thread_on n (suc k) j l is (omega arith) (omega arith))

spots_on : (n m l k : ℕ) (p : Prog) (t : Thread) → l ≡ n + m → nth p m ≡ some t → k < length t → On (spot l k) (spots n p)
spots_on n m l k [] t e q h = absurd (none_some q)
spots_on n zero l k (u ∷ us) t e q h =
    let f : l ≡ n = omega arith in
    let long : k < length u = subst (λ (z : Thread). k < length z) (sym (some_is q)) h in
    on_left (thread_spots n 0 u) (spots (suc n) us) (subst (λ (z : ℕ). On (spot z k) (thread_spots n 0 u)) (sym f) (thread_on n 0 k k u (omega arith) long))
spots_on n (suc m) l k (u ∷ us) t e q h = on_right (thread_spots n 0 u) (spots (suc n) us) (spots_on (suc n) m l k us t (omega arith) q h)

-- they are in order
order_cons : (a : Spot) (ss : List Spot) → ((b : Spot) → On b ss → Earlier a b) → InOrder ss → InOrder (a ∷ ss)
order_cons a [] f h = tt
order_cons a (b ∷ ss) f h = (f b on_first, h)

thread_order : (n k : ℕ) (t : Thread) (ss : List Spot) → ((b : Spot) → On b ss → n < b.thread) → InOrder ss → InOrder (thread_spots n k t ++ ss)
thread_order n k [] ss f h = h
thread_order n k (i ∷ is) ss f h = order_cons (spot n k) (thread_spots n (suc k) is ++ ss) behind (thread_order n (suc k) is ss f h)
  where
    later : (b : Spot) → InThread n (suc k) is b → Earlier (spot n k) b
    later b (x, y, z) = inr (sym x, omega arith)

    behind : (b : Spot) → On b (thread_spots n (suc k) is ++ ss) → Earlier (spot n k) b
    behind b x = elim (on_either (thread_spots n (suc k) is) ss x) [ inl y ↦ later b (on_thread b n (suc k) is y) | inr y ↦ inl (f b y) ]

spots_order : (n : ℕ) (p : Prog) → InOrder (spots n p)
spots_order n [] = tt
spots_order n (t ∷ ts) = thread_order n 0 t (spots (suc n) ts) (λ b x. later b (on_spots b (suc n) ts x)) (spots_order (suc n) ts)
  where
    later : (b : Spot) → InProg (suc n) ts b → n < b.thread
    later b (m, x, u, e, y) = omega arith

placed : (p : Prog) (s : Spot) (a b : List Spot) → spots 0 p ≡ a ++ (s ∷ b) → (t : Thread) × (nth p s.thread ≡ some t) × (s.index < length t)
placed p s a b e =
    let (m, x, t, q, h) = on_spots s 0 p (subst (On s) (sym e) (on_right a (s ∷ b) on_first)) in
    let f : m ≡ s.thread = omega arith in
    (t, subst (λ (z : ℕ). nth p z ≡ some t) f q, h)

pub some_list_works : SomeListWorks
some_list_works p =
    (spots 0 p, (spots_order 0 p, placed p, (by_states (spots 0 p) p).1 (λ ms s. comes_at_once (guards (spots 0 p)) p (λ n k x r c i ec ek ei. inr (on_guards (spot n (suc k)) (spots 0 p) (spots_on 0 n n (suc k) p c (omega arith) ec (nth_below c (suc k) ei)))) s ms)))
