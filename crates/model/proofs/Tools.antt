-- What every proof here stands on: options and tests read backwards, lists place by place, and what one move says.
-- A simulation of one machine by another is always the same: memory is equal, and the threads are related place by
-- place (Each). So what a move changes is one place of that relation, and the rest of it is kept (each_put).
use mathlib.Core.Path.{◌≡◌, refl, sym, ap, ◌∙◌, subst}
use mathlib.Core.Logic.{◌⊎◌, inl, inr}
use mathlib.Core.Bool.{Bool, true, false, ◌&&◌}
use mathlib.Core.List.{List, [], ◌∷◌, ◌++◌}
use mathlib.Core.Option.{Option, some, none}
use Prim.Native.Nat.{ℕ, zero, suc, ◌+◌, ◌≤◌, ◌<◌}
use native.Mathlib.Omega.{arith}
use lib.ListN.{length, replicate}
use lib.Dec.{eqb, T, eqb→eq, eqb_refl}
use Rattle.model.specs.Code.{pick, opt, nth, put, I, sets, adds, loads, stores, fence, Thread, Prog}
use Rattle.model.specs.Machine.{Wait, At, St, Move, next, out, reg, done, does, instr, with_thread, flushed, move, moves, empty, starts, all_done, is_store, at_once, all_at_once}

-- Options and tests

pub none_some : {A : Type 0} {a : A} → none ≡ some a → ⊥
none_some e = let z : ◌≡◌ {A = ℕ} 0 1 = cc in omega arith

pub some_is : {A : Type 0} {a b : A} → some a ≡ some b → a ≡ b
some_is e = cc

pub false_true : false ≡ true → ⊥
false_true e = let z : ◌≡◌ {A = ℕ} 0 1 = cc in omega arith

pub nil_cons : {A : Type 0} {x : A} {xs : List A} → [] ≡ x ∷ xs → ⊥
nil_cons e = let z : ◌≡◌ {A = ℕ} 0 1 = cc in omega arith

-- a step that came to something had something to start from
pub opt_some : {A C : Type 0} (o : Option A) (f : A → Option C) {t : C} → opt o none f ≡ some t → (a : A) × (o ≡ some a) × (f a ≡ some t)
opt_some none f e = absurd (none_some e)
opt_some (some a) f e = (a, refl, e)

pub opt_is : {A C : Type 0} (o : Option A) (c : C) (f : A → C) {a : A} → o ≡ some a → opt o c f ≡ f a
opt_is o c f e = ap (λ (z : Option _). opt z c f) e

pub pick_some : {A : Type 0} (b : Bool) (o : Option A) {t : A} → pick b o none ≡ some t → (b ≡ true) × (o ≡ some t)
pick_some true o e = (refl, e)
pick_some false o e = absurd (none_some e)

pub true_T : (b : Bool) → b ≡ true → T b
true_T true e = tt
true_T false e = false_true e

pub T_true : (b : Bool) → T b → b ≡ true
T_true true t = refl
T_true false t = absurd t

pub eqb_is : (m n : ℕ) → eqb m n ≡ true → m ≡ n
eqb_is m n e = eqb→eq m n (true_T (eqb m n) e)

pub eqb_same : (n : ℕ) → eqb n n ≡ true
eqb_same n = T_true (eqb n n) (eqb_refl n)

pub and_both : (a b : Bool) → a && b ≡ true → (a ≡ true) × (b ≡ true)
and_both true true e = (refl, refl)
and_both true false e = absurd (false_true e)
and_both false true e = absurd (false_true e)
and_both false false e = absurd (false_true e)

-- two numbers are equal or not
pub same_or : (m n : ℕ) → (m ≡ n) ⊎ (m ≡ n → ⊥)
same_or zero zero = inl refl
same_or zero (suc n) = inr (λ e. omega arith)
same_or (suc m) zero = inr (λ e. omega arith)
same_or (suc m) (suc n) = elim (same_or m n) [ inl e ↦ inl (ap suc e) | inr d ↦ inr (λ e. d (omega arith)) ]

-- two numbers that differ fail the test
pub eqb_not : (m n : ℕ) → (m ≡ n → ⊥) → eqb m n ≡ false
eqb_not m n d = go (eqb m n) refl
  where
    go : (b : Bool) → eqb m n ≡ b → eqb m n ≡ false
    go true e = absurd (d (eqb_is m n e))
    go false e = e

-- Lists, place by place

module _ {A : Type 0} where
  pub nth_put_same : (xs : List A) (n : ℕ) (v : A) {x : A} → nth xs n ≡ some x → nth (put xs n v) n ≡ some v
  nth_put_same [] n v e = absurd (none_some e)
  nth_put_same (x ∷ xs) zero v e = refl
  nth_put_same (x ∷ xs) (suc n) v e = nth_put_same xs n v e

  -- past the end nothing is put
  pub nth_put_none : (xs : List A) (n : ℕ) (v : A) → nth xs n ≡ none → nth (put xs n v) n ≡ none
  nth_put_none [] n v e = refl
  nth_put_none (x ∷ xs) zero v e = absurd (none_some (sym e))
  nth_put_none (x ∷ xs) (suc n) v e = nth_put_none xs n v e

  pub nth_put_other : (xs : List A) (n m : ℕ) (v : A) → (n ≡ m → ⊥) → nth (put xs n v) m ≡ nth xs m
  nth_put_other [] n m v d = refl
  nth_put_other (x ∷ xs) zero zero v d = absurd (d refl)
  nth_put_other (x ∷ xs) zero (suc m) v d = refl
  nth_put_other (x ∷ xs) (suc n) zero v d = refl
  nth_put_other (x ∷ xs) (suc n) (suc m) v d = nth_put_other xs n m v (λ e. d (ap suc e))

  pub length_put : (xs : List A) (n : ℕ) (v : A) → length (put xs n v) ≡ length xs
  length_put [] n v = refl
  length_put (x ∷ xs) zero v = refl
  length_put (x ∷ xs) (suc n) v = ap suc (length_put xs n v)

  pub put_put : (xs : List A) (n : ℕ) (u v : A) → put (put xs n u) n v ≡ put xs n v
  put_put [] n u v = refl
  put_put (x ∷ xs) zero u v = refl
  put_put (x ∷ xs) (suc n) u v = ap {B = List A} (λ r. x ∷ r) (put_put xs n u v)

  pub put_other : (xs : List A) (n m : ℕ) (u v : A) → (n ≡ m → ⊥) → put (put xs n u) m v ≡ put (put xs m v) n u
  put_other [] n m u v d = refl
  put_other (x ∷ xs) zero zero u v d = absurd (d refl)
  put_other (x ∷ xs) zero (suc m) u v d = refl
  put_other (x ∷ xs) (suc n) zero u v d = refl
  put_other (x ∷ xs) (suc n) (suc m) u v d = ap {B = List A} (λ r. x ∷ r) (put_other xs n m u v (λ e. d (ap suc e)))

  -- what stands there already, put there, changes nothing
  pub put_same : (xs : List A) (n : ℕ) {x : A} → nth xs n ≡ some x → put xs n x ≡ xs
  put_same [] n e = refl
  put_same (y ∷ xs) zero e = ap {B = List A} (λ r. r ∷ xs) (sym (some_is e))
  put_same (y ∷ xs) (suc n) e = ap {B = List A} (λ r. y ∷ r) (put_same xs n e)

  -- a list has an n-th exactly if n is below its length
  pub nth_below : (xs : List A) (n : ℕ) {x : A} → nth xs n ≡ some x → n < length xs
  nth_below [] n e = absurd (none_some e)
  nth_below (y ∷ xs) zero e = omega arith
  nth_below (y ∷ xs) (suc n) e = let h = nth_below xs n e in omega arith

  pub below_nth : (xs : List A) (n : ℕ) → n < length xs → (x : A) × (nth xs n ≡ some x)
  below_nth [] n h = absurd (omega arith)
  below_nth (y ∷ xs) zero h = (y, refl)
  below_nth (y ∷ xs) (suc n) h = below_nth xs n (omega arith)

  pub nth_past : (xs : List A) (n : ℕ) → length xs ≤ n → nth xs n ≡ none
  nth_past [] n h = refl
  nth_past (y ∷ xs) zero h = absurd (omega arith)
  nth_past (y ∷ xs) (suc n) h = nth_past xs n (omega arith)

  pub past_nth : (xs : List A) (n : ℕ) → nth xs n ≡ none → length xs ≤ n
  past_nth [] n e = omega arith
  past_nth (y ∷ xs) zero e = absurd (none_some (sym e))
  past_nth (y ∷ xs) (suc n) e = let h = past_nth xs n e in omega arith

  -- the n-th of two lists one after the other
  pub nth_left : (xs ys : List A) (n : ℕ) → n < length xs → nth (xs ++ ys) n ≡ nth xs n
  nth_left [] ys n h = absurd (omega arith)
  nth_left (x ∷ xs) ys zero h = refl
  nth_left (x ∷ xs) ys (suc n) h = nth_left xs ys n (omega arith)

  pub nth_right : (xs ys : List A) (n k : ℕ) → n ≡ length xs + k → nth (xs ++ ys) n ≡ nth ys k
  nth_right [] ys n k e = ap (nth ys) (omega arith)
  nth_right (x ∷ xs) ys zero k e = absurd (omega arith)
  nth_right (x ∷ xs) ys (suc n) k e = nth_right xs ys n k (omega arith)

-- Two lists related place by place

module _ {A B : Type 0} where
  -- both hold nothing, or both hold something and these are related
  abbrev pub Opts : (A → B → Type 0) → Option A → Option B → Type 0
  Opts R none none = Unit {0}
  Opts R none (some b) = ⊥
  Opts R (some a) none = ⊥
  Opts R (some a) (some b) = R a b

  abbrev pub Each : (ℕ → A → B → Type 0) → List A → List B → Type 0
  Each R xs ys = (n : ℕ) → Opts (R n) (nth xs n) (nth ys n)

module _ {A B : Type 0} (R : ℕ → A → B → Type 0) where
  -- what stands at n on the one side has its like on the other
  pub each_at : (xs : List A) (ys : List B) (n : ℕ) {a : A} → Each R xs ys → nth xs n ≡ some a → (b : B) × (nth ys n ≡ some b) × R n a b
  each_at xs ys n {a} h e = go (nth ys n) refl
    where
      got : Opts (R n) (some a) (nth ys n)
      got = subst (λ (o : Option A). Opts (R n) o (nth ys n)) e (h n)

      go : (o : Option B) → nth ys n ≡ o → (b : B) × (nth ys n ≡ some b) × R n a b
      go none q = absurd (subst (λ (o : Option B). Opts (R n) (some a) o) q got)
      go (some b) q = (b, q, subst (λ (o : Option B). Opts (R n) (some a) o) q got)

  pub each_back : (xs : List A) (ys : List B) (n : ℕ) {b : B} → Each R xs ys → nth ys n ≡ some b → (a : A) × (nth xs n ≡ some a) × R n a b
  each_back xs ys n {b} h e = go (nth xs n) refl
    where
      got : Opts (R n) (nth xs n) (some b)
      got = subst (λ (o : Option B). Opts (R n) (nth xs n) o) e (h n)

      go : (o : Option A) → nth xs n ≡ o → (a : A) × (nth xs n ≡ some a) × R n a b
      go none q = absurd (subst (λ (o : Option A). Opts (R n) o (some b)) q got)
      go (some a) q = (a, q, subst (λ (o : Option A). Opts (R n) o (some b)) q got)

  -- what is known to stand at n on both sides is related
  pub each_both : (xs : List A) (ys : List B) (n : ℕ) {a : A} {b : B} → Each R xs ys → nth xs n ≡ some a → nth ys n ≡ some b → R n a b
  each_both xs ys n {a} {b} h e f = let (c, q, r) = each_at xs ys n h e in subst (λ (z : B). R n a z) (some_is (sym q ∙ f)) r

  -- a relation made at every place
  pub each_make : (xs : List A) (ys : List B) → length xs ≡ length ys → ((n : ℕ) (a : A) (b : B) → nth xs n ≡ some a → nth ys n ≡ some b → R n a b) → Each R xs ys
  each_make xs ys l f n = go (nth xs n) (nth ys n) refl refl
    where
      go : (o : Option A) (q : Option B) → nth xs n ≡ o → nth ys n ≡ q → Opts (R n) o q
      go none none e g = tt
      go none (some b) e g = let h = past_nth xs n e in let k = nth_below ys n g in absurd (omega arith)
      go (some a) none e g = let h = past_nth ys n g in let k = nth_below xs n e in absurd (omega arith)
      go (some a) (some b) e g = f n a b e g

  -- something else at n on both sides, related again
  pub each_put : (xs : List A) (ys : List B) (n : ℕ) (a : A) (b : B) → Each R xs ys → R n a b → Each R (put xs n a) (put ys n b)
  each_put xs ys n a b h r m = elim (same_or n m) [ inl e ↦ here m e | inr d ↦ there d ]
    where
      at_n : (o : Option A) (q : Option B) → nth xs n ≡ o → nth ys n ≡ q → Opts (R n) o q → Opts (R n) (nth (put xs n a) n) (nth (put ys n b) n)
      at_n none none e f g = subst (λ (z : Option A). Opts (R n) z (nth (put ys n b) n)) (sym (nth_put_none xs n a e)) (subst (λ (z : Option B). Opts (R n) none z) (sym (nth_put_none ys n b f)) tt)
      at_n none (some y) e f g = absurd g
      at_n (some x) none e f g = absurd g
      at_n (some x) (some y) e f g = subst (λ (z : Option A). Opts (R n) z (nth (put ys n b) n)) (sym (nth_put_same xs n a e)) (subst (λ (z : Option B). Opts (R n) (some a) z) (sym (nth_put_same ys n b f)) r)

      here : (k : ℕ) → n ≡ k → Opts (R k) (nth (put xs n a) k) (nth (put ys n b) k)
      here k e = subst (λ (z : ℕ). Opts (R z) (nth (put xs n a) z) (nth (put ys n b) z)) e (at_n (nth xs n) (nth ys n) refl refl (h n))

      there : (n ≡ m → ⊥) → Opts (R m) (nth (put xs n a) m) (nth (put ys n b) m)
      there d = subst (λ (z : Option A). Opts (R m) z (nth (put ys n b) m)) (sym (nth_put_other xs n m a d)) (subst (λ (z : Option B). Opts (R m) (nth xs m) z) (sym (nth_put_other ys n m b d)) (h m))

  -- a step on one side only
  pub each_left : (xs : List A) (ys : List B) (n : ℕ) (a : A) {b : B} → Each R xs ys → nth ys n ≡ some b → R n a b → Each R (put xs n a) ys
  each_left xs ys n a {b} h e r = subst (λ (z : List B). Each R (put xs n a) z) (put_same ys n e) (each_put xs ys n a b h r)

  pub each_right : (xs : List A) (ys : List B) (n : ℕ) {a : A} (b : B) → Each R xs ys → nth xs n ≡ some a → R n a b → Each R xs (put ys n b)
  each_right xs ys n {a} b h e r = subst (λ (z : List A). Each R z (put ys n b)) (put_same xs n e) (each_put xs ys n a b h r)

  -- a weaker relation
  pub each_map : (S : ℕ → A → B → Type 0) (xs : List A) (ys : List B) → ((n : ℕ) (a : A) (b : B) → R n a b → S n a b) → Each R xs ys → Each S xs ys
  each_map S xs ys f h n = go (nth xs n) (nth ys n) (h n)
    where
      go : (o : Option A) (q : Option B) → Opts (R n) o q → Opts (S n) o q
      go none none g = tt
      go none (some b) g = absurd g
      go (some a) none g = absurd g
      go (some a) (some b) g = f n a b g

pub each_length : {A B : Type 0} (R : ℕ → A → B → Type 0) (xs : List A) (ys : List B) → Each R xs ys → length xs ≡ length ys
each_length R [] [] h = refl
each_length R [] (y ∷ ys) h = absurd (h 0)
each_length R (x ∷ xs) [] h = absurd (h 0)
each_length R (x ∷ xs) (y ∷ ys) h = ap suc (each_length (λ n. R (suc n)) xs ys (λ n. h (suc n)))

-- lists that are equal at every place are equal
pub each_same : {A : Type 0} (xs ys : List A) → Each (λ n a b. a ≡ b) xs ys → xs ≡ ys
each_same [] [] h = refl
each_same [] (y ∷ ys) h = absurd (h 0)
each_same (x ∷ xs) [] h = absurd (h 0)
each_same (x ∷ xs) (y ∷ ys) h = let e : x ≡ y = h 0 in let es = each_same xs ys (λ n. h (suc n)) in cc

-- What one move says

-- thread n did its next instruction
pub record Next (p : Prog) (s : St) (n : ℕ) (t : St) : Type 0 where
  pub was : At
  pub stands : nth s.threads n ≡ some was
  pub code : Thread
  pub of : nth p n ≡ some code
  pub i : I
  pub at : nth code was.pc ≡ some i
  pub now : At
  pub did : does s.mem was i ≡ some now
  pub gives : t ≡ with_thread s n now

-- a thread with its oldest waiting store gone
abbrev pub rest_of : At → List Wait → At
rest_of a ws = record { pc = a.pc; regs = a.regs; waits = ws }

-- a state after the store w of thread n went to memory, and left the thread as a says
abbrev pub gone : St → ℕ → Wait → At → St
gone s n w a = record { mem = put s.mem w.place w.val; threads = put s.threads n a }

-- the oldest store of thread n went to memory
pub record Out (s : St) (n : ℕ) (t : St) : Type 0 where
  pub was : At
  pub stands : nth s.threads n ≡ some was
  pub w : Wait
  pub ws : List Wait
  pub line : was.waits ≡ w ∷ ws
  pub gives : t ≡ gone s n w (rest_of was ws)

pub instr_is : (p : Prog) (n : ℕ) (a : At) {c : Thread} {i : I} → nth p n ≡ some c → nth c a.pc ≡ some i → instr p n a ≡ some i
instr_is p n a e f = opt_is (nth p n) none _ e ∙ f

pub next_of : (p : Prog) (s : St) (n : ℕ) (t : St) → move p s (next n) ≡ some t → Next p s n t
next_of p s n t e =
    let (a, ea, e1) = opt_some (nth s.threads n) _ e in
    let (i, ei, e2) = opt_some (instr p n a) _ e1 in
    let (b, eb, e3) = opt_some (does s.mem a i) _ e2 in
    let (c, ec, e4) = opt_some (nth p n) _ ei in
    record { was = a; stands = ea; code = c; of = ec; i = i; at = e4; now = b; did = eb; gives = sym (some_is e3) }

pub of_next : (p : Prog) (s : St) (n : ℕ) (t : St) → Next p s n t → move p s (next n) ≡ some t
of_next p s n t x =
    opt_is (nth s.threads n) none _ x.stands ∙ (opt_is (instr p n x.was) none _ (instr_is p n x.was x.of x.at) ∙ (opt_is (does s.mem x.was x.i) none _ x.did ∙ ap some (sym x.gives)))

flushed_of : (s : St) (n : ℕ) (a : At) (ws : List Wait) (t : St) → flushed s n a ws ≡ some t → (w : Wait) × (vs : List Wait) × (ws ≡ w ∷ vs) × (t ≡ gone s n w (rest_of a vs))
flushed_of s n a [] t e = absurd (none_some e)
flushed_of s n a (w ∷ ws) t e = (w, ws, refl, sym (some_is e))

pub out_of : (p : Prog) (s : St) (n : ℕ) (t : St) → move p s (out n) ≡ some t → Out s n t
out_of p s n t e =
    let (a, ea, e1) = opt_some (nth s.threads n) _ e in
    let (w, ws, ew, e2) = flushed_of s n a a.waits t e1 in
    record { was = a; stands = ea; w = w; ws = ws; line = ew; gives = e2 }

pub of_out : (p : Prog) (s : St) (n : ℕ) (t : St) → Out s n t → move p s (out n) ≡ some t
of_out p s n t x =
    opt_is (nth s.threads n) none _ x.stands ∙ (ap (flushed s n x.was) x.line ∙ ap some (sym x.gives))

-- after the instruction i the machine at once goes on from m to t: a store goes out, anything else is all
abbrev pub Ends : I → St → ℕ → St → Type 0
Ends i m n t = ((is_store i ≡ true) × Out m n t) ⊎ ((is_store i ≡ false) × (t ≡ m))

-- thread n did its next instruction, and if that was a store it went to memory
pub record Once (p : Prog) (s : St) (n : ℕ) (t : St) : Type 0 where
  pub mid : St
  pub first : Next p s n mid
  pub then : Ends first.i mid n t

pub once_of : (p : Prog) (s : St) (n : ℕ) (t : St) → at_once p s n ≡ some t → Once p s n t
once_of p s n t e =
    let (a, ea, e1) = opt_some (nth s.threads n) _ e in
    let (i, ei, e2) = opt_some (instr p n a) _ e1 in
    let (m, em, e3) = opt_some (move p s (next n)) _ e2 in
    let x = next_of p s n m em in
    let same : x.was ≡ a = some_is (sym x.stands ∙ ea) in
    let same_i : x.i ≡ i = some_is (sym (instr_is p n x.was x.of x.at) ∙ (ap (instr p n) same ∙ ei)) in
    record { mid = m; first = x; then = go x.i m (is_store x.i) refl (ap (λ (z : I). pick (is_store z) (move p m (out n)) (some m)) same_i ∙ e3) }
  where
    go : (i : I) (m : St) (b : Bool) → is_store i ≡ b → pick (is_store i) (move p m (out n)) (some m) ≡ some t → Ends i m n t
    go i m true q f = inl (q, out_of p m n t (sym (ap (λ (z : Bool). pick z (move p m (out n)) (some m)) q) ∙ f))
    go i m false q f = inr (q, sym (some_is (sym (ap (λ (z : Bool). pick z (move p m (out n)) (some m)) q) ∙ f)))

pub of_once : (p : Prog) (s : St) (n : ℕ) (t : St) → Once p s n t → at_once p s n ≡ some t
of_once p s n t x =
    let f = x.first in
    opt_is (nth s.threads n) none _ f.stands ∙ (opt_is (instr p n f.was) none _ (instr_is p n f.was f.of f.at) ∙ (opt_is (move p s (next n)) none _ (of_next p s n x.mid f) ∙ go x.then))
  where
    go : Ends x.first.i x.mid n t → pick (is_store x.first.i) (move p x.mid (out n)) (some x.mid) ≡ some t
    go (inl (q, o)) = ap (λ (z : Bool). pick z (move p x.mid (out n)) (some x.mid)) q ∙ of_out p x.mid n t o
    go (inr (q, e)) = ap (λ (z : Bool). pick z (move p x.mid (out n)) (some x.mid)) q ∙ ap some (sym e)

-- an instruction is a store, or it isn't
pub store_or : (i : I) → ((x : ℕ) × (r : ℕ) × (i ≡ stores x r)) ⊎ (is_store i ≡ false)
store_or (sets r n) = inr refl
store_or (adds r x y) = inr refl
store_or (loads r x) = inr refl
store_or (stores x r) = inl (x, r, refl)
store_or fence = inr refl

-- only a store changes what waits
pub does_waits : (m : List ℕ) (a b : At) (i : I) → is_store i ≡ false → does m a i ≡ some b → b.waits ≡ a.waits
does_waits m a b (sets r n) h e = ap (λ (z : At). z.waits) (sym (some_is e))
does_waits m a b (adds r x y) h e = ap (λ (z : At). z.waits) (sym (some_is e))
does_waits m a b (loads r x) h e = ap (λ (z : At). z.waits) (sym (some_is e))
does_waits m a b (stores x r) h e = absurd (false_true (sym h))
does_waits m a b fence h e = let (q, f) = pick_some (empty a.waits) _ e in ap (λ (z : At). z.waits) (sym (some_is f))

pub does_pc : (m : List ℕ) (a b : At) (i : I) → does m a i ≡ some b → b.pc ≡ suc a.pc
does_pc m a b (sets r n) e = ap (λ (z : At). z.pc) (sym (some_is e))
does_pc m a b (adds r x y) e = ap (λ (z : At). z.pc) (sym (some_is e))
does_pc m a b (loads r x) e = ap (λ (z : At). z.pc) (sym (some_is e))
does_pc m a b (stores x r) e = ap (λ (z : At). z.pc) (sym (some_is e))
does_pc m a b fence e = let (q, f) = pick_some (empty a.waits) _ e in ap (λ (z : At). z.pc) (sym (some_is f))

-- a step at once that is no store, and one that is
pub once_plain : (p : Prog) (s : St) (n : ℕ) (a b : At) (c : Thread) (i : I) → nth s.threads n ≡ some a → nth p n ≡ some c → nth c a.pc ≡ some i → is_store i ≡ false → does s.mem a i ≡ some b → at_once p s n ≡ some (with_thread s n b)
once_plain p s n a b c i ea ec ei h e =
    of_once p s n (with_thread s n b) (record { mid = with_thread s n b; first = record { was = a; stands = ea; code = c; of = ec; i = i; at = ei; now = b; did = e; gives = refl }; then = inr (h, refl) })

abbrev pub stored : At → ℕ → ℕ → Wait
stored a x r = record { place = x; val = reg a r }

pub once_store : (p : Prog) (s : St) (n : ℕ) (a : At) (c : Thread) (x r : ℕ) → nth s.threads n ≡ some a → nth p n ≡ some c → nth c a.pc ≡ some (stores x r) → a.waits ≡ [] → at_once p s n ≡ some (gone s n (stored a x r) (done a a.regs []))
once_store p s n a c x r ea ec ei h =
    let b = done a a.regs (a.waits ++ (stored a x r ∷ [])) in
    let t = gone s n (stored a x r) (done a a.regs []) in
    let u = with_thread s n b in
    let end : t ≡ gone u n (stored a x r) (done a a.regs []) = ap (λ (z : List At). record { mem = put s.mem x (reg a r); threads = z }) (sym (put_put s.threads n b (done a a.regs []))) in
    of_once p s n t (record { mid = u; first = record { was = a; stands = ea; code = c; of = ec; i = stores x r; at = ei; now = b; did = refl; gives = refl }; then = inl (refl, record { was = b; stands = nth_put_same s.threads n b ea; w = stored a x r; ws = []; line = ap (λ (z : List Wait). z ++ (stored a x r ∷ [])) h; gives = end }) })

-- Runs one after the other

pub moves_then : (p : Prog) (s t u : St) (ms ns : List Move) → moves p s ms ≡ some t → moves p t ns ≡ some u → moves p s (ms ++ ns) ≡ some u
moves_then p s t u [] ns e f = subst (λ (z : St). moves p z ns ≡ some u) (sym (some_is e)) f
moves_then p s t u (m ∷ ms) ns e f =
    let (v, ev, e1) = opt_some (move p s m) _ e in
    opt_is (move p s m) none _ ev ∙ moves_then p v t u ms ns e1 f

pub all_then : (p : Prog) (s t u : St) (ms ns : List ℕ) → all_at_once p s ms ≡ some t → all_at_once p t ns ≡ some u → all_at_once p s (ms ++ ns) ≡ some u
all_then p s t u [] ns e f = subst (λ (z : St). all_at_once p z ns ≡ some u) (sym (some_is e)) f
all_then p s t u (m ∷ ms) ns e f =
    let (v, ev, e1) = opt_some (at_once p s m) _ e in
    opt_is (at_once p s m) none _ ev ∙ all_then p v t u ms ns e1 f

-- what every move keeps, a run keeps
pub moves_keep : (P : St → Type 0) (p : Prog) → ((s t : St) (m : Move) → P s → move p s m ≡ some t → P t) → (s t : St) (ms : List Move) → P s → moves p s ms ≡ some t → P t
moves_keep P p f s t [] h e = subst P (some_is e) h
moves_keep P p f s t (m ∷ ms) h e =
    let (u, eu, e1) = opt_some (move p s m) _ e in
    moves_keep P p f u t ms (f s u m h eu) e1

-- a thread before its first instruction
abbrev pub fresh : At
fresh = record { pc = 0; regs = replicate 4 0; waits = [] }

pub starts_each : (R : ℕ → Thread → At → Type 0) (p : Prog) → ((n : ℕ) (c : Thread) → nth p n ≡ some c → R n c fresh) → Each R p (starts p)
starts_each R [] f n = tt
starts_each R (t ∷ ts) f zero = f 0 t refl
starts_each R (t ∷ ts) f (suc n) = starts_each (λ k. R (suc k)) ts (λ k. f (suc k)) n

pub starts_fresh : (p : Prog) (n : ℕ) {a : At} → nth (starts p) n ≡ some a → a ≡ fresh
starts_fresh [] n e = absurd (none_some e)
starts_fresh (t ∷ ts) zero e = sym (some_is e)
starts_fresh (t ∷ ts) (suc n) e = starts_fresh ts n e

pub starts_length : (p : Prog) → length (starts p) ≡ length p
starts_length [] = refl
starts_length (t ∷ ts) = ap suc (starts_length ts)

-- Finished, place by place

pub empty_is : (ws : List Wait) → empty ws ≡ true → ws ≡ []
empty_is [] e = refl
empty_is (w ∷ ws) e = absurd (false_true e)

-- the thread stands at the end of its code, and nothing of it waits
abbrev pub Ended : Thread → At → Type 0
Ended c a = (a.pc ≡ length c) × (a.waits ≡ [])

pub done_at : (p : Prog) (as₁ : List At) (n : ℕ) {c : Thread} → all_done p as₁ ≡ true → nth p n ≡ some c → (a : At) × (nth as₁ n ≡ some a) × Ended c a
done_at [] as₁ n d e = absurd (none_some e)
done_at (t ∷ ts) [] n d e = absurd (false_true d)
done_at (t ∷ ts) (a ∷ as₁) zero d e =
    let (d1, d2) = and_both (eqb a.pc (length t)) _ d in
    let (d3, d4) = and_both (empty a.waits) _ d2 in
    (a, refl, (eqb_is a.pc (length t) d1 ∙ ap length (some_is e), empty_is a.waits d3))
done_at (t ∷ ts) (a ∷ as₁) (suc n) d e =
    let (d1, d2) = and_both (eqb a.pc (length t)) _ d in
    let (d3, d4) = and_both (empty a.waits) _ d2 in
    done_at ts as₁ n d4 e

pub at_done : (p : Prog) (as₁ : List At) → ((n : ℕ) (c : Thread) → nth p n ≡ some c → (a : At) × (nth as₁ n ≡ some a) × Ended c a) → all_done p as₁ ≡ true
at_done [] as₁ f = refl
at_done (t ∷ ts) [] f = let (a, e, q) = f 0 t refl in absurd (none_some e)
at_done (t ∷ ts) (a ∷ as₁) f =
    let (b, e, q) = f 0 t refl in
    let same : a ≡ b = some_is e in
    let pc : eqb a.pc (length t) ≡ true = ap (λ (z : ℕ). eqb z (length t)) (ap (λ (z : At). z.pc) same ∙ q.0) ∙ eqb_same (length t) in
    let row : empty a.waits ≡ true = ap empty (ap (λ (z : At). z.waits) same ∙ q.1) in
    let tail : all_done ts as₁ ≡ true = at_done ts as₁ (λ n. f (suc n)) in
    rw (pc, row, tail)
