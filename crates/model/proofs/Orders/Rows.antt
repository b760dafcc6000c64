-- One thread: the stores of its row as events, and behind these the events of the instructions that it has still to do.
-- An instruction that is no load moves nothing: a store goes from the one part to the other, and what is to come is the
-- same list (quiet). A load takes its read out of the list, and passes the row (load).
use mathlib.Core.Path.{◌≡◌, refl, sym, ◌∙◌, ap, subst}
use mathlib.Core.Logic.{inl, inr}
use mathlib.Core.Bool.{Bool, true, false, ◌&&◌}
use mathlib.Core.List.{List, [], ◌∷◌, ◌++◌, append_assoc}
use mathlib.Core.Option.{some}
use Prim.Native.Nat.{ℕ, zero, suc, ◌+◌, ◌%◌, ◌≤◌, ◌<◌}
use native.Mathlib.Omega.{arith}
use lib.ListN.{length, drop}
use lib.Seq.{drop-length}
use lib.Dec.{T, ltb, ltb→lt}
use Rattle.model.specs.Code.{nth, put, I, sets, adds, loads, stores, fence, Thread, ok_i, ok_t}
use Rattle.model.specs.Machine.{Wait, At, reg, done, empty, does}
use Rattle.model.specs.Orders.{Ev, Alone, at, with_ev, alone, Fenced, In, more, Before}
use Rattle.model.proofs.Tools.{none_some, some_is, false_true, pick_some, same_or, nth_below, empty_is, nil_cons}
use Rattle.model.proofs.Orders.Events.{within, ahead, in_or}
use Rattle.model.proofs.Orders.Going.{wait, waits_of}

-- the rest of thread n, with the code t, that stands as a says and will read vs
abbrev pub rest : ℕ → Thread → At → List ℕ → Alone
rest n t a vs = alone n a.pc (drop a.pc t) a.regs vs

-- the events of a load and of a store
abbrev pub read_ev : ℕ → At → ℕ → ℕ → Ev
read_ev n a x v = record { thread = n; index = a.pc; place = x; val = v; write = false }

abbrev pub write_ev : ℕ → At → ℕ → ℕ → Ev
write_ev n a x v = record { thread = n; index = a.pc; place = x; val = v; write = true }

-- a row once thread n has done the instruction
abbrev pub row_after : ℕ → At → I → List Ev → List Ev
row_after n a (sets r c) ws = ws
row_after n a (adds r p q) ws = ws
row_after n a (loads r x) ws = ws
row_after n a (stores x r) ws = ws ++ (write_ev n a x (reg a r) ∷ [])
row_after n a fence ws = ws

abbrev pub is_load : I → Bool
is_load (sets r c) = false
is_load (adds r p q) = false
is_load (loads r x) = true
is_load (stores x r) = false
is_load fence = false

-- what a load reads, and what is left to read
abbrev pub head_or : List ℕ → ℕ
head_or [] = 0
head_or (v ∷ vs) = v

abbrev pub tail_of : List ℕ → List ℕ
tail_of [] = []
tail_of (v ∷ vs) = vs

-- the events ws are the row of a thread with the code t that stands as a says: each is a write that is done, with no
-- fence done since
pub record Row (t : Thread) (a : At) (ws : List Ev) : Type 0 where
  pub inside : a.pc ≤ length t
  pub line : a.waits ≡ waits_of ws
  pub held : (e : Ev) → In e ws → (e.write ≡ true) × (e.index < a.pc) × (Fenced t e.index a.pc → ⊥)

drop_nth : {A : Type 0} (xs : List A) (k : ℕ) {x : A} → nth xs k ≡ some x → drop k xs ≡ x ∷ drop (suc k) xs
drop_nth [] k q = absurd (none_some q)
drop_nth {A} (y ∷ xs) zero q = ap {B = List A} (λ z. z ∷ xs) (some_is q)
drop_nth (y ∷ xs) (suc k) q = drop_nth xs k q

waits_none : (ws : List Ev) → waits_of ws ≡ [] → ws ≡ []
waits_none [] q = refl
waits_none (e ∷ ws) q = absurd (nil_cons (sym q))

waits_cons : (es : List Ev) (w : Wait) (ws : List Wait) → waits_of es ≡ w ∷ ws → (e : Ev) × (us : List Ev) × (es ≡ e ∷ us) × (w ≡ wait e) × (ws ≡ waits_of us)
waits_cons [] w ws q = absurd (nil_cons q)
waits_cons (e ∷ es) w ws q = (e, es, refl, cc, cc)

waits_add : (ws : List Ev) (e : Ev) → waits_of (ws ++ (e ∷ [])) ≡ waits_of ws ++ (wait e ∷ [])
waits_add [] e = refl
waits_add (w ∷ ws) e = ap {B = List Wait} (λ z. wait w ∷ z) (waits_add ws e)

-- an instruction done: the row of the thread after it
module _ (n : ℕ) (t : Thread) (a : At) (ws : List Ev) (row : Row t a ws) where
  -- one more instruction that is no fence leaves the row without a fence done since
  still_held : {i : I} → nth t a.pc ≡ some i → (i ≡ fence → ⊥) → (e : Ev) → In e ws → (e.write ≡ true) × (e.index < suc a.pc) × (Fenced t e.index (suc a.pc) → ⊥)
  still_held {i} q d e j =
      let (w, l, f) = row.held e j in (
        w,
        omega arith,
        λ (k, l1, l2, g). elim (same_or k a.pc) [
          | inl z ↦ d (some_is (sym q ∙ (ap (nth t) (sym z) ∙ g)))
          | inr z ↦ f (k, l1, omega arith, g)
        ],
      )

  same_row : {i : I} (rs : List ℕ) → nth t a.pc ≡ some i → (i ≡ fence → ⊥) → Row t (done a rs a.waits) ws
  same_row rs q d = record { inside = nth_below t a.pc q; line = row.line; held = still_held q d }

  more_row : (x r : ℕ) → nth t a.pc ≡ some (stores x r) → Row t (done a a.regs (a.waits ++ (record { place = x; val = reg a r } ∷ []))) (row_after n a (stores x r) ws)
  more_row x r q = record {
    inside = nth_below t a.pc q;
    line = ap (λ (z : List Wait). z ++ (record { place = x; val = reg a r } ∷ [])) row.line ∙ sym (waits_add ws (write_ev n a x (reg a r)));
    held = λ e i. elim (in_or ws (write_ev n a x (reg a r) ∷ []) i) [
      | inl j ↦ still_held q (λ z. let c : ◌≡◌ {A = ℕ} 0 1 = cc in omega arith) e j
      | inr j ↦ elim (within j) [
        | inl z ↦ let index = ap (λ (y : Ev). y.index) z in (ap (λ (y : Ev). y.write) z, omega arith, λ (k, l1, l2, g). omega arith)
        | inr h ↦ absurd (within h)
      ]
    ];
  }

  pub row_none : a.waits ≡ [] → ws ≡ []
  row_none z = waits_none ws (sym row.line ∙ z)

  no_row : nth t a.pc ≡ some fence → a.waits ≡ [] → Row t (done a a.regs a.waits) ws
  no_row q z =
      record { inside = nth_below t a.pc q; line = row.line; held = λ e i. absurd (within (subst (λ (y : List Ev). In e y) (row_none z) i)) }

  pub row_step : (m : List ℕ) (i : I) (b : At) → nth t a.pc ≡ some i → does m a i ≡ some b → Row t b (row_after n a i ws)
  row_step m (sets r c) b q e = subst (λ (z : At). Row t z ws) (some_is e) (same_row (put a.regs r c) q (λ z. let y : ◌≡◌ {A = ℕ} 0 1 = cc in omega arith))
  row_step m (adds r x y) b q e = subst (λ (z : At). Row t z ws) (some_is e) (same_row _ q (λ z. let y : ◌≡◌ {A = ℕ} 0 1 = cc in omega arith))
  row_step m (loads r x) b q e = subst (λ (z : At). Row t z ws) (some_is e) (same_row _ q (λ z. let y : ◌≡◌ {A = ℕ} 0 1 = cc in omega arith))
  row_step m (stores x r) b q e = subst (λ (z : At). Row t z (row_after n a (stores x r) ws)) (some_is e) (more_row x r q)
  row_step m fence b q e =
      let (z, y) = pick_some (empty a.waits) (some (done a a.regs a.waits)) e in
      subst (λ (z : At). Row t z ws) (some_is y) (no_row q (empty_is a.waits z))

  -- the oldest store, and the row with it gone
  pub row_cons : (w : Wait) (vs : List Wait) → a.waits ≡ w ∷ vs → (e : Ev) × (us : List Ev) × (ws ≡ e ∷ us) × (w ≡ wait e) × (vs ≡ waits_of us)
  row_cons w vs q = waits_cons ws w vs (sym row.line ∙ q)

  pub row_less : (e : Ev) (us : List Ev) → ws ≡ e ∷ us → Row t (record { pc = a.pc; regs = a.regs; waits = waits_of us }) us
  row_less e us q = record {
    inside = row.inside;
    line = refl;
    held = λ x i. row.held x (subst (λ (y : List Ev). In x y) (sym q) (more i));
  }

-- an instruction done: what is to come
module _ (n : ℕ) (t : Thread) (a : At) where
  -- what is to come where the instruction i is next
  abbrev from_i : I → List ℕ → Alone
  from_i i vs = alone n a.pc (i ∷ drop (suc a.pc) t) a.regs vs

  rest_is : (i : I) (vs : List ℕ) → nth t a.pc ≡ some i → rest n t a vs ≡ from_i i vs
  rest_is i vs q = ap (λ (z : Thread). alone n a.pc z a.regs vs) (drop_nth t a.pc q)

  -- no load: the registers at the end are the same, and the events, with the row before them
  abbrev pub Quiet : I → List Ev → List ℕ → At → Alone → Type 0
  Quiet i ws vs b c = (ws ++ c.evs ≡ row_after n a i ws ++ (rest n t b vs).evs) × (c.regs ≡ (rest n t b vs).regs)

  quiet_i : (m : List ℕ) (i : I) (b : At) (ws : List Ev) (vs : List ℕ) → is_load i ≡ false → does m a i ≡ some b → Quiet i ws vs b (from_i i vs)
  quiet_i m (sets r c) b ws vs l e = subst (λ (z : At). Quiet (sets r c) ws vs z (from_i (sets r c) vs)) (some_is e) (refl, refl)
  quiet_i m (adds r x y) b ws vs l e = subst (λ (z : At). Quiet (adds r x y) ws vs z (from_i (adds r x y) vs)) (some_is e) (refl, refl)
  quiet_i m (loads r x) b ws vs l e = absurd (false_true (sym l))
  quiet_i m (stores x r) b ws vs l e =
      let w = write_ev n a x (reg a r) in
      subst (λ (z : At). Quiet (stores x r) ws vs z (from_i (stores x r) vs)) (some_is e) (sym (append_assoc ws (w ∷ []) (alone n (suc a.pc) (drop (suc a.pc) t) a.regs vs).evs), refl)
  quiet_i m fence b ws vs l e =
      let (z, y) = pick_some (empty a.waits) (some (done a a.regs a.waits)) e in
      subst (λ (z : At). Quiet fence ws vs z (from_i fence vs)) (some_is y) (refl, refl)

  pub quiet : (m : List ℕ) (i : I) (b : At) (ws : List Ev) (vs : List ℕ) → is_load i ≡ false → nth t a.pc ≡ some i → does m a i ≡ some b → Quiet i ws vs b (rest n t a vs)
  quiet m i b ws vs l q e = subst (λ (z : Alone). Quiet i ws vs b z) (sym (rest_is i vs q)) (quiet_i m i b ws vs l e)

  -- a load: its read, and then what is to come after it
  pub load_rest : (r x : ℕ) (vs : List ℕ) → nth t a.pc ≡ some (loads r x) → rest n t a vs ≡ with_ev (read_ev n a x (head_or vs)) (rest n t (done a (put a.regs r (head_or vs)) a.waits) (tail_of vs))
  load_rest r x vs q = rest_is (loads r x) vs q ∙ go vs
    where
      go : (us : List ℕ) → alone n a.pc (loads r x ∷ drop (suc a.pc) t) a.regs us ≡ with_ev (read_ev n a x (head_or us)) (rest n t (done a (put a.regs r (head_or us)) a.waits) (tail_of us))
      go [] = refl
      go (u ∷ us) = refl

  -- a fence: what is to come after it
  pub fence_rest : (vs : List ℕ) → nth t a.pc ≡ some fence → rest n t a vs ≡ rest n t (done a a.regs a.waits) vs
  fence_rest vs q = rest_is fence vs q

  -- at the end nothing is to come
  pub end_rest : (vs : List ℕ) → a.pc ≡ length t → rest n t a vs ≡ record { regs = a.regs; evs = []; left = vs }
  end_rest vs q = ap (λ (z : Thread). alone n a.pc z a.regs vs) (ap (λ (z : ℕ). drop z t) q ∙ drop-length t)

-- the events of a thread: of thread n, from k on, in the order of their instructions, and with places below 8
abbrev pub Fits : ℕ → ℕ → Thread → Ev → Type 0
Fits n k t e = (e.thread ≡ n) × (k ≤ e.index) × (T (ok_t t) → e.place < 8)

pub T_and : (a b : Bool) → T (a && b) → T a × T b
T_and true true h = (tt, tt)
T_and true false h = absurd h
T_and false true h = absurd h
T_and false false h = absurd h

fits_later : (n k : ℕ) (i : I) (t : Thread) (e : Ev) → Fits n (suc k) t e → Fits n k (i ∷ t) e
fits_later n k i t e (a, b, c) = (a, omega arith, λ o. c (T_and (ok_i i) (ok_t t) o).1)

fits_or : (n k : ℕ) (i : I) (t : Thread) (e a : Ev) (es : List Ev) → Fits n k (i ∷ t) a → (In e es → Fits n (suc k) t e) → In e (a ∷ es) → Fits n k (i ∷ t) e
fits_or n k i t e a es f g j = elim (within j) [ inl q ↦ subst (λ (z : Ev). Fits n k (i ∷ t) z) (sym q) f | inr h ↦ fits_later n k i t e (g h) ]

load_place : (r x : ℕ) (t : Thread) → T (ok_t (loads r x ∷ t)) → x < 8
load_place r x t o = ltb→lt x 8 (T_and (ltb r 4) (ltb x 8) (T_and (ok_i (loads r x)) (ok_t t) o).0).1

store_place : (x r : ℕ) (t : Thread) → T (ok_t (stores x r ∷ t)) → x < 8
store_place x r t o = ltb→lt x 8 (T_and (ltb x 8) (ltb r 4) (T_and (ok_i (stores x r)) (ok_t t) o).0).0

pub alone_fits : (n k : ℕ) (t : Thread) (rs vs : List ℕ) (e : Ev) → In e (alone n k t rs vs).evs → Fits n k t e
alone_fits n k [] rs vs e i = absurd (within i)
alone_fits n k (sets r c ∷ t) rs vs e i = fits_later n k (sets r c) t e (alone_fits n (suc k) t (put rs r c) vs e i)
alone_fits n k (adds r x y ∷ t) rs vs e i = fits_later n k (adds r x y) t e (alone_fits n (suc k) t (put rs r ((at rs x + at rs y) % 16)) vs e i)
alone_fits n k (loads r x ∷ t) rs [] e i =
    fits_or n k (loads r x) t e (record { thread = n; index = k; place = x; val = 0; write = false }) (alone n (suc k) t (put rs r 0) []).evs (refl, omega arith, load_place r x t) (alone_fits n (suc k) t (put rs r 0) [] e) i
alone_fits n k (loads r x ∷ t) rs (v ∷ vs) e i =
    fits_or n k (loads r x) t e (record { thread = n; index = k; place = x; val = v; write = false }) (alone n (suc k) t (put rs r v) vs).evs (refl, omega arith, load_place r x t) (alone_fits n (suc k) t (put rs r v) vs e) i
alone_fits n k (stores x r ∷ t) rs vs e i =
    fits_or n k (stores x r) t e (record { thread = n; index = k; place = x; val = at rs r; write = true }) (alone n (suc k) t rs vs).evs (refl, omega arith, store_place x r t) (alone_fits n (suc k) t rs vs e) i
alone_fits n k (fence ∷ t) rs vs e i = fits_later n k fence t e (alone_fits n (suc k) t rs vs e i)

-- a first event, at k, before events from k + 1 on
sorted_or : (n k : ℕ) (t : Thread) (rs vs : List ℕ) (a b e : Ev) → e.index ≡ k → (Before a b (alone n (suc k) t rs vs).evs → a.index < b.index) → Before a b (e ∷ (alone n (suc k) t rs vs).evs) → a.index < b.index
sorted_or n k t rs vs a b e q f j = elim (ahead j) [
  | inl (z, i) ↦ let (x, h, y) = alone_fits n (suc k) t rs vs b i in let w = ap (λ (u : Ev). u.index) z in omega arith
  | inr h ↦ f h
]

pub alone_sorted : (n k : ℕ) (t : Thread) (rs vs : List ℕ) (a b : Ev) → Before a b (alone n k t rs vs).evs → a.index < b.index
alone_sorted n k [] rs vs a b j = absurd (ahead j)
alone_sorted n k (sets r c ∷ t) rs vs a b j = alone_sorted n (suc k) t (put rs r c) vs a b j
alone_sorted n k (adds r x y ∷ t) rs vs a b j = alone_sorted n (suc k) t (put rs r ((at rs x + at rs y) % 16)) vs a b j
alone_sorted n k (loads r x ∷ t) rs [] a b j =
    sorted_or n k t (put rs r 0) [] a b (record { thread = n; index = k; place = x; val = 0; write = false }) refl (alone_sorted n (suc k) t (put rs r 0) [] a b) j
alone_sorted n k (loads r x ∷ t) rs (v ∷ vs) a b j =
    sorted_or n k t (put rs r v) vs a b (record { thread = n; index = k; place = x; val = v; write = false }) refl (alone_sorted n (suc k) t (put rs r v) vs a b) j
alone_sorted n k (stores x r ∷ t) rs vs a b j =
    sorted_or n k t rs vs a b (record { thread = n; index = k; place = x; val = at rs r; write = true }) refl (alone_sorted n (suc k) t rs vs a b) j
alone_sorted n k (fence ∷ t) rs vs a b j = alone_sorted n (suc k) t rs vs a b j
