-- Total store order without a machine: one order of all reads and writes.
-- Each thread by itself, given what its reads give, has events: its reads and writes, in program order. The memory
-- order holds all events. It keeps program order, but that a read may come before an older write of its thread if no
-- fence stands between the two. A read has the number of the newest write to its place, by the memory order, among
-- those before it in that order and those of its own thread before it in the program; or 0 if there is none.
use Rattle.std.specs.Prelude.{◌≡◌, ◌⊎◌, Bool, true, false, List, [], ◌∷◌, ◌++◌, ℕ, suc, ◌+◌, ◌%◌, ◌<◌, replicate}
use Rattle.std.proofs.Math.Option.{some}
use Rattle.model.specs.Code.{pick, opt, nth, put, sets, adds, loads, stores, fence, Thread, Prog}

-- an event: the instruction 'index' of thread 'thread', with the number that it read or wrote
pub record Ev : Type 0 where
  pub thread : ℕ
  pub index : ℕ
  pub place : ℕ
  pub val : ℕ
  pub write : Bool

-- a thread by itself, given what its reads give, the first first: its registers at the end, its events in program
-- order, and what was given and not read
pub record Alone : Type 0 where
  pub regs : List ℕ
  pub evs : List Ev
  pub left : List ℕ

abbrev pub at : List ℕ → ℕ → ℕ
at rs r = opt (nth rs r) 0 (λ x. x)

abbrev pub with_ev : Ev → Alone → Alone
with_ev e a = record { regs = a.regs; evs = e ∷ a.evs; left = a.left }

-- a read takes the first number given; 0 where none is left
abbrev pub reads_one : List ℕ → (ℕ → List ℕ → Alone) → Alone
reads_one [] f = f 0 []
reads_one (v ∷ vs) f = f v vs

-- thread n from its k-th instruction on, with registers rs, given the numbers vs
abbrev pub alone : ℕ → ℕ → Thread → List ℕ → List ℕ → Alone
alone n k [] rs vs = record { regs = rs; evs = []; left = vs }
alone n k (sets r c ∷ is) rs vs = alone n (suc k) is (put rs r c) vs
alone n k (adds r p q ∷ is) rs vs = alone n (suc k) is (put rs r ((at rs p + at rs q) % 16)) vs
alone n k (loads r x ∷ is) rs vs = reads_one vs (λ v ws. with_ev (record { thread = n; index = k; place = x; val = v; write = false }) (alone n (suc k) is (put rs r v) ws))
alone n k (stores x r ∷ is) rs vs = with_ev (record { thread = n; index = k; place = x; val = at rs r; write = true }) (alone n (suc k) is rs vs)
alone n k (fence ∷ is) rs vs = alone n (suc k) is rs vs

-- between instructions i and j of a thread stands a fence
abbrev pub Fenced : Thread → ℕ → ℕ → Type 0
Fenced t i j = (k : ℕ) × (i < k) × (k < j) × (nth t k ≡ some fence)

-- the event stands in the list
pub data In (a : Ev) : List Ev → Type 0 where
  first : {es : List Ev} → In a (a ∷ es)
  more : {e : Ev} {es : List Ev} → In a es → In a (e ∷ es)

-- a stands before b in the list
pub data Before (a b : Ev) : List Ev → Type 0 where
  here : {es : List Ev} → In b es → Before a b (a ∷ es)
  later : {e : Ev} {es : List Ev} → Before a b es → Before a b (e ∷ es)

-- the writes that a read r may see: to its place, before it in the order or before it in its own thread
abbrev pub Sees : List Ev → Ev → Ev → Type 0
Sees o w r = (w.write ≡ true) × (w.place ≡ r.place) × (Before w r o ⊎ ((w.thread ≡ r.thread) × (w.index < r.index) × In w o))

-- o is a memory order of the threads' events all1: it has just these (from, each), each once; it keeps program order,
-- but that a read may pass an older write of its thread with no fence between (kept); and each read has the newest,
-- by the order, of the writes that it may see, or 0 if it may see none (sees)
pub record Order (p : Prog) (all1 : List (List Ev)) (o : List Ev) : Type 0 where
  pub from : (e : Ev) → In e o → (n : ℕ) × (es : List Ev) × (nth all1 n ≡ some es) × In e es
  pub each : (n : ℕ) (es : List Ev) (e : Ev) → nth all1 n ≡ some es → In e es → In e o
  pub once : (a b : Ev) → Before a b o → (a.thread ≡ b.thread) × (a.index ≡ b.index) → ⊥
  pub kept : (n : ℕ) (t : Thread) (es : List Ev) (a b : Ev) → nth p n ≡ some t → nth all1 n ≡ some es → Before a b es → Before a b o ⊎ ((a.write ≡ true) × (b.write ≡ false) × (Fenced t a.index b.index → ⊥))
  pub sees : (r : Ev) → In r o → r.write ≡ false → ((w : Ev) × Sees o w r × (w.val ≡ r.val) × ((v : Ev) → Sees o v r → Before w v o → ⊥)) ⊎ ((r.val ≡ 0) × ((w : Ev) → Sees o w r → ⊥))

-- each thread by itself, given what its reads give
abbrev pub alones : ℕ → Prog → List (List ℕ) → List Alone
alones n [] vss = []
alones n (t ∷ ts) [] = alone n 0 t (replicate 4 0) [] ∷ alones (suc n) ts []
alones n (t ∷ ts) (vs ∷ vss) = alone n 0 t (replicate 4 0) vs ∷ alones (suc n) ts vss

abbrev pub evs_of : List Alone → List (List Ev)
evs_of [] = []
evs_of (a ∷ as₁) = a.evs ∷ evs_of as₁

abbrev pub regs_of : List Alone → List ℕ
regs_of [] = []
regs_of (a ∷ as₁) = a.regs ++ regs_of as₁

-- what the writes leave in memory, done in this order
abbrev pub writes_in : List Ev → List ℕ → List ℕ
writes_in [] m = m
writes_in (e ∷ es) m = writes_in es (pick e.write (put m e.place e.val) m)
