-- Two machines: total store order, in which a store waits in its thread's store buffer before it goes to memory,
-- and sequential consistency ("at once"), in which each store goes to memory as it is done.
-- A store buffer is called a row: a thread's stores that wait, the oldest first.
use Rattle.std.specs.Prelude.{Bool, true, false, ◌&&◌, List, [], ◌∷◌, ◌++◌, ℕ, suc, ◌+◌, ◌%◌, length, replicate, eqb}
use Rattle.std.proofs.Math.Option.{Option, some, none}
use Rattle.model.specs.Code.{pick, opt, nth, put, I, sets, adds, loads, stores, fence, Prog}

-- a store that waits: its place and its number
pub record Wait : Type 0 where
  pub place : ℕ
  pub val : ℕ

-- a thread: which instruction is next, its registers, its row of waiting stores, the oldest first
pub record At : Type 0 where
  pub pc : ℕ
  pub regs : List ℕ
  pub waits : List Wait

-- a state of the machine: memory, and each thread
pub record St : Type 0 where
  pub mem : List ℕ
  pub threads : List At

abbrev pub reg : At → ℕ → ℕ
reg a r = opt (nth a.regs r) 0 (λ x. x)

abbrev pub at_mem : List ℕ → ℕ → ℕ
at_mem m x = opt (nth m x) 0 (λ v. v)

-- what a thread reads at place x (store forwarding): its own newest store to x that waits, else v, which is memory's
abbrev pub newest : List Wait → ℕ → ℕ → ℕ
newest [] x v = v
newest (w ∷ ws) x v = newest ws x (pick (eqb w.place x) w.val v)

-- the thread with its next instruction done, and with these registers and this row
abbrev pub done : At → List ℕ → List Wait → At
done a rs ws = record { pc = suc a.pc; regs = rs; waits = ws }

abbrev pub empty : List Wait → Bool
empty [] = true
empty (w ∷ ws) = false

-- an instruction done by thread a where memory is m; none for a fence while a store of the thread waits
abbrev pub does : List ℕ → At → I → Option At
does m a (sets r n) = some (done a (put a.regs r n) a.waits)
does m a (adds r p q) = some (done a (put a.regs r ((reg a p + reg a q) % 16)) a.waits)
does m a (loads r x) = some (done a (put a.regs r (newest a.waits x (at_mem m x))) a.waits)
does m a (stores x r) = some (done a a.regs (a.waits ++ (record { place = x; val = reg a r } ∷ [])))
does m a fence = pick (empty a.waits) (some (done a a.regs a.waits)) none

-- a move: a thread's next instruction, or a thread's oldest waiting store going to memory
pub data Move : Type 0 where
  next : ℕ → Move
  out : ℕ → Move

-- the next instruction of thread n, which stands as a says
abbrev pub instr : Prog → ℕ → At → Option I
instr p n a = opt (nth p n) none (λ t. nth t a.pc)

abbrev pub with_thread : St → ℕ → At → St
with_thread s n a = record { mem = s.mem; threads = put s.threads n a }

-- the oldest store of thread n, which stands as a says, goes to memory; none where nothing waits
abbrev pub flushed : St → ℕ → At → List Wait → Option St
flushed s n a [] = none
flushed s n a (w ∷ ws) = some (record { mem = put s.mem w.place w.val; threads = put s.threads n (record { pc = a.pc; regs = a.regs; waits = ws }) })

-- one move of the machine in which stores wait; none where it can't be made
abbrev pub move : Prog → St → Move → Option St
move p s (next n) = opt (nth s.threads n) none (λ a. opt (instr p n a) none (λ i. opt (does s.mem a i) none (λ b. some (with_thread s n b))))
move p s (out n) = opt (nth s.threads n) none (λ a. flushed s n a a.waits)

-- a run: move after move
abbrev pub moves : Prog → St → List Move → Option St
moves p s [] = some s
moves p s (m ∷ ms) = opt (move p s m) none (λ t. moves p t ms)

abbrev pub starts : Prog → List At
starts [] = []
starts (t ∷ ts) = record { pc = 0; regs = replicate 4 0; waits = [] } ∷ starts ts

-- where every run begins: all registers and all memory 0, nothing done, nothing waiting
abbrev pub begin : Prog → St
begin p = record { mem = replicate 8 0; threads = starts p }

-- finished: every instruction is done and nothing waits
abbrev pub all_done : Prog → List At → Bool
all_done [] as₁ = true
all_done (t ∷ ts) [] = false
all_done (t ∷ ts) (a ∷ as₁) = eqb a.pc (length t) && (empty a.waits && all_done ts as₁)

-- what came out: all registers, thread by thread, then memory
abbrev pub regs_of : List At → List ℕ
regs_of [] = []
regs_of (a ∷ as₁) = a.regs ++ regs_of as₁

abbrev pub outcome : St → List ℕ
outcome s = regs_of s.threads ++ s.mem

-- at once: an instruction of thread n, and if it was a store, the store goes to memory in the same step
abbrev pub is_store : I → Bool
is_store (sets r n) = false
is_store (adds r p q) = false
is_store (loads r x) = false
is_store (stores x r) = true
is_store fence = false

abbrev pub at_once : Prog → St → ℕ → Option St
at_once p s n = opt (nth s.threads n) none (λ a. opt (instr p n a) none (λ i. opt (move p s (next n)) none (λ t. pick (is_store i) (move p t (out n)) (some t))))

-- a run at once: the threads that do their next instruction, in turn
abbrev pub all_at_once : Prog → St → List ℕ → Option St
all_at_once p s [] = some s
all_at_once p s (n ∷ ns) = opt (at_once p s n) none (λ t. all_at_once p t ns)
