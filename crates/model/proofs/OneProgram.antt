-- Words are at most one program: words can be read back. The number of threads and of instructions stand in front, and
-- an instruction is four words, so what is read back from a program's words is that program.
use mathlib.Core.Path.{◌≡◌, refl, sym, ap, ◌∙◌}
use mathlib.Core.List.{List, [], ◌∷◌, ◌++◌, append_assoc}
use Prim.Native.Nat.{ℕ, zero, suc}
use lib.ListN.{length, get_or, drop}
use Rattle.model.specs.Code.{I, sets, adds, loads, stores, fence, Thread, Prog, row_i, row_t, row_ts}
use Rattle.model.specs.Theorems.{OneProgram}

-- the instruction with this code and these three words
abbrev coded : ℕ → ℕ → ℕ → ℕ → I
coded zero a b c = sets a b
coded (suc zero) a b c = adds a b c
coded (suc (suc zero)) a b c = loads a b
coded (suc (suc (suc zero))) a b c = stores a b
coded (suc (suc (suc (suc k)))) a b c = fence

abbrev front : List ℕ → I
front ws = coded (get_or ws 0 0) (get_or ws 1 0) (get_or ws 2 0) (get_or ws 3 0)

abbrev thread_of : ℕ → List ℕ → Thread
thread_of zero ws = []
thread_of (suc k) ws = front ws ∷ thread_of k (drop 4 ws)

abbrev behind : ℕ → List ℕ → List ℕ
behind zero ws = ws
behind (suc k) ws = behind k (drop 4 ws)

abbrev threads_of : ℕ → List ℕ → Prog
threads_of zero ws = []
threads_of (suc k) ws = thread_of (get_or ws 0 0) (drop 1 ws) ∷ threads_of k (behind (get_or ws 0 0) (drop 1 ws))

abbrev program_of : List ℕ → Prog
program_of ws = threads_of (get_or ws 0 0) (drop 1 ws)

front_row : (i : I) (ws : List ℕ) → front (row_i i ++ ws) ≡ i
front_row (sets r n) ws = refl
front_row (adds r a b) ws = refl
front_row (loads r x) ws = refl
front_row (stores x r) ws = refl
front_row fence ws = refl

rest_row : (i : I) (ws : List ℕ) → drop 4 (row_i i ++ ws) ≡ ws
rest_row (sets r n) ws = refl
rest_row (adds r a b) ws = refl
rest_row (loads r x) ws = refl
rest_row (stores x r) ws = refl
rest_row fence ws = refl

thread_row : (t : Thread) (ws : List ℕ) → thread_of (length t) (row_t t ++ ws) ≡ t
thread_row [] ws = refl
thread_row (i ∷ is) ws = rw append_assoc (let h = front_row i (row_t is ++ ws) in let k = rest_row i (row_t is ++ ws) in let l = thread_row is ws in cc)

behind_row : (t : Thread) (ws : List ℕ) → behind (length t) (row_t t ++ ws) ≡ ws
behind_row [] ws = refl
behind_row (i ∷ is) ws = rw append_assoc (let k = rest_row i (row_t is ++ ws) in let l = behind_row is ws in cc)

threads_row : (p : Prog) → threads_of (length p) (row_ts p) ≡ p
threads_row [] = refl
threads_row (t ∷ ts) = let h = thread_row t (row_ts ts) in let k = behind_row t (row_ts ts) in let l = threads_row ts in cc

pub one_program : OneProgram
one_program s p q a b = sym (threads_row p) ∙ (ap program_of (a.is ∙ sym b.is) ∙ threads_row q)
