-- Programs of several threads, and programs as words.
-- One to four threads of at most eight instructions. Each thread has four registers with numbers from 0 to 15;
-- all threads share eight places of memory. Everything is 0 at first.
use Rattle.std.specs.Prelude.{◌≡◌, Bool, true, false, ◌&&◌, List, [], ◌∷◌, ◌++◌, ℕ, zero, suc, ◌+◌, length, ltb, leb, T}
use Rattle.std.proofs.Math.Option.{Option, some, none}

-- the first where the test is true, else the second
abbrev pub pick : {A : Type 0} → Bool → A → A → A
pick true a b = a
pick false a b = b

-- what f makes of what an option holds; c where it holds nothing
abbrev pub opt : {A C : Type 0} → Option A → C → (A → C) → C
opt none c f = c
opt (some x) c f = f x

-- the n-th of a list, counted from 0; none past its end
abbrev pub nth : {A : Type 0} → List A → ℕ → Option A
nth [] n = none
nth (x ∷ xs) zero = some x
nth (x ∷ xs) (suc n) = nth xs n

-- a list with v as its n-th; the same list where it has no n-th
abbrev pub put : {A : Type 0} → List A → ℕ → A → List A
put [] n v = []
put (x ∷ xs) zero v = v ∷ xs
put (x ∷ xs) (suc n) v = x ∷ put xs n v

-- an instruction:
--   sets r n     the number n into register r
--   adds r a b   the sum of registers a and b, modulo 16, into register r
--   loads r x    place x into register r
--   stores x r   register r to place x
--   fence        waits until no store of its own thread waits
pub data I : Type 0 where
  sets : ℕ → ℕ → I
  adds : ℕ → ℕ → ℕ → I
  loads : ℕ → ℕ → I
  stores : ℕ → ℕ → I
  fence : I

abbrev pub Thread : Type 0
Thread = List I

abbrev pub Prog : Type 0
Prog = List Thread

-- registers below 4, numbers below 16, places below 8
abbrev pub ok_i : I → Bool
ok_i (sets r n) = ltb r 4 && ltb n 16
ok_i (adds r a b) = ltb r 4 && (ltb a 4 && ltb b 4)
ok_i (loads r x) = ltb r 4 && ltb x 8
ok_i (stores x r) = ltb x 8 && ltb r 4
ok_i fence = true

abbrev pub ok_t : Thread → Bool
ok_t [] = true
ok_t (i ∷ is) = ok_i i && ok_t is

-- each thread has at most eight instructions
abbrev pub ok_ts : Prog → Bool
ok_ts [] = true
ok_ts (t ∷ ts) = leb (length t) 8 && (ok_t t && ok_ts ts)

-- one to four threads
abbrev pub ok : Prog → Bool
ok p = leb 1 (length p) && (leb (length p) 4 && ok_ts p)

-- how many instructions a program has
abbrev pub size : Prog → ℕ
size [] = 0
size (t ∷ ts) = length t + size ts

-- as words: how many threads; for each how many instructions, and for each of these its code and three words:
-- 0 register number 0; 1 register first second; 2 register place 0; 3 place register 0; 4 0 0 0
abbrev pub row_i : I → List ℕ
row_i (sets r n) = 0 ∷ r ∷ n ∷ 0 ∷ []
row_i (adds r a b) = 1 ∷ r ∷ a ∷ b ∷ []
row_i (loads r x) = 2 ∷ r ∷ x ∷ 0 ∷ []
row_i (stores x r) = 3 ∷ x ∷ r ∷ 0 ∷ []
row_i fence = 4 ∷ 0 ∷ 0 ∷ 0 ∷ []

abbrev pub row_t : Thread → List ℕ
row_t [] = []
row_t (i ∷ is) = row_i i ++ row_t is

abbrev pub row_ts : Prog → List ℕ
row_ts [] = []
row_ts (t ∷ ts) = length t ∷ (row_t t ++ row_ts ts)

abbrev pub row : Prog → List ℕ
row p = length p ∷ row_ts p

-- the words s are the program p
pub record Reads (s : List ℕ) (p : Prog) : Type 0 where
  pub is : row p ≡ s
  pub fine : T (ok p)
