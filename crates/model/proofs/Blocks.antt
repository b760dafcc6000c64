-- Threads with fences put in, by counts alone: before instruction k stand c k fences. Where the instruction then stands is
-- start c k + c k, and its fences stand from start c k on.
use mathlib.Core.Path.{◌≡◌, refl, sym, ap, ◌∙◌, subst}
use mathlib.Core.List.{List, [], ◌∷◌, ◌++◌}
use mathlib.Core.Option.{some}
use mathlib.Core.Bool.{Bool, true, false, ◌&&◌, ◌||◌}
use Prim.Native.Nat.{ℕ, zero, suc, ◌+◌, ◌<◌}
use native.Mathlib.Omega.{arith}
use lib.ListN.{length}
use lib.Dec.{eqb}
use Rattle.model.specs.Code.{pick, nth, fence, Thread, Prog}
use Rattle.model.specs.Fences.{Spot, here, put_in, fenced_ts, with_fences}
use Rattle.model.specs.Guards.{guards}
use Rattle.model.proofs.Tools.{false_true, Each}

abbrev pub fences : ℕ → Thread → Thread
fences zero t = t
fences (suc m) t = fence ∷ fences m t

abbrev pub blocks : (ℕ → ℕ) → Thread → Thread
blocks c [] = []
blocks c (i ∷ is) = fences (c 0) (i ∷ blocks (λ j. c (suc j)) is)

abbrev pub start : (ℕ → ℕ) → ℕ → ℕ
start c zero = 0
start c (suc k) = suc (c 0 + start (λ j. c (suc j)) k)

pub start_suc : (c : ℕ → ℕ) (k : ℕ) → start c (suc k) ≡ suc (start c k + c k)
start_suc c zero = omega arith
start_suc c (suc k) = let h = start_suc (λ j. c (suc j)) k in omega arith

pub start_below : (c : ℕ → ℕ) (k m : ℕ) → k < m → start c k + c k < start c m
start_below c k zero h = absurd (omega arith)
start_below c zero (suc m) h = omega arith
start_below c (suc k) (suc m) h = let g = start_below (λ j. c (suc j)) k m (omega arith) in omega arith

length_fences : (m : ℕ) (t : Thread) → length (fences m t) ≡ m + length t
length_fences zero t = omega arith
length_fences (suc m) t = let h = length_fences m t in omega arith

pub length_blocks : (c : ℕ → ℕ) (t : Thread) → length (blocks c t) ≡ start c (length t)
length_blocks c [] = refl
length_blocks c (i ∷ is) = let h = length_blocks (λ j. c (suc j)) is in let g = length_fences (c 0) (i ∷ blocks (λ j. c (suc j)) is) in omega arith

fences_in : (m : ℕ) (t : Thread) (l : ℕ) → l < m → nth (fences m t) l ≡ some fence
fences_in zero t l h = absurd (omega arith)
fences_in (suc m) t zero h = refl
fences_in (suc m) t (suc l) h = fences_in m t l (omega arith)

fences_past : (m : ℕ) (t : Thread) (l k : ℕ) → l ≡ m + k → nth (fences m t) l ≡ nth t k
fences_past zero t l k e = ap (nth t) (omega arith)
fences_past (suc m) t zero k e = absurd (omega arith)
fences_past (suc m) t (suc l) k e = fences_past m t l k (omega arith)

-- the fences before instruction k, and the instruction
pub block_fence : (c : ℕ → ℕ) (t : Thread) (k i l : ℕ) → k < length t → i < c k → l ≡ start c k + i → nth (blocks c t) l ≡ some fence
block_fence c [] k i l h g e = absurd (omega arith)
block_fence c (x ∷ xs) zero i l h g e = fences_in (c 0) _ l (omega arith)
block_fence c (x ∷ xs) (suc k) i l h g e =
    fences_past (c 0) _ l (suc (start (λ j. c (suc j)) k + i)) (omega arith) ∙ block_fence (λ j. c (suc j)) xs k i (start (λ j. c (suc j)) k + i) (omega arith) g refl

pub block_own : (c : ℕ → ℕ) (t : Thread) (k l : ℕ) → k < length t → l ≡ start c k + c k → nth (blocks c t) l ≡ nth t k
block_own c [] k l h e = absurd (omega arith)
block_own c (x ∷ xs) zero l h e = fences_past (c 0) _ l 0 (omega arith)
block_own c (x ∷ xs) (suc k) l h e =
    fences_past (c 0) _ l (suc (start (λ j. c (suc j)) k + c (suc k))) (omega arith) ∙ block_own (λ j. c (suc j)) xs k (start (λ j. c (suc j)) k + c (suc k)) (omega arith) refl

-- how often a spot stands in a list
abbrev pub count : List Spot → ℕ → ℕ → ℕ
count [] n k = 0
count (s ∷ ss) n k = pick (eqb s.thread n && eqb s.index k) (suc (count ss n k)) (count ss n k)

-- k + j, by clauses that go along with those of put_in
abbrev shift : ℕ → ℕ → ℕ
shift k zero = k
shift k (suc j) = shift (suc k) j

shift_is : (k j : ℕ) → shift k j ≡ k + j
shift_is k zero = omega arith
shift_is k (suc j) = let h = shift_is (suc k) j in omega arith

here_fences : (ss : List Spot) (n k : ℕ) (t : Thread) → here ss n k ++ t ≡ fences (count ss n k) t
here_fences [] n k t = refl
here_fences (s ∷ ss) n k t = go (eqb s.thread n && eqb s.index k) (here_fences ss n k t)
  where
    go : (b : Bool) → here ss n k ++ t ≡ fences (count ss n k) t → pick b (fence ∷ here ss n k) (here ss n k) ++ t ≡ fences (pick b (suc (count ss n k)) (count ss n k)) t
    go true e = ap {B = Thread} (λ z. fence ∷ z) e
    go false e = e

put_in_blocks : (ss : List Spot) (n k : ℕ) (t : Thread) → put_in ss n k t ≡ blocks (λ j. count ss n (shift k j)) t
put_in_blocks ss n k [] = refl
put_in_blocks ss n k (i ∷ is) = ap {B = Thread} (λ z. here ss n k ++ (i ∷ z)) (put_in_blocks ss n (suc k) is) ∙ here_fences ss n k _

fenced_blocks : (ss : List Spot) (n : ℕ) (p : Prog) → Each (λ m t u. u ≡ blocks (λ j. count ss (shift n m) (shift 0 j)) t) p (fenced_ts ss n p)
fenced_blocks ss n [] m = tt
fenced_blocks ss n (t ∷ ts) zero = put_in_blocks ss n 0 t
fenced_blocks ss n (t ∷ ts) (suc m) = fenced_blocks ss (suc n) ts m

-- how many fences a list of spots puts before instruction k of thread n
abbrev pub counts : List Spot → ℕ → ℕ → ℕ
counts ss n k = count ss (shift 0 n) (shift 0 k)

pub with_fences_blocks : (ss : List Spot) (p : Prog) → Each (λ n t u. u ≡ blocks (counts ss n) t) p (with_fences ss p)
with_fences_blocks ss p = fenced_blocks ss 0 p

-- an instruction is guarded exactly if a fence is put before it
count_guards : (ss : List Spot) (n k : ℕ) → 0 < count ss n k → guards ss n k ≡ true
count_guards [] n k h = absurd (omega arith)
count_guards (s ∷ ss) n k h = go (eqb s.thread n && eqb s.index k) (count_guards ss n k) h
  where
    go : (b : Bool) → (0 < count ss n k → guards ss n k ≡ true) → 0 < pick b (suc (count ss n k)) (count ss n k) → b || guards ss n k ≡ true
    go true f g = refl
    go false f g = f g

guards_count : (ss : List Spot) (n k : ℕ) → guards ss n k ≡ true → 0 < count ss n k
guards_count [] n k h = absurd (false_true h)
guards_count (s ∷ ss) n k h = go (eqb s.thread n && eqb s.index k) (guards_count ss n k) h
  where
    go : (b : Bool) → (guards ss n k ≡ true → 0 < count ss n k) → b || guards ss n k ≡ true → 0 < pick b (suc (count ss n k)) (count ss n k)
    go true f g = omega arith
    go false f g = f g

counts_is : (ss : List Spot) (n k : ℕ) → counts ss n k ≡ count ss n k
counts_is ss n k =
    let e : shift 0 n ≡ n = let h = shift_is 0 n in omega arith in
    let f : shift 0 k ≡ k = let h = shift_is 0 k in omega arith in
    ap (λ (z : ℕ). count ss z (shift 0 k)) e ∙ ap (count ss n) f

pub counts_guards : (ss : List Spot) (n k : ℕ) → 0 < counts ss n k → guards ss n k ≡ true
counts_guards ss n k h = count_guards ss n k (subst (λ (z : ℕ). 0 < z) (counts_is ss n k) h)

pub guards_counts : (ss : List Spot) (n k : ℕ) → guards ss n k ≡ true → 0 < counts ss n k
guards_counts ss n k h = subst (λ (z : ℕ). 0 < z) (sym (counts_is ss n k)) (guards_count ss n k h)
