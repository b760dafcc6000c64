-- The mask of all spots of a program: it has the bit of a spot exactly if the program has an instruction there.
use Rattle.std.proofs.Common.{◌≡◌, ℕ, zero, suc, ◌+◌, ◌-◌, ◌*◌, ◌/◌, ◌^◌, ◌<◌, ◌≤◌, ◌&&◌, T, leb, ◌⊎◌, List, [], ◌∷◌, ◌++◌, length, sym, refl, ap, ◌∙◌, subst, inl, inr, arith, leb→le}
use mathlib.Core.Option.{some}
use Rattle.std.proofs.lemmas.Bool.{cases_eq}
use Rattle.model.specs.Code.{nth, Thread, Prog, ok, ok_t, ok_ts}
use Rattle.model.specs.Fences.{Spot}
use Rattle.model.proofs.Tools.{none_some, some_is, nth_below}
use Rattle.program.proofs.Rows.{and_left, and_right}
use Rattle.hitting.specs.Masks.{bit}
use Rattle.hitting.specs.Spots.{mask_of, spots_of, Ascends, In}
use Rattle.hitting.proofs.Theorems.{set_of_spots, has_spot}
use Rattle.spots.specs.Masks.{spot_of, position, row, rows, every_spot}
use Rattle.spots.proofs.Positions.{Small}

-- the program has an instruction at the spot
abbrev pub Inside : Prog → Spot → Type 0
Inside p a = (t : Thread) × (nth p a.thread ≡ some t) × (a.index < length t)

-- the limits
ok_rows : (p : Prog) → T (ok p) → (length p ≤ 4) × T (ok_ts p)
ok_rows p h =
    let g = and_right (leb 1 (length p)) (leb (length p) 4 && ok_ts p) h in
    (leb→le (length p) 4 (and_left (leb (length p) 4) (ok_ts p) g), and_right (leb (length p) 4) (ok_ts p) g)

ok_first : (t : Thread) (ts : Prog) → T (ok_ts (t ∷ ts)) → (length t ≤ 8) × T (ok_ts ts)
ok_first t ts h = (
  leb→le (length t) 8 (and_left (leb (length t) 8) (ok_t t && ok_ts ts) h),
  and_right (ok_t t) (ok_ts ts) (and_right (leb (length t) 8) (ok_t t && ok_ts ts) h),
)

thread_short : (p : Prog) (n : ℕ) (t : Thread) → T (ok_ts p) → nth p n ≡ some t → length t ≤ 8
thread_short [] n t h e = absurd (none_some e)
thread_short (u ∷ us) zero t h e = subst (λ (z : Thread). length z ≤ 8) (some_is e) (ok_first u us h).0
thread_short (u ∷ us) (suc n) t h e = thread_short us n t (ok_first u us h).1 e

pub inside_small : (p : Prog) (a : Spot) → T (ok p) → Inside p a → Small a
inside_small p a h (t, e, l) =
    let (few, fine) = ok_rows p h in
    let n = nth_below p a.thread e in
    let k = thread_short p a.thread t fine e in
    (omega arith, omega arith)

-- standing in one of two lists
in_left : (s : ℕ) (ps qs : List ℕ) → In s ps → In s (ps ++ qs)
in_left s [] qs h = absurd h
in_left s (t ∷ ps) qs (inl e) = inl e
in_left s (t ∷ ps) qs (inr h) = inr (in_left s ps qs h)

in_right : (s : ℕ) (ps qs : List ℕ) → In s qs → In s (ps ++ qs)
in_right s [] qs h = h
in_right s (t ∷ ps) qs h = inr (in_right s ps qs h)

in_either : (s : ℕ) (ps qs : List ℕ) → In s (ps ++ qs) → In s ps ⊎ In s qs
in_either s [] qs h = inr h
in_either s (t ∷ ps) qs (inl e) = inl (inl e)
in_either s (t ∷ ps) qs (inr h) = elim (in_either s ps qs h) [ inl x ↦ inl (inr x) | inr y ↦ inr y ]

-- what stands in the rows of a program
in_row : (s t l : ℕ) → In t (row s l) → (s ≤ t) × (t < s + l)
in_row s t zero h = absurd h
in_row s t (suc l) (inl e) = (omega arith, omega arith)
in_row s t (suc l) (inr h) = let (a, b) = in_row (suc s) t l h in (omega arith, omega arith)

row_in : (s t l : ℕ) → s ≤ t → t < s + l → In t (row s l)
row_in s t zero a b = absurd (omega arith)
row_in s t (suc l) a b = elim (cases_eq t s) [ inl e ↦ inl e | inr n ↦ inr (row_in (suc s) t l (omega arith) (omega arith)) ]

-- the instruction k of thread m behind n others
abbrev AtRow : ℕ → Prog → ℕ → Type 0
AtRow n p s = (m : ℕ) × (k : ℕ) × (t : Thread) × (s ≡ 8 * (n + m) + k) × (nth p m ≡ some t) × (k < length t)

in_rows : (n s : ℕ) (p : Prog) → In s (rows n p) → AtRow n p s
in_rows n s [] h = absurd h
in_rows n s (t ∷ ts) h =
    elim (in_either s (row (8 * n) (length t)) (rows (suc n) ts) h) [
      | inl x ↦ let (a, b) = in_row (8 * n) s (length t) x in (0, s - 8 * n, t, omega arith, refl, omega arith)
      | inr y ↦ let (m, k, u, e, q, l) = in_rows (suc n) s ts y in (suc m, k, u, omega arith, q, l)
    ]

rows_in : (n m k s : ℕ) (p : Prog) (t : Thread) → s ≡ 8 * (n + m) + k → nth p m ≡ some t → k < length t → In s (rows n p)
rows_in n m k s [] t e q l = absurd (none_some q)
rows_in n zero k s (u ∷ us) t e q l =
    let w : length u ≡ length t = ap length (some_is q) in
    in_left s (row (8 * n) (length u)) (rows (suc n) us) (row_in (8 * n) s (length u) (omega arith) (omega arith))
rows_in n (suc m) k s (u ∷ us) t e q l = in_right s (row (8 * n) (length u)) (rows (suc n) us) (rows_in (suc n) m k s us t (omega arith) q l)

-- they ascend
pub ascends_row : (d s l e : ℕ) (ps : List ℕ) → d ≤ s → s + l ≤ e → e ≤ 32 → Ascends e ps → Ascends d (row s l ++ ps)
ascends_row d s zero e [] h w x a = tt
ascends_row d s zero e (r ∷ ps) h w x (a, b, c) = (omega arith, b, c)
ascends_row d s (suc l) e ps h w x a = (h, omega arith, ascends_row (suc s) (suc s) l e ps (omega arith) (omega arith) x a)

ascends_rows : (n : ℕ) (p : Prog) → n + length p ≤ 4 → T (ok_ts p) → Ascends (8 * n) (rows n p)
ascends_rows n [] h f = tt
ascends_rows n (t ∷ ts) h f =
    let (few, fine) = ok_first t ts f in
    ascends_row (8 * n) (8 * n) (length t) (8 * suc n) (rows (suc n) ts) (omega arith) (omega arith) (omega arith) (ascends_rows (suc n) ts (omega arith) fine)

pub rows_ascend : (p : Prog) → T (ok p) → Ascends 0 (rows 0 p)
rows_ascend p h = let (few, fine) = ok_rows p h in ascends_rows 0 p (omega arith) fine

pub every_is : (p : Prog) → every_spot p ≡ mask_of (rows 0 p)
unfolding every_spot
every_is p = refl

-- the bits of the mask
module _ (p : Prog) (h : T (ok p)) where
  pub every_small : every_spot p < 2 ^ 32
  every_small = let e = every_is p in let (l, q) = set_of_spots (rows 0 p) (rows_ascend p h) in omega arith

  every_rows : spots_of (every_spot p) ≡ rows 0 p
  every_rows = ap spots_of (every_is p) ∙ (set_of_spots (rows 0 p) (rows_ascend p h)).1

  pub every_bit : (a : Spot) → Inside p a → bit (every_spot p) (31 - position a) ≡ 1
  every_bit a (t, e, l) =
      let i : In (position a) (rows 0 p) = rows_in 0 a.thread a.index (position a) p t (omega arith) e l in
      ((has_spot (every_spot p) (position a) every_small).0 (subst (In (position a)) (sym every_rows) i)).1

  pub bit_every : (s : ℕ) → s < 32 → bit (every_spot p) (31 - s) ≡ 1 → Inside p (spot_of s)
  bit_every s l o =
      let i : In s (rows 0 p) = subst (In s) every_rows ((has_spot (every_spot p) s every_small).1 (l, o)) in
      let (m, k, t, e, q, w) = in_rows 0 s p i in
      let (few, fine) = ok_rows p h in
      let short = thread_short p m t fine q in
      let n : m ≡ s / 8 = omega arith in
      (t, subst (λ (z : ℕ). nth p z ≡ some t) n q, omega arith)
