-- A line put down column by column.
use Rattle.std.proofs.Common.{◌≡◌, ℕ, zero, suc, ◌+◌, ◌-◌, ◌<◌, ◌≤◌, max, Bool, true, false, ◌&&◌, eqb, List, [], ◌∷◌, ◌++◌, map, fold, vec_items, length, get_or, drop, replicate, codes, decimal, sym, refl, ap, ◌∙◌, append_assoc, append-nil, add-one, arith}
use mathlib.Core.Option.{Option}
use lib.Dec.{eqb-suc-zero}
use lib.Utf8.{encode}
use Rattle.std.proofs.lemmas.List.{at_drop_more, drop_more, length-drop, length-map}
use Rattle.std.proofs.lemmas.Bool.Decides.{nat_tests}
use Rattle.std.specs.Str.{encode_utf8_all}
use Rattle.model.specs.Code.{opt, nth, I, fence, Thread}
use Rattle.text.specs.Bytes.{Word, empty}
use Rattle.text.specs.declared.source.Thread as Source
use Rattle.text.specs.Grammar.{Column, Listing}
use Rattle.text.specs.Meaning.{column}
use Rattle.program.specs.Instructions.{instruction}
use Rattle.text.specs.Shows.{show_place, show_i, show_cell, widest, width, spaced, filled, show_line, show_lines, height}
use Rattle.text.specs.Parts.{gap, part}
use Rattle.text.proofs.Filling.{nth_at, nth_past}

-- what is left of a line at column k, with the blank before it
abbrev pub lead : ℕ → List ℕ → List ℕ
lead zero bs = bs
lead (suc k) bs = spaced bs

spaced_some : (xs : List ℕ) (y : ℕ) (ys : List ℕ) → spaced (xs ++ y ∷ ys) ≡ 32 ∷ (xs ++ y ∷ ys)
spaced_some [] y ys = refl
spaced_some (x ∷ xs) y ys = refl

module _ (ns : List Word) (j : ℕ) (c : Column) where
  pub part_last : (k : ℕ) → lead k (show_line ns j (c ∷ [])) ≡ part ns j k true c ++ lead (suc k) []
  part_last k = go k (show_cell ns c j)
    where
      go : (k : ℕ) (bs : List ℕ) → lead k bs ≡ (gap k (true && empty bs) ++ (bs ++ [])) ++ []
      go zero bs = sym (append-nil (bs ++ []) ∙ append-nil bs)
      go (suc k) [] = refl
      go (suc k) (b ∷ bs) = ap (λ (l : List ℕ). 32 ∷ b ∷ l) (sym (append-nil (bs ++ []) ∙ append-nil bs))

  pub part_more : (k : ℕ) (d : Column) (ds : List Column) → lead k (show_line ns j (c ∷ d ∷ ds)) ≡ part ns j k false c ++ lead (suc k) (show_line ns j (d ∷ ds))
  part_more zero d ds =
      let rest = spaced (show_line ns j (d ∷ ds)) in
      let cell = show_cell ns c j in
      let blanks = replicate (width ns c - length (show_cell ns c j)) 32 in
      append_assoc cell blanks (codes " |" ++ rest) ∙ ap (λ (l : List ℕ). cell ++ l) (sym (append_assoc blanks (codes " |") rest)) ∙ sym (append_assoc cell (blanks ++ codes " |") rest)
  part_more (suc k) d ds =
      let rest = spaced (show_line ns j (d ∷ ds)) in
      let cell = show_cell ns c j in
      let blanks = replicate (width ns c - length (show_cell ns c j)) 32 in
      spaced_some (filled ns c j) 32 (124 ∷ rest)
      ∙ ap (λ (l : List ℕ). 32 ∷ l) (append_assoc cell blanks (codes " |" ++ rest) ∙ ap (λ (l : List ℕ). cell ++ l) (sym (append_assoc blanks (codes " |") rest)) ∙ sym (append_assoc cell (blanks ++ codes " |") rest))

-- the cell of a line below the first
pub below : (ns : List Word) (c : Column) (j k : ℕ) → j ≡ suc k → show_cell ns c j ≡ opt (nth c.code k) [] (show_i ns)
below ns c j k e = ap (show_cell ns c) e

pub below_at : (ns : List Word) (c : Column) (j k : ℕ) (i : I) → j ≡ suc k → k < length c.code → get_or c.code k fence ≡ i → show_cell ns c j ≡ show_i ns i
below_at ns c j k i e l f = below ns c j k e ∙ ap (λ (o : Option I). opt o [] (show_i ns)) (nth_at c.code k fence l) ∙ ap (show_i ns) f

pub below_past : (ns : List Word) (c : Column) (j k : ℕ) → j ≡ suc k → length c.code ≤ k → show_cell ns c j ≡ []
below_past ns c j k e l = below ns c j k e ∙ ap (λ (o : Option I). opt o [] (show_i ns)) (nth_past c.code k l)

-- the place of a name, and of none
pub place_named : (ns : List Word) (x : ℕ) (w : Word) → x < length ns → get_or ns x [] ≡ w → show_place ns x ≡ w
place_named ns x w l e = ap (λ (o : Option Word). opt o (decimal x) (λ (v : Word). v)) (nth_at ns x [] l) ∙ e

pub place_numeral : (ns : List Word) (x : ℕ) → length ns ≤ x → show_place ns x ≡ decimal x
place_numeral ns x l = ap (λ (o : Option Word). opt o (decimal x) (λ (v : Word). v)) (nth_past ns x l)

-- a loop that widens the column
module _ (ns : List Word) (t : Thread) where
  pub wider : (w i n : ℕ) → i < length t → n ≡ length (show_i ns (get_or t i fence)) → widest ns w (drop i t) ≡ widest ns (max w n) (drop (i + 1) t)
  wider w i n l e = at_drop_more (widest ns w) t i fence l ∙ ap (λ (k : ℕ). widest ns (max w k) (drop (i + 1) t)) (sym e)

-- blanks are one byte each
pub blanks_encoded : (n : ℕ) → encode_utf8_all (replicate n 32) ≡ replicate n 32
unfolding encode
blanks_encoded zero = refl
blanks_encoded (suc n) = ap (λ (bs : List ℕ). 32 ∷ bs) (blanks_encoded n)

-- the longest of threads, from h on
pub tallest : (h : ℕ) (ts : List Source.Thread) → fold (λ most (t : Source.Thread). max (length (vec_items t.code)) most) h ts ≡ max h (height (map (λ (t : Column). t.code) (map column ts)))
tallest h [] = omega arith
tallest h (t ∷ ts) =
    let size = length-map (vec_items t.code) instruction in
    let rest = tallest (max (length (vec_items t.code)) h) ts in
    omega arith

-- one column more of a line
pub one_part : (ns : List Word) (j k : ℕ) (cs : List Column) (c : Column) (last : Bool) → k < length cs → get_or cs k c ≡ c → last ≡ eqb (k + 1) (length cs) → lead k (show_line ns j (drop k cs)) ≡ part ns j k last c ++ lead (k + 1) (show_line ns j (drop (k + 1) cs))
one_part ns j k cs c last l e f =
    ap (λ (ds : List Column). lead k (show_line ns j ds)) (drop_more cs k c l ∙ ap (λ (d : Column). d ∷ drop (k + 1) cs) e)
    ∙ go (drop (k + 1) cs) last (f ∙ left)
    ∙ ap (λ (m : ℕ). part ns j k last c ++ lead m (show_line ns j (drop (k + 1) cs))) (sym (add-one k))
  where
    left : eqb (k + 1) (length cs) ≡ eqb (length (drop (k + 1) cs)) 0
    left = let s = length-drop (k + 1) cs in grind (arith, nat_tests)

    go : (ds : List Column) (last : Bool) → last ≡ eqb (length ds) 0 → lead k (show_line ns j (c ∷ ds)) ≡ part ns j k last c ++ lead (suc k) (show_line ns j ds)
    go [] last h = part_last ns j c k ∙ ap (λ (b : Bool). part ns j k b c ++ []) (sym h)
    go (d ∷ ds) last h = part_more ns j c k d ds ∙ ap (λ (b : Bool). part ns j k b c ++ spaced (show_line ns j (d ∷ ds))) (sym (h ∙ eqb-suc-zero (length ds)))

-- one line more
pub one_line : (l : Listing) (j n : ℕ) → j < n → show_lines l (suc j) (n - j) ≡ show_line l.places (j + 1) l.columns ++ (10 ∷ show_lines l (suc (j + 1)) (n - (j + 1)))
one_line l j n h =
    let e : n - j ≡ suc (n - (j + 1)) = omega arith in
    ap (show_lines l (suc j)) e ∙ ap (λ (k : ℕ). show_line l.places k l.columns ++ (10 ∷ show_lines l (suc k) (n - (j + 1)))) (sym (add-one j))
