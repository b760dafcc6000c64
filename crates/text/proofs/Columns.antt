-- Columns filled row by row: after row r each has its first r instructions.
use Rattle.std.proofs.Common.{◌≡◌, ℕ, zero, suc, ◌<◌, ◌≤◌, true, ◌⊎◌, List, [], ◌∷◌, ◌++◌, map, length, take, sym, refl, ap, ◌∙◌, subst, inl, inr, ⊎_elim, append_assoc, arith}
use mathlib.Core.Option.{Option, some, none}
use Rattle.std.proofs.lemmas.List.{length_push, length-take-le}
use Rattle.std.proofs.lemmas.Bool.{and_parts}
use Rattle.model.specs.Code.{opt, nth, put, I, sets, adds, loads, stores, fence, Thread, ok_i, ok_t}
use Rattle.text.specs.Bytes.{Word, all, tokens}
use Rattle.text.specs.Grammar.{Places, Column, Page, longer, cell, row}
use Rattle.text.specs.Shows.{show_i, show_cell}
use Rattle.text.specs.Fine.{through_row, through_rows}
use Rattle.text.proofs.Filling.{cell_is, one_more}
use Rattle.text.proofs.Lines.{cells, AllTidy}
use Rattle.text.proofs.Ordering.{Proper, Known, counts, see_more, take_one_more}
use Rattle.text.proofs.Picks.{opt_is}
use Rattle.text.proofs.Sayings.{Said, said}
use Rattle.text.proofs.Tidy.{tidy}

pub opt_some : {A C : Type 0} (o : Option A) (f : A → Option C) (t : C) → opt o none f ≡ some t → (a : A) × (o ≡ some a) × (f a ≡ some t)
opt_some none f t e = absurd (let z : ◌≡◌ {A = ℕ} 0 1 = cc in omega arith)
opt_some (some a) f t e = (a, refl, e)

-- a count never goes back
counts_more : (ns : List Word) (n m : ℕ) (i : I) → counts ns n i ≡ some m → n ≤ m
counts_more [] n m i e = let f : n ≡ m = cc in omega arith
counts_more (w ∷ ws) n m (sets r v) e = let f : n ≡ m = cc in omega arith
counts_more (w ∷ ws) n m (adds r a b) e = let f : n ≡ m = cc in omega arith
counts_more (w ∷ ws) n m (loads r x) e = see_more n x m e
counts_more (w ∷ ws) n m (stores x r) e = see_more n x m e
counts_more (w ∷ ws) n m fence e = let f : n ≡ m = cc in omega arith

cell_more : (ns : List Word) (o : Option I) (n m : ℕ) → opt o (some n) (counts ns n) ≡ some m → n ≤ m
cell_more ns none n m e = let f : n ≡ m = cc in omega arith
cell_more ns (some i) n m e = counts_more ns n m i e

pub row_count_more : (ns : List Word) (r n m : ℕ) (ts : List Thread) → through_row (counts ns) r n ts ≡ some m → n ≤ m
row_count_more ns r n m [] e = let f : n ≡ m = cc in omega arith
row_count_more ns r n m (t ∷ ts) e =
    let (k, f, g) = opt_some (opt (nth t r) (some n) (counts ns n)) (λ (k : ℕ). through_row (counts ns) r k ts) m e in
    let a = cell_more ns (nth t r) n k f in
    let b = row_count_more ns r k m ts g in
    omega arith

pub rows_count_more : (ns : List Word) (p : List Thread) (r n m h : ℕ) → through_rows (counts ns) p r n h ≡ some m → n ≤ m
rows_count_more ns p r n m zero e = let f : n ≡ m = cc in omega arith
rows_count_more ns p r n m (suc h) e =
    let (k, f, g) = opt_some (through_row (counts ns) r n p) (λ (k : ℕ). through_rows (counts ns) p (suc r) k h) m e in
    let a = row_count_more ns r n k p f in
    let b = rows_count_more ns p (suc r) k m h g in
    omega arith

-- a column's first r instructions
abbrev pub cut : ℕ → Column → Column
cut r c = record { name = c.name; code = take r c.code }

pub record Fits (c : Column) : Type 0 where
  pub few : length c.code ≤ 8
  pub ok : ok_t c.code ≡ true

abbrev pub AllFit : List Column → Type 0
AllFit [] = Unit {0}
AllFit (c ∷ cs) = Fits c × AllFit cs

nth_ok : (t : Thread) (r : ℕ) (i : I) → ok_t t ≡ true → nth t r ≡ some i → ok_i i ≡ true
nth_ok [] r i o e = absurd (let z : ◌≡◌ {A = ℕ} 0 1 = cc in omega arith)
nth_ok (j ∷ t) zero i o e = let is : j ≡ i = cc in ap ok_i (sym is) ∙ (and_parts (ok_i j) (ok_t t) o).0
nth_ok (j ∷ t) (suc r) i o e = nth_ok t r i (and_parts (ok_i j) (ok_t t) o).1 e

nth_within : (t : Thread) (r : ℕ) (i : I) → nth t r ≡ some i → r < length t
nth_within [] r i e = absurd (let z : ◌≡◌ {A = ℕ} 0 1 = cc in omega arith)
nth_within (j ∷ t) zero i e = omega arith
nth_within (j ∷ t) (suc r) i e = let h = nth_within t r i e in omega arith

take_no_more : (t : Thread) (r : ℕ) → nth t r ≡ none → take (suc r) t ≡ take r t
take_no_more [] zero e = refl
take_no_more [] (suc r) e = refl
take_no_more (j ∷ t) zero e = absurd (let z : ◌≡◌ {A = ℕ} 0 1 = cc in omega arith)
take_no_more (j ∷ t) (suc r) e = ap (λ (u : Thread). j ∷ u) (take_no_more t r e)

pub nth_mid : {A : Type 0} (D : List A) (c : A) (E : List A) → nth (D ++ c ∷ E) (length D) ≡ some c
nth_mid [] c E = refl
nth_mid (d ∷ D) c E = nth_mid D c E

put_mid : {A : Type 0} (D : List A) (c : A) (E : List A) (x : A) → put (D ++ c ∷ E) (length D) x ≡ D ++ x ∷ E
put_mid [] c E x = refl
put_mid (d ∷ D) c E x = ap (λ (l : List _). d ∷ l) (put_mid D c E x)

module _ (ns : List Word) (proper : Proper ns) where
  abbrev pub Within : ℕ → Type 0
  Within m = (length ns ≡ 0) ⊎ (m ≤ length ns)

  pub within_less : (n m : ℕ) → n ≤ m → Within m → Within n
  within_less n m l w = ⊎_elim (λ z. inl z) (λ h. inr (omega arith)) w

  -- one cell of row r
  record CellRead (D : List Column) (c : Column) (E : List Column) (k r m : ℕ) (ps : Places) : Type 0 where
    after : Places
    read : cell k (record { columns = D ++ cut r c ∷ E; places = ps }) (show_cell ns c (suc r)) ≡ some (record { columns = D ++ cut (suc r) c ∷ E; places = after })
    known : Known ns m after
    tidied : all tidy (show_cell ns c (suc r)) ≡ true

  module _ (D : List Column) (c : Column) (E : List Column) (k r n m : ℕ) (ps : Places) (at : k ≡ length D) (fits : Fits c) (known : Known ns n ps) (within : Within m) where
    here : nth (D ++ cut r c ∷ E) k ≡ some (cut r c)
    here = ap (nth (D ++ cut r c ∷ E)) at ∙ nth_mid D (cut r c) E

    there : (d : Column) → d ≡ cut (suc r) c → put (D ++ cut r c ∷ E) k d ≡ D ++ cut (suc r) c ∷ E
    there d e = ap (λ (j : ℕ). put (D ++ cut r c ∷ E) j d) at ∙ put_mid D (cut r c) E d ∙ ap (λ (x : Column). D ++ x ∷ E) e

    no_cell : nth c.code r ≡ none → m ≡ n → CellRead D c E k r m ps
    no_cell e f =
        let shown : show_cell ns c (suc r) ≡ [] = ap (λ (o : Option I). opt o [] (show_i ns)) e in
        let same : cut r c ≡ cut (suc r) c = ap (λ (t : Thread). record { name = c.name; code = t }) (sym (take_no_more c.code r e)) in
        record {
          after = ps;
          read =
              cell_is k (record { columns = D ++ cut r c ∷ E; places = ps }) (show_cell ns c (suc r)) (cut r c) here [] ps (cut r c) (ap tokens shown) refl
              ∙ ap (λ (cs : List Column). some (record { columns = cs; places = ps })) (there (cut r c) same);
          known = subst (λ (j : ℕ). Known ns j ps) (sym f) known;
          tidied = ap (all tidy) shown;
        }

    a_cell : (i : I) → nth c.code r ≡ some i → counts ns n i ≡ some m → CellRead D c E k r m ps
    a_cell i e f =
        let shown : show_cell ns c (suc r) ≡ show_i ns i = ap (λ (o : Option I). opt o [] (show_i ns)) e in
        let s : Said ns ps i m = said ns ps n m proper known within i (nth_ok c.code r i fits.ok e) f in
        let in_code = nth_within c.code r i e in
        let long : length (take r c.code) ≡ r = length-take-le r c.code (omega arith) in
        let few : length (take r c.code) < 8 = omega (arith, fits.few) in
        let same : longer (cut r c) i ≡ cut (suc r) c = ap (λ (t : Thread). record { name = c.name; code = t }) (take_one_more c.code r i e) in
        record {
          after = s.after;
          read =
              cell_is k (record { columns = D ++ cut r c ∷ E; places = ps }) (show_cell ns c (suc r)) (cut r c) here (s.first ∷ s.more) s.after (longer (cut r c) i) (ap tokens shown ∙ s.spelt)
              (one_more ps (cut r c) (s.first ∷ s.more) s.after i (omega arith) few s.read)
              ∙ ap (λ (cs : List Column). some (record { columns = cs; places = s.after })) (there (longer (cut r c) i) same);
          known = s.known;
          tidied = ap (all tidy) shown ∙ s.tidied;
        }

    by_cell : (o : Option I) → nth c.code r ≡ o → opt o (some n) (counts ns n) ≡ some m → CellRead D c E k r m ps
    by_cell none e f = let g : m ≡ n = cc in no_cell e g
    by_cell (some i) e f = a_cell i e f

  -- row r, where the columns D are filled already
  pub record RowRead (todo D : List Column) (k r m : ℕ) (ps : Places) : Type 0 where
    pub after : Places
    pub read : row k (record { columns = D ++ map (cut r) todo; places = ps }) (cells ns (suc r) todo) ≡ some (record { columns = D ++ map (cut (suc r)) todo; places = after })
    pub known : Known ns m after
    pub tidied : AllTidy ns (suc r) todo

  pub row_read : (todo D : List Column) (k r n m : ℕ) (ps : Places) → k ≡ length D → AllFit todo → Known ns n ps → through_row (counts ns) r n (map (λ (c : Column). c.code) todo) ≡ some m → Within m → RowRead todo D k r m ps
  row_read [] D k r n m ps at fits known e within = record {
    after = ps;
    read = refl;
    known = let f : n ≡ m = cc in subst (λ (j : ℕ). Known ns j ps) f known;
    tidied = tt;
  }
  row_read (c ∷ cs) D k r n m ps at fits known e within =
      let (j, f, g) = opt_some (opt (nth c.code r) (some n) (counts ns n)) (λ (j : ℕ). through_row (counts ns) r j (map (λ (c : Column). c.code) cs)) m e in
      let less = row_count_more ns r j m (map (λ (c : Column). c.code) cs) g in
      let one : CellRead D c (map (cut r) cs) k r j ps = by_cell D c (map (cut r) cs) k r n j ps at fits.0 known (within_less j m less within) (nth c.code r) refl f in
      let size = length_push D (cut (suc r) c) in
      let next : RowRead cs (D ++ cut (suc r) c ∷ []) (suc k) r m one.after = row_read cs (D ++ cut (suc r) c ∷ []) (suc k) r j m one.after (omega arith) fits.1 one.known g within in
      record {
        after = next.after;
        read =
            opt_is none (λ (s : Page). row (suc k) s (cells ns (suc r) cs)) one.read
            ∙ ap (λ (l : List Column). row (suc k) (record { columns = l; places = one.after }) (cells ns (suc r) cs)) (sym (append_assoc D (cut (suc r) c ∷ []) (map (cut r) cs)))
            ∙ next.read
            ∙ ap (λ (l : List Column). some (record { columns = l; places = next.after })) (append_assoc D (cut (suc r) c ∷ []) (map (cut (suc r)) cs));
        known = next.known;
        tidied = (one.tidied, next.tidied);
      }
