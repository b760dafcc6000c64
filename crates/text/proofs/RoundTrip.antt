-- What is printed of a fine listing is read back as that listing.
use Rattle.std.proofs.Common.{◌≡◌, ℕ, zero, suc, ◌+◌, ◌<◌, ◌≤◌, Bool, true, false, not, ◌&&◌, T, leb, List, [], ◌∷◌, ◌++◌, map, length, take, sym, refl, ap, ◌∙◌, subst, inl, inr, append_assoc, append-nil, arith}
use mathlib.Core.Option.{Option, some, none}
use Rattle.std.proofs.lemmas.List.{length_push, length-map, map_push, take_all}
use Rattle.std.proofs.lemmas.Bool.{and_parts, and_left, or_from, leb-true}
use Rattle.std.proofs.lemmas.Bool.Decides.{nat_tests}
use Rattle.model.specs.Code.{opt, nth, I, Thread, Prog, ok_t, ok_ts, ok}
use Rattle.text.specs.Bytes.{Word, letter, blank, all, empty, word, same, has, pieces}
use Rattle.text.specs.Grammar.{Column, names, Listing, program, Places, Page, begins, each, line, blank_page, whole, reads}
use Rattle.text.specs.Shows.{show_i, show_cell, show_line, show_lines, height, shows}
use Rattle.text.specs.Fine.{apart, through_row, through_rows, Named, RoundTrip, listed, EveryProgram}
use Rattle.text.proofs.Columns.{opt_some, rows_count_more, cut, AllFit, nth_mid, Within, within_less, RowRead, row_read}
use Rattle.text.proofs.Headings.{a_name, begins_is}
use Rattle.text.proofs.Lines.{cells, AllTidy, row_alike, begins_alike, line_alike, line_lined, line_dark, line_is}
use Rattle.text.proofs.Ordering.{other, parts, Proper, Known, counts, nth_some}
use Rattle.text.proofs.Picks.{pick_false, opt_is}
use Rattle.text.proofs.Sayings.{dark}
use Rattle.text.proofs.Spelling.{spell_last}
use Rattle.text.proofs.Tidy.{word_tidy, no_line_end, pieces_at}

T_true : (b : Bool) → T b → b ≡ true
T_true true t = refl
T_true false t = absurd t

-- the line that names the threads
apart_mid : (xs ys : List Word) (w : Word) → apart (xs ++ w ∷ ys) ≡ true → (word w ≡ true) × (has w xs ≡ false)
apart_mid [] ys w a = ((parts w ys a).is_word, refl)
apart_mid (v ∷ xs) ys w a =
    let p = parts v (xs ++ w ∷ ys) a in
    let h = apart_mid xs ys w p.rest in
    (h.0, or_from (same w v) (has w xs) (other v w (xs ++ w ∷ ys) (length xs) p.once (nth_mid xs w ys)) h.1)

names_read : (ns : List Word) (todo D : List Column) (ws : List Word) (ps : Places) → names D ≡ ws → apart (ws ++ names todo) ≡ true → length D + length todo ≤ 4 → each begins (record { columns = D; places = ps }) (cells ns 0 todo) ≡ some (record { columns = D ++ map (cut 0) todo; places = ps })
names_read ns [] D ws ps e a l = ap (λ (cs : List Column). some (record { columns = cs; places = ps })) (sym (append-nil D))
names_read ns (c ∷ cs) D ws ps e a l =
    let w = c.name in
    let page : Page = record { columns = D; places = ps } in
    let p = apart_mid ws (names cs) w a in
    let size = length-map D (λ (c : Column). c.name) in
    let known : has w (names D) ≡ false = ap (has w) e ∙ p.1 in
    let longer = length_push D (cut 0 c) in
    let next : names (D ++ cut 0 c ∷ []) ≡ ws ++ w ∷ [] = map_push (λ (c : Column). c.name) D (cut 0 c) ∙ ap (λ (l : List Word). l ++ w ∷ []) e in
    opt_is none (λ (s : Page). each begins s (cells ns 0 cs)) (begins_is page w (w ∷ []) (spell_last [] w p.0) w (a_name (names D) w p.0 known (omega arith)))
    ∙ names_read ns cs (D ++ cut 0 c ∷ []) (ws ++ w ∷ []) ps next (ap apart (append_assoc ws (w ∷ []) (names cs)) ∙ a) (omega arith)
    ∙ ap (λ (l : List Column). some (record { columns = l; places = ps })) (append_assoc D (cut 0 c ∷ []) (map (cut 0) cs))

names_tidy : (ns : List Word) (cs : List Column) → apart (names cs) ≡ true → AllTidy ns 0 cs
names_tidy ns [] a = tt
names_tidy ns (c ∷ cs) a =
    let p = parts c.name (names cs) a in
    (word_tidy c.name (and_parts (not (empty c.name)) (all letter c.name) p.is_word).1, names_tidy ns cs p.rest)

word_dark : (w : Word) → word w ≡ true → all blank w ≡ false
word_dark [] e = absurd (let z : ◌≡◌ {A = ℕ} 0 1 = cc in omega arith)
word_dark (b ∷ w) e = and_left (blank b) (all blank w) (no_blank (and_parts (letter b) (all letter w) e).0)
  where
    no_blank : letter b ≡ true → blank b ≡ false
    no_blank f = grind (arith, nat_tests)

-- rows of columns that fit, as many as the longest has
fit : (cs : List Column) → ok_ts (map (λ (c : Column). c.code) cs) ≡ true → AllFit cs
fit [] o = tt
fit (c ∷ cs) o =
    let p = and_parts (leb (length c.code) 8) (ok_t c.code && ok_ts (map (λ (c : Column). c.code) cs)) o in
    let q = and_parts (ok_t c.code) (ok_ts (map (λ (c : Column). c.code) cs)) p.1 in
    (record { few = leb-true (length c.code) 8 p.0; ok = q.0 }, fit cs q.1)

whole_cut : (cs : List Column) (h : ℕ) → height (map (λ (c : Column). c.code) cs) ≤ h → map (cut h) cs ≡ cs
whole_cut [] h l = refl
whole_cut (c ∷ cs) h l =
    let front : record { name = c.name; code = take h c.code } ≡ c = ap (λ (t : Thread). record { name = c.name; code = t }) (take_all h c.code (omega arith)) in
    (λ i. front i ∷ whole_cut cs h (omega arith) i)

-- r and m more
abbrev up : ℕ → ℕ → ℕ
up r zero = r
up r (suc m) = up (suc r) m

up_is : (r m : ℕ) → up r m ≡ r + m
up_is r zero = omega arith
up_is r (suc m) = let e = up_is (suc r) m in omega arith

module _ (ns : List Word) (proper : Proper ns) (c : Column) (ds : List Column) (fits : AllFit (c ∷ ds)) where
  abbrev listing : Listing
  listing = record { columns = c ∷ ds; places = ns }

  abbrev threads : Prog
  threads = program listing

  abbrev at : ℕ → Places → Page
  at r ps = record { columns = map (cut r) (c ∷ ds); places = ps }

  -- a row has something to say in its only column
  row_dark : (r : ℕ) → r < height threads → length ds ≡ 0 → all blank (show_cell ns c (suc r)) ≡ false
  row_dark r l none_more =
      let short = height_one ds none_more in
      let (i, e) = nth_some c.code r (omega arith) in
      ap (λ (o : Option I). all blank (opt o [] (show_i ns))) e ∙ dark ns i
    where
      height_one : (ds : List Column) → length ds ≡ 0 → height (map (λ (c : Column). c.code) ds) ≡ 0
      height_one [] e = refl
      height_one (d ∷ ds) e = absurd (omega arith)

  record RowsRead (r m t : ℕ) (ps : Places) : Type 0 where
    after : Places
    read : each line (at r ps) (pieces 10 (show_lines listing (suc r) m)) ≡ some (at (up r m) after)
    known : Known ns t after

  rows_read : (m r n t : ℕ) (ps : Places) → Known ns n ps → through_rows (counts ns) threads r n m ≡ some t → Within ns proper t → r + m ≡ height threads → RowsRead r m t ps
  rows_read zero r n t ps known e within h = record {
    after = ps;
    read = refl;
    known = let f : n ≡ t = cc in subst (λ (j : ℕ). Known ns j ps) f known;
  }
  rows_read (suc m) r n t ps known e within h =
      let (j, f, g) = opt_some (through_row (counts ns) r n threads) (λ (j : ℕ). through_rows (counts ns) threads (suc r) j m) t e in
      let less = rows_count_more ns threads (suc r) j t m g in
      let one : RowRead ns proper (c ∷ ds) [] 0 r j ps = row_read ns proper (c ∷ ds) [] 0 r n j ps refl fits known f (within_less ns proper j t less within) in
      let next : RowsRead (suc r) m t one.after = rows_read m (suc r) j t one.after one.known g within (omega arith) in
      let text = show_line ns (suc r) (c ∷ ds) in
      let neat = line_lined ns (suc r) (c ∷ ds) one.tidied in
      let said : line (at r ps) text ≡ some (at (suc r) one.after) =
      line_is (at r ps) text neat ∙ pick_false _ _ (line_dark ns (suc r) c ds (row_dark r (omega arith)))
      ∙ row_alike (pieces 124 text) (cells ns (suc r) (c ∷ ds)) (line_alike ns (suc r) c ds one.tidied) 0 (at r ps) ∙ one.read in
      record {
        after = next.after;
        read =
            ap (each line (at r ps)) (pieces_at 10 text (show_lines listing (suc (suc r)) m) (no_line_end text neat))
            ∙ opt_is none (λ (s : Page). each line s (pieces 10 (show_lines listing (suc (suc r)) m))) said ∙ next.read;
        known = next.known;
      }

  -- the whole text
  module _ (named : apart (names (c ∷ ds)) ≡ true) (four : length (c ∷ ds) ≤ 4) (t : ℕ) (order : through_rows (counts ns) threads 0 0 (height threads) ≡ some t) (within : Within ns proper t) (start : Known ns 0 (record { numerals = false; words = [] })) (all_named : (ps : Places) → Known ns t ps → ps.words ≡ ns) where
    pub read_back : reads (shows listing) ≡ some listing
    read_back =
        let first : Places = record { numerals = false; words = [] } in
        let text = show_line ns 0 (c ∷ ds) in
        let clean = names_tidy ns (c ∷ ds) named in
        let neat = line_lined ns 0 (c ∷ ds) clean in
        let heading : line blank_page text ≡ some (at 0 first) =
        line_is blank_page text neat ∙ pick_false _ _ (line_dark ns 0 c ds (λ _. word_dark c.name (parts c.name (names ds) named).is_word))
        ∙ begins_alike (pieces 124 text) (cells ns 0 (c ∷ ds)) (line_alike ns 0 c ds clean) blank_page
        ∙ names_read ns (c ∷ ds) [] [] first refl named (omega arith) in
        let rows : RowsRead 0 (height threads) t first = rows_read (height threads) 0 0 t first start order within (omega arith) in
        let filled : each line blank_page (pieces 10 (shows listing)) ≡ some (at (up 0 (height threads)) rows.after) =
        ap (each line blank_page) (pieces_at 10 text (show_lines listing 1 (height threads)) (no_line_end text neat))
        ∙ opt_is none (λ (s : Page). each line s (pieces 10 (show_lines listing 1 (height threads)))) heading ∙ rows.read in
        let all_rows = up_is 0 (height threads) in
        opt_is none whole filled
        ∙ (λ i. some (record { columns = whole_cut (c ∷ ds) (up 0 (height threads)) (omega arith) i; places = all_named rows.after rows.known i }))

-- with numerals for places there is nothing to count
no_count_row : (r : ℕ) (ts : List Thread) → through_row (counts []) r 0 ts ≡ some 0
no_count_row r [] = refl
no_count_row r (t ∷ ts) = opt_is none (λ (n : ℕ). through_row (counts []) r n ts) (one (nth t r)) ∙ no_count_row r ts
  where
    one : (o : Option I) → opt o (some 0) (counts [] 0) ≡ some 0
    one none = refl
    one (some i) = refl

no_count : (p : Prog) (r h : ℕ) → through_rows (counts []) p r 0 h ≡ some 0
no_count p r zero = refl
no_count p r (suc h) = opt_is none (λ (n : ℕ). through_rows (counts []) p (suc r) n h) (no_count_row r p) ∙ no_count p (suc r) h

within_limits : (c : Column) (ds : List Column) → ok (map (λ (c : Column). c.code) (c ∷ ds)) ≡ true → AllFit (c ∷ ds) × (length (c ∷ ds) ≤ 4)
within_limits c ds o =
    let p = map (λ (c : Column). c.code) (c ∷ ds) in
    let q = and_parts (leb 1 (length p)) (leb (length p) 4 && ok_ts p) o in
    let r = and_parts (leb (length p) 4) (ok_ts p) q.1 in
    let few = leb-true (length p) 4 r.0 in
    let size = length-map (c ∷ ds) (λ (c : Column). c.code) in
    (fit (c ∷ ds) r.1, omega arith)

pub round_trip : RoundTrip
round_trip l fine = go l.columns l.places (T_true _ fine.within) (T_true _ fine.names) fine.places
  where
    go : (cs : List Column) (ns : List Word) → ok (map (λ (c : Column). c.code) cs) ≡ true → apart (names cs) ≡ true → Named ns (map (λ (c : Column). c.code) cs) → reads (shows (record { columns = cs; places = ns })) ≡ some (record { columns = cs; places = ns })
    go [] ns o a h = absurd (let z : ◌≡◌ {A = ℕ} 0 1 = cc in omega arith)
    go (c ∷ ds) [] o a h =
        let (fits, four) = within_limits c ds o in
        read_back [] tt c ds fits a four 0 (no_count (map (λ (c : Column). c.code) (c ∷ ds)) 0 (height (map (λ (c : Column). c.code) (c ∷ ds)))) (inl refl) refl (λ ps k. k)
    go (c ∷ ds) (w ∷ ws) o a h =
        let (fits, four) = within_limits c ds o in
        read_back (w ∷ ws) (T_true _ h.words, T_true _ h.no_numeral, h.few) c ds fits a four (length (w ∷ ws)) h.order (inr (omega arith)) (refl, refl) (λ ps k. k.1 ∙ take_all (length (w ∷ ws)) (w ∷ ws) (omega arith))

-- columns from names and threads
listed_program : (ws : List Word) (p : Prog) → length ws ≡ length p → program (listed ws p) ≡ p
listed_program [] [] e = refl
listed_program [] (t ∷ ts) e = absurd (omega arith)
listed_program (w ∷ ws) [] e = absurd (omega arith)
listed_program (w ∷ ws) (t ∷ ts) e = ap (λ (p : Prog). t ∷ p) (listed_program ws ts (omega arith))

listed_names : (ws : List Word) (p : Prog) → length ws ≡ length p → names (listed ws p).columns ≡ ws
listed_names [] [] e = refl
listed_names [] (t ∷ ts) e = absurd (omega arith)
listed_names (w ∷ ws) [] e = absurd (omega arith)
listed_names (w ∷ ws) (t ∷ ts) e = ap (λ (l : List Word). w ∷ l) (listed_names ws ts (omega arith))

pub every_program : EveryProgram
every_program ws p o a e =
    let is = listed_program ws p e in (
      is,
      round_trip (listed ws p) (record {
        within = subst (λ (q : Prog). T (ok q)) (sym is) o;
        names = subst (λ (l : List Word). T (apart l)) (sym (listed_names ws p e)) a;
        places = tt;
      }),
    )
