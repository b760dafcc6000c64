-- Printed lines: cut into cells again, they say what the cells say.
use Rattle.std.proofs.Common.{◌≡◌, ℕ, suc, ◌-◌, true, false, List, [], ◌∷◌, ◌++◌, map, length, replicate, codes, sym, refl, ap, ◌∙◌, subst, append_assoc}
use mathlib.Core.Option.{Option, some, none}
use Rattle.std.proofs.lemmas.Bool.{and_right}
use Rattle.model.specs.Code.{opt, nth, put}
use Rattle.text.specs.Bytes.{Word, blank, all, cut, pieces, tokens}
use Rattle.text.specs.Grammar.{Places, Column, Page, names, name, does, cell, row, begin, begins, each, content, line}
use Rattle.text.specs.Shows.{show_cell, width, spaced, filled, show_line}
use Rattle.text.proofs.Picks.{pick_true}
use Rattle.text.proofs.Scanning.{at, pass_blank}
use Rattle.text.proofs.Spelling.{trailing}
use Rattle.text.proofs.Tidy.{tidy, lined, all_append, all_replicate, lined_from, no_bar, line_plain, line_content, pieces_at, pieces_one}

-- the cells of line j
abbrev pub cells : List Word → ℕ → List Column → List (List ℕ)
cells ns j cs = map (λ (c : Column). show_cell ns c j) cs

abbrev pub AllTidy : List Word → ℕ → List Column → Type 0
AllTidy ns j [] = Unit {0}
AllTidy ns j (c ∷ cs) = (all tidy (show_cell ns c j) ≡ true) × AllTidy ns j cs

-- pieces with the same tokens
abbrev pub Alike : List (List ℕ) → List (List ℕ) → Type 0
Alike [] [] = Unit {0}
Alike [] (c ∷ cs) = ⊥
Alike (p ∷ ps) [] = ⊥
Alike (p ∷ ps) (c ∷ cs) = (tokens p ≡ tokens c) × Alike ps cs

-- pieces count only by their tokens
pub row_alike : (ps cs : List (List ℕ)) → Alike ps cs → (k : ℕ) (s : Page) → row k s ps ≡ row k s cs
row_alike [] [] h k s = refl
row_alike [] (c ∷ cs) h k s = absurd h
row_alike (p ∷ ps) [] h k s = absurd h
row_alike (p ∷ ps) (c ∷ cs) h k s =
    ap (λ (o : Option (List Word)). opt (opt (nth s.columns k) none (λ (d : Column). opt o none (λ (ts : List Word). opt (does s.places d ts) none (λ (q : Places × Column). some (record { columns = put s.columns k q.1; places = q.0 }))))) none (λ (t : Page). row (suc k) t ps)) h.0
    ∙ go (cell k s c) (λ t. row_alike ps cs h.1 (suc k) t)
  where
    go : (o : Option Page) → ((t : Page) → row (suc k) t ps ≡ row (suc k) t cs) → opt o none (λ (t : Page). row (suc k) t ps) ≡ opt o none (λ (t : Page). row (suc k) t cs)
    go none f = refl
    go (some t) f = f t

pub begins_alike : (ps cs : List (List ℕ)) → Alike ps cs → (s : Page) → each begins s ps ≡ each begins s cs
begins_alike [] [] h s = refl
begins_alike [] (c ∷ cs) h s = absurd h
begins_alike (p ∷ ps) [] h s = absurd h
begins_alike (p ∷ ps) (c ∷ cs) h s =
    ap (λ (o : Option (List Word)). opt (opt o none (λ (ts : List Word). opt (name (names s.columns) ts) none (λ (w : Word). some (begin s w)))) none (λ (t : Page). each begins t ps)) h.0
    ∙ go (begins s c) (λ t. begins_alike ps cs h.1 t)
  where
    go : (o : Option Page) → ((t : Page) → each begins t ps ≡ each begins t cs) → opt o none (λ (t : Page). each begins t ps) ≡ opt o none (λ (t : Page). each begins t cs)
    go none f = refl
    go (some t) f = f t

-- a blank before the first piece
spaced_alike : (bs : List ℕ) (c : List ℕ) (cs : List (List ℕ)) → Alike (pieces 124 bs) (c ∷ cs) → Alike (pieces 124 (spaced bs)) (c ∷ cs)
spaced_alike [] c cs h = h
spaced_alike (b ∷ bs) c cs h = go (pieces 124 (b ∷ bs)) h
  where
    go : (ps : List (List ℕ)) → Alike ps (c ∷ cs) → Alike (cut false 32 ps) (c ∷ cs)
    go [] h = absurd h
    go (p ∷ ps) h = (pass_blank [] 32 p refl ∙ h.0, h.1)

module _ (ns : List Word) (j : ℕ) where
  filled_tidy : (c : Column) → all tidy (show_cell ns c j) ≡ true → all tidy (filled ns c j ++ 32 ∷ []) ≡ true
  filled_tidy c e = all_append tidy (filled ns c j) (32 ∷ []) (all_append tidy (show_cell ns c j) (replicate (width ns c - length (show_cell ns c j)) 32) e (all_replicate tidy (width ns c - length (show_cell ns c j)) 32 refl)) refl

  pub line_alike : (c : Column) (cs : List Column) → AllTidy ns j (c ∷ cs) → Alike (pieces 124 (show_line ns j (c ∷ cs))) (cells ns j (c ∷ cs))
  line_alike c [] h = subst (λ (ps : List (List ℕ)). Alike ps (cells ns j (c ∷ []))) (sym (pieces_one 124 (show_cell ns c j) (no_bar (show_cell ns c j) h.0))) (refl, tt)
  line_alike c (d ∷ cs) h =
      let rest = spaced (show_line ns j (d ∷ cs)) in
      let n = width ns c - length (show_cell ns c j) in
      let whole : show_line ns j (c ∷ d ∷ cs) ≡ (filled ns c j ++ 32 ∷ []) ++ 124 ∷ rest = sym (append_assoc (filled ns c j) (32 ∷ []) (124 ∷ rest)) in
      let parts = ap (pieces 124) whole ∙ pieces_at 124 (filled ns c j ++ 32 ∷ []) rest (no_bar (filled ns c j ++ 32 ∷ []) (filled_tidy c h.0)) in
      let same : tokens (filled ns c j ++ 32 ∷ []) ≡ tokens (show_cell ns c j) = trailing (at [] []) (filled ns c j) 1 ∙ trailing (at [] []) (show_cell ns c j) n in
      subst (λ (ps : List (List ℕ)). Alike ps (cells ns j (c ∷ d ∷ cs))) (sym parts) (same, spaced_alike (show_line ns j (d ∷ cs)) (show_cell ns d j) (cells ns j cs) (line_alike d cs h.1))

  spaced_lined : (bs : List ℕ) → all lined bs ≡ true → all lined (spaced bs) ≡ true
  spaced_lined [] e = refl
  spaced_lined (b ∷ bs) e = e

  pub line_lined : (cs : List Column) → AllTidy ns j cs → all lined (show_line ns j cs) ≡ true
  line_lined [] h = refl
  line_lined (c ∷ []) h = lined_from (show_cell ns c j) h.0
  line_lined (c ∷ d ∷ cs) h =
      all_append lined (filled ns c j) (codes " |" ++ spaced (show_line ns j (d ∷ cs)))
      (lined_from (filled ns c j) (all_append tidy (show_cell ns c j) (replicate (width ns c - length (show_cell ns c j)) 32) h.0 (all_replicate tidy (width ns c - length (show_cell ns c j)) 32 refl)))
      (spaced_lined (show_line ns j (d ∷ cs)) (line_lined (d ∷ cs) h.1))

all_blank_append : (xs ys : List ℕ) → all blank ys ≡ false → all blank (xs ++ ys) ≡ false
all_blank_append [] ys e = e
all_blank_append (x ∷ xs) ys e = and_right (blank x) (all blank (xs ++ ys)) (all_blank_append xs ys e)

-- a line of one cell is blank only where the cell is, and a line of several never
pub line_dark : (ns : List Word) (j : ℕ) (c : Column) (cs : List Column) → (length cs ≡ 0 → all blank (show_cell ns c j) ≡ false) → all blank (show_line ns j (c ∷ cs)) ≡ false
line_dark ns j c [] h = h refl
line_dark ns j c (d ∷ cs) h = all_blank_append (filled ns c j) (codes " |" ++ spaced (show_line ns j (d ∷ cs))) refl

-- a printed line is all content
pub line_is : (s : Page) (bs : List ℕ) → all lined bs ≡ true → line s bs ≡ content s bs
line_is s bs e = pick_true _ _ (line_plain bs e) ∙ ap (content s) (line_content bs e)
