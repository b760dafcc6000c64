-- How a program with its names is printed: a line for the names, then a line for each row of cells, lined up in
-- columns. It says what is printed of any listing; that it is read back is said of fine ones (Fine).
use Rattle.std.specs.Prelude.{ℕ, zero, suc, ◌-◌, max, List, [], ◌∷◌, ◌++◌, length, replicate, codes, decimal}
use Rattle.model.specs.Code.{opt, nth, I, sets, adds, loads, stores, fence, Thread, Prog}
use Rattle.text.specs.Bytes.{Word}
use Rattle.text.specs.Grammar.{Column, Listing, program}

abbrev pub show_register : ℕ → Word
show_register r = 114 ∷ decimal r

-- a place by its name, or by its numeral where it has none
abbrev pub show_place : List Word → ℕ → Word
show_place ns x = opt (nth ns x) (decimal x) (λ w. w)

abbrev pub show_i : List Word → I → List ℕ
show_i ns (sets r n) = show_register r ++ (codes " = " ++ decimal n)
show_i ns (adds r a b) = show_register r ++ (codes " = " ++ (show_register a ++ (codes " + " ++ show_register b)))
show_i ns (loads r x) = show_register r ++ (codes " = [" ++ (show_place ns x ++ codes "]"))
show_i ns (stores x r) = codes "[" ++ (show_place ns x ++ (codes "] = " ++ show_register r))
show_i ns fence = codes "fence"

-- the cell of a column in line j: the thread's name in line 0, its j-th instruction in line j, or nothing
abbrev pub show_cell : List Word → Column → ℕ → List ℕ
show_cell ns c zero = c.name
show_cell ns c (suc j) = opt (nth c.code j) [] (show_i ns)

-- w, or more where one of the instructions needs more
abbrev pub widest : List Word → ℕ → Thread → ℕ
widest ns w [] = w
widest ns w (i ∷ is) = widest ns (max w (length (show_i ns i))) is

abbrev pub width : List Word → Column → ℕ
width ns c = widest ns (length c.name) c.code

-- a blank before what is not empty
abbrev pub spaced : List ℕ → List ℕ
spaced [] = []
spaced (b ∷ bs) = 32 ∷ b ∷ bs

-- a cell filled up with blanks to its column's width
abbrev pub filled : List Word → Column → ℕ → List ℕ
filled ns c j = show_cell ns c j ++ replicate (width ns c - length (show_cell ns c j)) 32

-- line j of these columns: each cell but the last is filled up, and ` | ` stands between two, without its last blank
-- where nothing follows
abbrev pub show_line : List Word → ℕ → List Column → List ℕ
show_line ns j [] = []
show_line ns j (c ∷ []) = show_cell ns c j
show_line ns j (c ∷ d ∷ cs) = filled ns c j ++ (codes " |" ++ spaced (show_line ns j (d ∷ cs)))

-- n lines from line j on
abbrev pub show_lines : Listing → ℕ → ℕ → List ℕ
show_lines l j zero = []
show_lines l j (suc n) = show_line l.places j l.columns ++ (10 ∷ show_lines l (suc j) n)

-- as many instructions as the longest thread has
abbrev pub height : Prog → ℕ
height [] = 0
height (t ∷ ts) = max (length t) (height ts)

abbrev pub shows : Listing → List ℕ
shows l = show_lines l 0 (suc (height (program l)))
