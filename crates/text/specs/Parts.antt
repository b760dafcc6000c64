-- What the printer puts down for one column of a line.
use Rattle.std.specs.Prelude.{ℕ, zero, suc, ◌-◌, Bool, true, false, ◌&&◌, List, [], ◌∷◌, ◌++◌, length, replicate, codes}
use Rattle.text.specs.Bytes.{Word, empty}
use Rattle.text.specs.Grammar.{Column}
use Rattle.text.specs.Shows.{show_cell, width}

-- the blank before column k: none before the first, and none where nothing follows
abbrev pub gap : ℕ → Bool → List ℕ
gap zero nothing = []
gap (suc k) true = []
gap (suc k) false = 32 ∷ []

-- what stands behind a cell: nothing behind the last, else n blanks and a bar
abbrev pub behind : Bool → ℕ → List ℕ
behind true n = []
behind false n = replicate n 32 ++ codes " |"

-- column k of line j, the last one or not
abbrev pub part : List Word → ℕ → ℕ → Bool → Column → List ℕ
part ns j k last c =
    gap k (last && empty (show_cell ns c j)) ++ (show_cell ns c j ++ behind last (width ns c - length (show_cell ns c j)))
