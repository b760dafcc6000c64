-- The listings that are read back as they were printed.
use Rattle.std.specs.Prelude.{◌≡◌, ℕ, zero, suc, ◌≤◌, Bool, true, not, ◌&&◌, T, List, [], ◌∷◌, length, ◌==◌, nat_lt}
use Rattle.std.proofs.Math.Option.{Option, some, none}
use Rattle.model.specs.Code.{pick, opt, nth, I, sets, adds, loads, stores, fence, Prog, ok}
use Rattle.text.specs.Bytes.{Word, digit, all, word, has}
use Rattle.text.specs.Grammar.{Column, names, Listing, program, reads}
use Rattle.text.specs.Shows.{height, shows}

-- each a word, and each once
abbrev pub apart : List Word → Bool
apart [] = true
apart (w ∷ ws) = word w && (not (has w ws) && apart ws)

-- no numeral
abbrev pub no_numerals : List Word → Bool
no_numerals [] = true
no_numerals (w ∷ ws) = not (all digit w) && no_numerals ws

-- how many places are seen, where n were and then x comes; none where one is passed over
abbrev pub see : ℕ → ℕ → Option ℕ
see n x = pick (nat_lt x n) (some n) (pick (x == n) (some (suc n)) none)

abbrev pub seen_i : ℕ → I → Option ℕ
seen_i n (sets r m) = some n
seen_i n (adds r a b) = some n
seen_i n (loads r x) = see n x
seen_i n (stores x r) = see n x
seen_i n fence = some n

-- a count carried through the j-th instruction of each thread, from left to right
abbrev pub through_row : (ℕ → I → Option ℕ) → ℕ → ℕ → Prog → Option ℕ
through_row f j n [] = some n
through_row f j n (t ∷ ts) = opt (opt (nth t j) (some n) (f n)) none (λ n. through_row f j n ts)

-- and through h rows from row j on
abbrev pub through_rows : (ℕ → I → Option ℕ) → Prog → ℕ → ℕ → ℕ → Option ℕ
through_rows f p j n zero = some n
through_rows f p j n (suc h) = opt (through_row f j n p) none (λ n. through_rows f p (suc j) n h)

-- the places are named by words in the order in which they first come, line by line and from left to right
pub record Ordered (ns : List Word) (p : Prog) : Type 0 where
  pub words : T (apart ns)
  pub no_numeral : T (no_numerals ns)
  pub few : length ns ≤ 8
  pub order : through_rows seen_i p 0 0 (height p) ≡ some (length ns)

-- places are numerals, or words in their order
abbrev pub Named : List Word → Prog → Type 0
Named [] p = Unit {0}
Named (n ∷ ns) p = Ordered (n ∷ ns) p

pub record Fine (l : Listing) : Type 0 where
  pub within : T (ok (program l))
  pub names : T (apart (names l.columns))
  pub places : Named l.places (program l)

-- what is printed of a fine listing is read back as that listing
abbrev pub RoundTrip : Type 0
RoundTrip = (l : Listing) → Fine l → reads (shows l) ≡ some l

-- a program with names for its threads, and numerals for its places
abbrev pub listed_columns : List Word → Prog → List Column
listed_columns [] p = []
listed_columns (w ∷ ws) [] = []
listed_columns (w ∷ ws) (t ∷ ts) = record { name = w; code = t } ∷ listed_columns ws ts

abbrev pub listed : List Word → Prog → Listing
listed ws p = record { columns = listed_columns ws p; places = [] }

-- so every program that words allow is printed, under any names for its threads, and read back as that program
abbrev pub EveryProgram : Type 0
EveryProgram = (ws : List Word) (p : Prog) → T (ok p) → T (apart ws) → length ws ≡ length p → (program (listed ws p) ≡ p) × (reads (shows (listed ws p)) ≡ some (listed ws p))
