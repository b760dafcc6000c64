-- What a text says: the listing that it is read as, or that it is refused.
-- The first line that is not blank names the threads; each line after it has a cell for each thread, from top to
-- bottom their instructions. Reading goes line by line, and in a line from left to right, with a page of what has
-- been read so far.
use Rattle.std.specs.Prelude.{ℕ, suc, ◌-◌, Bool, true, false, not, ◌&&◌, List, [], ◌∷◌, ◌++◌, map, length, codes, ◌==◌, nat_lt}
use Rattle.std.proofs.Math.Option.{Option, some, none}
use Rattle.model.specs.Code.{pick, opt, nth, put, I, sets, adds, loads, stores, fence, Thread, Prog}
use Rattle.text.specs.Bytes.{Word, within, digit, blank, plain, all, empty, word, same, index_of, has, pieces, before, no_cr, tokens}

-- a thread with its name
pub record Column : Type 0 where
  pub name : Word
  pub code : Thread

abbrev pub names : List Column → List Word
names cs = map (λ (c : Column). c.name) cs

-- a program with its names: its threads, and the words that its places are named by, in the places' order (no words
-- where the places are numerals)
pub record Listing : Type 0 where
  pub columns : List Column
  pub places : List Word

abbrev pub program : Listing → Prog
program l = map (λ (c : Column). c.code) l.columns

-- how places are named so far: by numerals, or by words, of which these have come
pub record Places : Type 0 where
  pub numerals : Bool
  pub words : List Word

-- what has been read so far; no columns where the first line has not come yet
pub record Page : Type 0 where
  pub columns : List Column
  pub places : Places

-- r0 to r3
abbrev pub register : Word → Option ℕ
register [] = none
register (b ∷ []) = none
register (b ∷ c ∷ []) = pick (b == 114 && within 48 51 c) (some (c - 48)) none
register (b ∷ c ∷ d ∷ w) = none

-- 0 to 15, without noughts in front
abbrev pub number : Word → Option ℕ
number [] = none
number (b ∷ []) = pick (digit b) (some (b - 48)) none
number (b ∷ c ∷ []) = pick (b == 49 && within 48 53 c) (some (c - 38)) none
number (b ∷ c ∷ d ∷ w) = none

-- 0 to 7
abbrev pub numeral : Word → Option ℕ
numeral [] = none
numeral (b ∷ []) = pick (within 48 55 b) (some (b - 48)) none
numeral (b ∷ c ∷ w) = none

-- a place by its numeral, unless places are named by words
abbrev pub by_numeral : Places → Word → Option (Places × ℕ)
by_numeral ps w = pick (empty ps.words) (opt (numeral w) none (λ x. some (record { numerals = true; words = ps.words }, x))) none

-- a place by its word, unless places are named by numerals: the one of that name, else the next, of eight
abbrev pub by_word : Places → Word → Option (Places × ℕ)
by_word ps w =
    pick ps.numerals none
    (opt (index_of w ps.words)
    (pick (nat_lt (length ps.words) 8) (some (record { numerals = false; words = ps.words ++ w ∷ [] }, length ps.words)) none)
    (λ x. some (ps, x)))

-- a word of digits alone is a numeral
abbrev pub place : Places → Word → Option (Places × ℕ)
place ps w = pick (word w) (pick (all digit w) (by_numeral ps w) (by_word ps w)) none

-- r1 = r2 + r3
abbrev pub sum : Places → Word → Word → Word → Option (Places × I)
sum ps r a b = opt (register r) none (λ r. opt (register a) none (λ a. opt (register b) none (λ b. some (ps, adds r a b))))

-- r1 = [place]
abbrev pub load : Places → Word → Word → Option (Places × I)
load ps r x = opt (register r) none (λ r. opt (place ps x) none (λ q. some (q.0, loads r q.1)))

-- [place] = r1
abbrev pub store : Places → Word → Word → Option (Places × I)
store ps x r = opt (place ps x) none (λ q. opt (register r) none (λ r. some (q.0, stores q.1 r)))

-- r1 = 7
abbrev pub set : Places → Word → Word → Option (Places × I)
set ps r n = opt (register r) none (λ r. opt (number n) none (λ n. some (ps, sets r n)))

-- the instruction of these tokens
abbrev pub instruction : Places → List Word → Option (Places × I)
instruction ps [] = none
instruction ps (a ∷ []) = pick (same a (codes "fence")) (some (ps, fence)) none
instruction ps (a ∷ b ∷ []) = none
instruction ps (a ∷ b ∷ c ∷ []) = pick (same b (codes "=")) (set ps a c) none
instruction ps (a ∷ b ∷ c ∷ d ∷ []) = none
instruction ps (a ∷ b ∷ c ∷ d ∷ e ∷ []) =
    pick (same b (codes "=") && same d (codes "+")) (sum ps a c e)
    (pick (same b (codes "=") && (same c (codes "[") && same e (codes "]"))) (load ps a d)
    (pick (same a (codes "[") && (same c (codes "]") && same d (codes "="))) (store ps b e) none))
instruction ps (a ∷ b ∷ c ∷ d ∷ e ∷ f ∷ ts) = none

-- i behind the others
abbrev pub longer : Column → I → Column
longer c i = record { name = c.name; code = c.code ++ i ∷ [] }

-- a cell of the column c with these tokens: none say nothing, others are an instruction, of at most eight
abbrev pub does : Places → Column → List Word → Option (Places × Column)
does ps c [] = some (ps, c)
does ps c (t ∷ ts) =
    pick (nat_lt (length c.code) 8) (opt (instruction ps (t ∷ ts)) none (λ q. some (q.0, longer c q.1))) none

-- a cell of column k, if there is one
abbrev pub cell : ℕ → Page → List ℕ → Option Page
cell k s bs =
    opt (nth s.columns k) none (λ c. opt (tokens bs) none (λ ts. opt (does s.places c ts) none (λ q.
    some (record { columns = put s.columns k q.1; places = q.0 }))))

-- the cells of a line from column k on
abbrev pub row : ℕ → Page → List (List ℕ) → Option Page
row k s [] = some s
row k s (c ∷ cs) = opt (cell k s c) none (λ s. row (suc k) s cs)

-- the tokens of a thread's name: one word that is none of ns, of which there are at most three
abbrev pub name : List Word → List Word → Option Word
name ns [] = none
name ns (w ∷ []) = pick (word w && (not (has w ns) && nat_lt (length ns) 4)) (some w) none
name ns (w ∷ v ∷ ws) = none

-- one column more
abbrev pub begin : Page → Word → Page
begin s w = record { columns = s.columns ++ record { name = w; code = [] } ∷ []; places = s.places }

-- a cell of the line that names the threads
abbrev pub begins : Page → List ℕ → Option Page
begins s c = opt (tokens c) none (λ ts. opt (name (names s.columns) ts) none (λ w. some (begin s w)))

-- one piece of text after another
abbrev pub each : (Page → List ℕ → Option Page) → Page → List (List ℕ) → Option Page
each f s [] = some s
each f s (p ∷ ps) = opt (f s p) none (λ s. each f s ps)

-- what stands in a line before a comment
abbrev pub content : Page → List ℕ → Option Page
content s c = pick (all blank c) (some s) (pick (empty s.columns) (each begins s (pieces 124 c)) (row 0 s (pieces 124 c)))

-- a line: text throughout; `#` begins a comment
abbrev pub line : Page → List ℕ → Option Page
line s l = pick (all plain (no_cr l)) (content s (before 35 (no_cr l))) none

abbrev pub blank_page : Page
blank_page = record { columns = []; places = record { numerals = false; words = [] } }

-- a page is whole once the threads are named
abbrev pub whole : Page → Option Listing
whole s = pick (empty s.columns) none (some (record { columns = s.columns; places = s.places.words }))

-- the listing that a text says; none where it is refused
abbrev pub reads : List ℕ → Option Listing
reads text = opt (each line blank_page (pieces 10 text)) none whole
