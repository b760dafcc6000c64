-- Bytes, words, and a text cut into pieces, lines and tokens. A text is the list of its bytes.
use Rattle.std.specs.Prelude.{ℕ, suc, Bool, true, false, not, ◌&&◌, ◌||◌, List, [], ◌∷◌, ◌++◌, take, ◌==◌, nat_le}
use Rattle.std.proofs.Math.Option.{Option, some, none}
use Rattle.model.specs.Code.{pick, opt}

abbrev pub Word : Type 0
Word = List ℕ

-- b lies between a and z
abbrev pub within : ℕ → ℕ → ℕ → Bool
within a z b = nat_le a b && nat_le b z

abbrev pub digit : ℕ → Bool
digit b = within 48 57 b

-- what words are made of: letters, digits, `_` and `-`
abbrev pub letter : ℕ → Bool
letter b = within 97 122 b || (within 65 90 b || (digit b || (b == 95 || b == 45)))

-- a blank or a tab
abbrev pub blank : ℕ → Bool
blank b = b == 32 || b == 9

-- one of `=`, `+`, `[` and `]`
abbrev pub sign : ℕ → Bool
sign b = b == 61 || (b == 43 || (b == 91 || b == 93))

-- what may stand in a line, in a comment too: a tab, or anything but control characters
abbrev pub plain : ℕ → Bool
plain b = b == 9 || (nat_le 32 b && not (b == 127))

-- each of the bytes passes the test
abbrev pub all : (ℕ → Bool) → List ℕ → Bool
all f [] = true
all f (b ∷ bs) = f b && all f bs

abbrev pub empty : {A : Type 0} → List A → Bool
empty [] = true
empty (x ∷ xs) = false

-- one or more letters
abbrev pub word : Word → Bool
word w = not (empty w) && all letter w

-- the same bytes
abbrev pub same : List ℕ → List ℕ → Bool
same [] [] = true
same [] (c ∷ cs) = false
same (b ∷ bs) [] = false
same (b ∷ bs) (c ∷ cs) = b == c && same bs cs

-- the number of a word in a list, counted from 0; none where it is not there
abbrev pub index_of : Word → List Word → Option ℕ
index_of w [] = none
index_of w (v ∷ vs) = pick (same w v) (some 0) (opt (index_of w vs) none (λ n. some (suc n)))

abbrev pub has : Word → List Word → Bool
has w [] = false
has w (v ∷ vs) = same w v || has w vs

-- the byte b before these pieces: a cut there, or b put before the first
abbrev pub cut : Bool → ℕ → List (List ℕ) → List (List ℕ)
cut true b ps = [] ∷ ps
cut false b [] = (b ∷ []) ∷ []
cut false b (p ∷ ps) = (b ∷ p) ∷ ps

-- what stands between one s and the next: one piece more than there are s
abbrev pub pieces : ℕ → List ℕ → List (List ℕ)
pieces s [] = [] ∷ []
pieces s (b ∷ bs) = cut (b == s) b (pieces s bs)

-- any byte but s
abbrev pub but : ℕ → ℕ → Bool
but s b = not (b == s)

-- how many bytes at the front pass the test
abbrev pub run : (ℕ → Bool) → List ℕ → ℕ
run f [] = 0
run f (b ∷ bs) = pick (f b) (suc (run f bs)) 0

-- what stands before the first s
abbrev pub before : ℕ → List ℕ → List ℕ
before s bs = take (run (but s) bs) bs

-- a line without the CR that it may end in
abbrev pub no_cr : List ℕ → List ℕ
no_cr [] = []
no_cr (b ∷ []) = pick (b == 13) [] (b ∷ [])
no_cr (b ∷ c ∷ bs) = b ∷ no_cr (c ∷ bs)

-- tokens found so far, and the letters of a word that has begun
pub record Scan : Type 0 where
  pub found : List Word
  pub begun : Word

-- the tokens ts, and behind them the word that has begun
abbrev pub ended : List Word → Word → List Word
ended ts [] = ts
ended ts (b ∷ w) = ts ++ (b ∷ w) ∷ []

-- one byte more: a letter goes on with a word, a blank or a sign ends it, and a sign is a token itself
abbrev pub scan : Scan → ℕ → Option Scan
scan s b =
    pick (letter b) (some (record { found = s.found; begun = s.begun ++ b ∷ [] }))
    (pick (blank b) (some (record { found = ended s.found s.begun; begun = [] }))
    (pick (sign b) (some (record { found = ended s.found s.begun ++ (b ∷ []) ∷ []; begun = [] })) none))

abbrev pub tokens_on : Scan → List ℕ → Option (List Word)
tokens_on s [] = some (ended s.found s.begun)
tokens_on s (b ∷ bs) = opt (scan s b) none (λ s. tokens_on s bs)

-- the words and signs of a text; none where another byte comes
abbrev pub tokens : List ℕ → Option (List Word)
tokens bs = tokens_on (record { found = []; begun = [] }) bs
