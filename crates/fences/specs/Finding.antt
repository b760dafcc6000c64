-- What both calls know first: the program that the words are, and its states, found in the lent words.
use Rattle.std.specs.Prelude.{ℕ, ◌+◌, ◌*◌, ◌^◌, ◌<◌, ◌≤◌, List, length, Ok, Err, Result}
use Rattle.model.specs.Code.{Prog, Reads}
use Rattle.program.specs.declared.threads.Program.{Program}
use Rattle.program.specs.Meaning.{program}
use Rattle.explore.specs.Found.{width, moves_of, Explored, Crowded}
use Rattle.fences.specs.declared.finding.Found.{Found}
use Rattle.fences.specs.declared.refusals.Refusal.{Refusal}
use Rattle.fences.specs.declared.refusals.Refusal.TheVariants as refusal

-- the words s are a program, and as many words are lent as must be for 'most' states; or which of the two is not so
abbrev pub Admitted : List ℕ → ℕ → ℕ → Result Program Refusal → Type 0
Admitted s most w (Ok p) = Reads s (program p) × (65536 + 128 * (most + 1) ≤ w)
Admitted s most w (Err refusal.NoProgram) = ((p : Prog) → Reads s p → ⊥) × (65536 + 128 * (most + 1) ≤ w)
Admitted s most w (Err refusal.Few) = w < 65536 + 128 * (most + 1)
Admitted s most w (Err refusal.Crowded) = ⊥
Admitted s most w (Err refusal.OutFull) = ⊥

-- all states of p are found, with all edges, and three words for each state are left
pub record IsFound (p : Prog) (f : Found) : Type 0 where
  pub explored : Explored p f.queue.now f.edges.now f.n
  pub held : f.n * width (length p) ≤ length f.queue.now
  pub kept : f.n * moves_of (length p) ≤ length f.edges.now
  pub room : 3 * f.n ≤ length f.rest.now

-- with w words lent; or there are more states than may be asked for with so many words
abbrev pub FoundIn : Prog → ℕ → Result Found Refusal → Type 0
FoundIn p w (Ok f) = IsFound p f
FoundIn p w (Err refusal.Crowded) = (m : ℕ) → m < 2 ^ 32 → 65536 + 128 * (m + 1) ≤ w → Crowded p m
FoundIn p w (Err refusal.NoProgram) = ⊥
FoundIn p w (Err refusal.Few) = ⊥
FoundIn p w (Err refusal.OutFull) = ⊥
