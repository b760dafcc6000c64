-- What reading words promises: what is read, and that nothing else could be; or that nothing can be read.
use Rattle.std.specs.Prelude.{◌≡◌, ℕ, ◌<◌, ◌≤◌, T, List, ◌∷◌, ◌++◌, length, Some, None, Option}
use Rattle.std.specs.Borrow.{Bor}
use Rattle.std.proofs.Math.Option.{some, none}
use Rattle.model.specs.Code.{opt, nth, I, ok_i, ok_t, row_i, row_t, Prog, Reads}
use Rattle.model.specs.Code as model
use Rattle.program.specs.declared.instructions.Instruction.{Instruction}
use Rattle.program.specs.declared.threads.Thread.{Thread}
use Rattle.program.specs.declared.threads.Program.{Program}
use Rattle.program.specs.Instructions.{instruction}
use Rattle.program.specs.Meaning.{thread, program}

-- four words that are an instruction
abbrev pub ReadsI : List ℕ → I → Type 0
ReadsI s i = (row_i i ≡ s) × T (ok_i i)

abbrev pub InstructionRead : List ℕ → Option Instruction → Type 0
InstructionRead s (Some i) = ReadsI s (instruction i)
InstructionRead s None = (i : I) → ReadsI s i → ⊥

-- words that begin with a thread, behind which others stand
pub record Begins (s : List ℕ) (t : model.Thread) (rest : List ℕ) : Type 0 where
  pub is : length t ∷ (row_t t ++ rest) ≡ s
  pub few : length t ≤ 8
  pub fine : T (ok_t t)

abbrev pub ThreadRead : List ℕ → Option (Thread × Bor (List ℕ)) → Type 0
ThreadRead s (Some r) = Begins s (thread r.0) r.1.now
ThreadRead s None = (t : model.Thread) (rest : List ℕ) → Begins s t rest → ⊥

abbrev pub ProgramRead : List ℕ → Option Program → Type 0
ProgramRead s (Some p) = Reads s (program p)
ProgramRead s None = (p : Prog) → Reads s p → ⊥

-- the instruction k of thread n, which is within the limits and stands among the first eight; or that there is none
abbrev pub InstructionAt : Prog → ℕ → ℕ → Option Instruction → Type 0
InstructionAt p n k (Some i) = (opt (nth p n) none (λ t. nth t k) ≡ some (instruction i)) × T (ok_i (instruction i)) × (k < 8)
InstructionAt p n k None = opt (nth p n) none (λ t. nth t k) ≡ none
