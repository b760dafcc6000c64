-- What a move of a thread promises: the definition's, where it can be made and where it can't.
use Rattle.std.specs.Prelude.{◌≡◌, ℕ, ◌<◌, Bool, true, false, List, length, Some, None, Option}
use Rattle.std.proofs.Math.Option as M
use Rattle.std.proofs.Math.Option.{some, none}
use Rattle.model.specs.Code.{opt, nth, I, Prog}
use Rattle.model.specs.Machine.{At, St, does, instr, next, move, with_thread}
use Rattle.program.specs.declared.instructions.Instruction.{Instruction}
use Rattle.program.specs.Instructions.{instruction}
use Rattle.machine.specs.declared.threads.ThreadState.{ThreadState}
use Rattle.machine.specs.Meaning.{at}
use Rattle.machine.specs.Packed.{Packs}

-- the instruction i, done by a thread that stands at a where memory is m
abbrev pub Did : List ℕ → At → I → Option ThreadState → Type 0
Did m a i (Some t) = does m a i ≡ some (at t)
Did m a i None = does m a i ≡ none

-- the words hold a state of the program p
abbrev pub Holds : Prog → List ℕ → Type 0
Holds p ws = (s : St) × Packs ws s × (length s.threads ≡ length p)

-- thread n of the state s, if there is one
abbrev pub ThreadIs : St → ℕ → Option ThreadState → Type 0
ThreadIs s n (Some t) = nth s.threads n ≡ some (at t)
ThreadIs s n None = nth s.threads n ≡ none

-- its next instruction, if there is one
abbrev pub NextIs : Prog → St → ℕ → Option Instruction → Type 0
NextIs p s n (Some i) = (a : At) × (nth s.threads n ≡ some a) × (instr p n a ≡ some (instruction i))
NextIs p s n None = opt (nth s.threads n) none (instr p n) ≡ none

-- the thread with that instruction done, where it can be done
abbrev pub ThreadAfter : Prog → St → ℕ → Option ThreadState → Type 0
ThreadAfter p s n (Some t) = (n < length s.threads) × (move p s (next n) ≡ some (with_thread s n (at t)))
ThreadAfter p s n None = move p s (next n) ≡ none

-- after a step from the state in ws: the state in ws', where it can be made; else that it can't
abbrev pub Stepped : (St → M.Option St) → List ℕ → Bool → List ℕ → Type 0
Stepped step ws true ws' = (s : St) → Packs ws s → (t : St) × (step s ≡ some t) × Packs ws' t × (length t.threads ≡ length s.threads)
Stepped step ws false ws' = (s : St) → Packs ws s → step s ≡ none
