-- What a function of the reader promises, where the grammar has an answer or refuses.
use Rattle.std.specs.Prelude.{◌≡◌, ℕ, List, Ok, Err, IsUtf8, Result}
use Rattle.std.proofs.Math.Option.{Option, some, none}
use Rattle.text.specs.declared.source.Source.{Source}
use Rattle.text.specs.Grammar.{reads}
use Rattle.text.specs.Meaning.{listing}
use Rattle.text.specs.declared.faults.Fault.{Fault}
use Rattle.text.specs.declared.faults.Fault.TheVariants.{Memory, Refused}

-- the text is at fault, and not the memory
abbrev pub Refusal : Fault → Type 0
Refusal Memory = ⊥
Refusal (Refused line column expected found) = Unit {0}

-- what is given means what the grammar has; where the text is refused, the grammar has nothing
abbrev pub Answers : {X A : Type 0} → Result X Fault → (X → A) → Option A → Type 0
Answers (Ok x) f o = o ≡ some (f x)
Answers (Err e) f o = Refusal e → o ≡ none

-- the same of bytes, which are refused where they are no text
abbrev pub Reading : List ℕ → Result Source Fault → Type 0
Reading bs (Ok s) = IsUtf8 bs × (reads bs ≡ some (listing s))
Reading bs (Err e) = Refusal e → IsUtf8 bs → reads bs ≡ none
