-- The structs that C gets say what the enums of the calls say.
use Rattle.std.specs.Prelude.{◌≡◌, List, ℕ, Ok, Err}
use Rattle.fences.specs.declared.looking.Verdict.TheVariants as verdict
use Rattle.fences.specs.declared.refusals.Refusal.{Refusal}
use Rattle.fences.specs.declared.refusals.Refusal.TheVariants as refusal
use Rattle.fences.specs.Answers.{Looked, LookedPost}
use Rattle.fences.specs.Says.{Listed, ListedPost}
use Rattle.capi.specs.declared.FencesLooked.{FencesLooked}
use Rattle.capi.specs.declared.FencesListed.{FencesListed}

-- the kind of a refusal
abbrev pub kind_of : Refusal → ℕ
kind_of refusal.Crowded = 2
kind_of refusal.OutFull = 3
kind_of refusal.NoProgram = 4
kind_of refusal.Few = 5

-- the kind, and the numbers that come with it; 0 where none does
abbrev pub looked_as : Looked → FencesLooked
looked_as (Ok verdict.Plain) = record { kind = 0; moves = 0; fences = 0 }
looked_as (Ok (verdict.Fences m k)) = record { kind = 1; moves = m; fences = k }
looked_as (Err e) = record { kind = kind_of e; moves = 0; fences = 0 }

abbrev pub listed_as : Listed → FencesListed
listed_as (Ok l) = record { kind = 0; outcomes = l.outcomes; states = l.states }
listed_as (Err e) = record { kind = kind_of e; outcomes = 0; states = 0 }

-- the answer keeps the promise of 'look'
pub record LookedC (s : List ℕ) (most w : ℕ) (o o' : List ℕ) (r : FencesLooked) : Type 0 where
  pub answer : Looked
  pub post : LookedPost s most w o o' answer
  pub told : r ≡ looked_as answer

-- the answer keeps the promise of 'outcomes'
pub record ListedC (s : List ℕ) (most w : ℕ) (o o' : List ℕ) (r : FencesListed) : Type 0 where
  pub answer : Listed
  pub post : ListedPost s most w o o' answer
  pub told : r ≡ listed_as answer
