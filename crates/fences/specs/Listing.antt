-- All outcomes of a program as rows: whether it also comes out at once, and the outcome.
use Rattle.std.specs.Prelude.{◌≡◌, ℕ, ◌≤◌, ◌⊎◌, ◌↔◌, List, [], ◌∷◌, ◌++◌, ◌≢◌}
use Rattle.model.specs.Code.{Prog}
use Rattle.model.specs.Outcomes.{Waiting, AtOnce}

-- 1 where the outcome also comes out at once, else 0; and the outcome: all registers, thread by thread, then memory
pub record Row : Type 0 where
  pub once : ℕ
  pub outcome : List ℕ

-- rows one after the other, as words
abbrev pub text : List Row → List ℕ
text [] = []
text (r ∷ rs) = (r.once ∷ r.outcome) ++ text rs

-- it comes out, and at once exactly if its first word says so
pub record Right (p : Prog) (r : Row) : Type 0 where
  pub comes_out : Waiting p r.outcome
  pub bit : r.once ≤ 1
  pub at_once : (r.once ≡ 1) ↔ AtOnce p r.outcome

abbrev pub Every : (Row → Type 0) → List Row → Type 0
Every P [] = Unit {0}
Every P (r ∷ rs) = P r × Every P rs

abbrev pub SomeRow : (Row → Type 0) → List Row → Type 0
SomeRow P [] = ⊥
SomeRow P (r ∷ rs) = P r ⊎ SomeRow P rs

-- no outcome twice
abbrev pub OnceEach : List Row → Type 0
OnceEach [] = Unit {0}
OnceEach (r ∷ rs) = Every (λ s. s.outcome ≢ r.outcome) rs × OnceEach rs

-- exactly the outcomes of a program, each once
pub record Lists (p : Prog) (rs : List Row) : Type 0 where
  pub right : Every (Right p) rs
  pub once_each : OnceEach rs
  pub all : (o : List ℕ) → Waiting p o → SomeRow (λ r. r.outcome ≡ o) rs
