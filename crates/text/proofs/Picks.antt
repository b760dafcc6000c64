-- Choosing by a test whose answer is known.
use Rattle.std.proofs.Common.{◌≡◌, Bool, true, false, ap}
use mathlib.Core.Option.{Option, some, none}
use Rattle.model.specs.Code.{pick, opt}

pub pick_true : {A : Type 0} {t : Bool} (a b : A) → t ≡ true → pick t a b ≡ a
pick_true a b e = ap (λ (z : Bool). pick z a b) e

pub pick_false : {A : Type 0} {t : Bool} (a b : A) → t ≡ false → pick t a b ≡ b
pick_false a b e = ap (λ (z : Bool). pick z a b) e

-- what comes of an option that is known
pub opt_is : {A C : Type 0} {o : Option A} {a : A} (c : C) (f : A → C) → o ≡ some a → opt o c f ≡ f a
opt_is {A} {C} c f e = ap (λ (z : Option A). opt z c f) e

pub opt_none : {A C : Type 0} {o : Option A} (c : C) (f : A → C) → o ≡ none → opt o c f ≡ c
opt_none {A} {C} c f e = ap (λ (z : Option A). opt z c f) e
