-- The forms of instructions, told apart by their tokens.
use Rattle.std.proofs.Common.{◌≡◌, Bool, true, false, ◌&&◌, List, [], ◌∷◌, length, codes, refl, ◌∙◌}
use mathlib.Core.Option.{Option, none}
use Rattle.model.specs.Code.{I}
use Rattle.text.specs.Bytes.{Word, same}
use Rattle.text.specs.Grammar.{Places, sum, load, store, instruction}
use Rattle.text.proofs.Picks.{pick_true, pick_false}

module _ (ps : Places) (a b c d e : Word) where
  abbrev Sum : Bool
  Sum = same b (codes "=") && same d (codes "+")

  abbrev Load : Bool
  Load = same b (codes "=") && (same c (codes "[") && same e (codes "]"))

  abbrev Store : Bool
  Store = same a (codes "[") && (same c (codes "]") && same d (codes "="))

  abbrev Five : Option (Places × I)
  Five = instruction ps (a ∷ b ∷ c ∷ d ∷ e ∷ [])

  pub is_sum : Sum ≡ true → Five ≡ sum ps a c e
  is_sum f = pick_true _ _ f

  pub is_load : Sum ≡ false → Load ≡ true → Five ≡ load ps a d
  is_load f g = pick_false _ _ f ∙ pick_true _ _ g

  pub is_store : Sum ≡ false → Load ≡ false → Store ≡ true → Five ≡ store ps b e
  is_store f g h = pick_false _ _ f ∙ pick_false _ _ g ∙ pick_true _ _ h

  pub is_none : Sum ≡ false → Load ≡ false → Store ≡ false → Five ≡ none
  is_none f g h = pick_false _ _ f ∙ pick_false _ _ g ∙ pick_false _ _ h

-- an instruction has one, three or five tokens
pub other_length : (ps : Places) (ts : List Word) → (length ts ≡ 1 → ⊥) → (length ts ≡ 3 → ⊥) → (length ts ≡ 5 → ⊥) → instruction ps ts ≡ none
other_length ps [] f g h = refl
other_length ps (a ∷ []) f g h = absurd (f refl)
other_length ps (a ∷ b ∷ []) f g h = refl
other_length ps (a ∷ b ∷ c ∷ []) f g h = absurd (g refl)
other_length ps (a ∷ b ∷ c ∷ d ∷ []) f g h = refl
other_length ps (a ∷ b ∷ c ∷ d ∷ e ∷ []) f g h = absurd (h refl)
other_length ps (a ∷ b ∷ c ∷ d ∷ e ∷ i ∷ ts) f g h = refl
