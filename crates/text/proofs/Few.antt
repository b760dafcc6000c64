-- Lists of few elements, by their places.
use Rattle.std.proofs.Common.{◌≡◌, List, [], ◌∷◌, length, get_or, refl, arith}
use Rattle.text.specs.declared.pieces.Piece.{Piece}

-- what is read of a piece that is not there
abbrev pub nothing : Piece
nothing = record { text = record { ref_ptr = (0, 0); now = [] }; spot = record { line = 0; column = 0 } }

module _ {A : Type 0} where
  pub of_1 : (xs : List A) (d : A) → length xs ≡ 1 → xs ≡ get_or xs 0 d ∷ []
  of_1 [] d h = absurd (omega arith)
  of_1 (a ∷ []) d h = refl
  of_1 (a ∷ b ∷ xs) d h = absurd (omega arith)

  pub of_3 : (xs : List A) (d : A) → length xs ≡ 3 → xs ≡ get_or xs 0 d ∷ get_or xs 1 d ∷ get_or xs 2 d ∷ []
  of_3 [] d h = absurd (omega arith)
  of_3 (a ∷ []) d h = absurd (omega arith)
  of_3 (a ∷ b ∷ []) d h = absurd (omega arith)
  of_3 (a ∷ b ∷ c ∷ []) d h = refl
  of_3 (a ∷ b ∷ c ∷ e ∷ xs) d h = absurd (omega arith)

  pub of_5 : (xs : List A) (d : A) → length xs ≡ 5 → xs ≡ get_or xs 0 d ∷ get_or xs 1 d ∷ get_or xs 2 d ∷ get_or xs 3 d ∷ get_or xs 4 d ∷ []
  of_5 [] d h = absurd (omega arith)
  of_5 (a ∷ []) d h = absurd (omega arith)
  of_5 (a ∷ b ∷ []) d h = absurd (omega arith)
  of_5 (a ∷ b ∷ c ∷ []) d h = absurd (omega arith)
  of_5 (a ∷ b ∷ c ∷ e ∷ []) d h = absurd (omega arith)
  of_5 (a ∷ b ∷ c ∷ e ∷ f ∷ []) d h = refl
  of_5 (a ∷ b ∷ c ∷ e ∷ f ∷ g ∷ xs) d h = absurd (omega arith)
