-- Worked by hand: what texts say.
use Rattle.std.proofs.Common.{◌≡◌, ℕ, List, [], ◌∷◌, ◌++◌, codes, refl}
use mathlib.Core.Option.{some, none}
use Rattle.std.specs.Fmt.{digits}
use Rattle.model.specs.Code.{sets, loads, stores}
use Rattle.text.specs.Grammar.{Listing, reads}
use Rattle.text.specs.Shows.{shows}

-- a line and its end
ln : List ℕ → List ℕ → List ℕ
ln a rest = a ++ (10 ∷ rest)

col_bas : List ℕ
unfolding ln
col_bas =
    ln (codes "# Col Bas: both want to go")
    (ln (codes "up           | down")
    (ln (codes "r0 = 1       | r0 = 1")
    (ln (codes "[a] = r0     | [b] = r0")
    (codes "r1 = [b]     | r1 = [a]"))))

read_col_bas : Listing
read_col_bas =
    record {
      columns =
          record { name = codes "up"; code = sets 0 1 ∷ stores 0 0 ∷ loads 1 1 ∷ [] } ∷
          record { name = codes "down"; code = sets 0 1 ∷ stores 1 0 ∷ loads 1 0 ∷ [] } ∷ [];
      places = codes "a" ∷ codes "b" ∷ [];
    }

col_bas_is_read : reads col_bas ≡ some read_col_bas
unfolding col_bas read_col_bas ln
col_bas_is_read = refl

printed : List ℕ
unfolding ln
printed = ln (codes "up       | down") (ln (codes "r0 = 1   | r0 = 1") (ln (codes "[a] = r0 | [b] = r0") (ln (codes "r1 = [b] | r1 = [a]") [])))

col_bas_is_printed : shows read_col_bas ≡ printed
unfolding printed read_col_bas ln digits
col_bas_is_printed = refl

no_r4 : reads (ln (codes "up") (codes "r4 = 1")) ≡ none
unfolding ln
no_r4 = refl
