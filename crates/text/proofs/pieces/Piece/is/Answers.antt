use Rattle.std.proofs.lemmas.Slice.Eq.{slice_eq-Decides}
use Rattle.std.proofs.lemmas.Bool.Decides.{Decides-eqb}
use Rattle.text.specs.Meaning.{token}
use Rattle.text.proofs.Lookup.{same_is}
use Rattle.text.proofs.pieces.Piece.is.Goals as goal

pub returns : goal.returns
returns c = same_is (token c.args.self) c.args.text.now c.eq.result (slice_eq-Decides Decides-eqb _ _ _ c.eq.ensures)
