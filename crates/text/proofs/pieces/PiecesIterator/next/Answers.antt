use Rattle.std.proofs.Common.{◌≡◌, Some, ap, ◌∙◌}
use Rattle.text.specs.Kinds.{pieces_in}
use Rattle.text.proofs.Turns.{piece_off}
use Rattle.text.proofs.pieces.PiecesIterator.next.Goals as goal

pub returns-clause-steps : goal.returns-clause-steps
returns-clause-steps c =
    let stop = c.args.self.now.stop in
    let rest = c.in_ok-rest.rest in
    let is : c.args.self.now.rest ≡ Some rest = cc in
    ap (pieces_in stop) is ∙ piece_off stop rest.now c.run-n.result c.get-self.result c.run-n.ensures.value c.get-self.ensures.lookup.0
