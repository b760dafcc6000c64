use Rattle.text.proofs.RoundTrip.{every_program}
use Rattle.text.proofs.every_program_has_a_text.Goals as goal

pub returns : goal.returns
returns c = every_program
