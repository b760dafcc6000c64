use Rattle.std.proofs.Common.{length, arith}
use Rattle.program.specs.Meaning.{program}
use Rattle.fences.proofs.FindingLaws.{handed_on}
use Rattle.fences.proofs.Listed.{listed_post, refused_post, crowded_post}
use Rattle.fences.proofs.listing.outcomes.Goals as goal

pub returns-in_err-p : goal.returns-in_err-p
returns-in_err-p c =
    rw (handed_on c.from_residual.result c.in_err-p.field-0.0 c.from_residual.ensures.1)
    (refused_post c.args.words.now c.args.most (length c.args.work.now) c.args.out.now c.in_err-p.field-0.0 c.in_err-p.ensures)

pub returns-in_err-found : goal.returns-in_err-found
returns-in_err-found c =
    rw (handed_on c.from_residual-in_err-found.result c.in_err-found.field-0.0 c.from_residual-in_err-found.ensures.1)
    (crowded_post c.args.words.now c.args.most (length c.args.work.now) c.args.out.now (program c.in_ok-p.p) c.in_err-found.field-0.0 c.in_ok-p.ensures.0 (omega arith) c.in_ok-p.ensures.1 c.in_err-found.ensures)

pub returns : goal.returns
returns c = listed_post c.args.words.now c.args.most (length c.args.work.now) c.args.out.now c.list_found.new.out (program c.in_ok-p.p) c.list_found.result c.in_ok-p.ensures.0 c.in_ok-p.ensures.1 c.list_found.ensures
