use Rattle.std.proofs.Common.{◌≡◌, rules, bit_or}
use Rattle.std.specs.List.{fold}
use Rattle.hitting.proofs.Unions.{fold_is_union}
use Rattle.hitting.proofs.clauses.union.Goals as goal

pub returns : goal.returns
returns c = let e : c.fold.result ≡ fold bit_or 0 c.args.clauses.now = search rules in rw e (fold_is_union c.args.clauses.now)
