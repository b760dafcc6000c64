use Rattle.std.proofs.Common.{◌<◌, sym, subst, arith}
use Rattle.text.specs.Bytes.{letter, run}
use Rattle.text.specs.Kinds.{FirstToken}
use Rattle.text.proofs.Runs.{run_some}
use Rattle.text.proofs.Scanning.{first_word}
use Rattle.text.proofs.tokens.token_len.Goals as goal

pub returns-in-len1-up-2 : goal.returns-in-len1-up-2
returns-in-len1-up-2 c =
    let bs = c.args.bytes.now in
    let some : 0 < run letter bs = run_some letter bs (omega arith) (sym c.if-has-2.ensures) in
    let e = c.run.ensures.value in
    (omega arith, subst (FirstToken bs) (sym e) (first_word bs some))
