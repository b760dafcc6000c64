use Rattle.std.proofs.Common.{◌≡◌, List, ◌++◌, string_bytes, ap, ◌∙◌}
use Rattle.std.proofs.lemmas.Iterator.Adapters.{YieldsList-from_repeat_n, items_from_extend}
use Rattle.std.proofs.lemmas.Result.{on_ok_weaker}
use Rattle.text.proofs.Printed.{blanks_encoded}
use Rattle.text.proofs.printing.put_blanks.Goals as goal

pub returns : goal.returns
returns c =
    let n = c.args.blanks in
    let put = items_from_extend c.extend.result c.extend.ensures.ran (YieldsList-from_repeat_n (λ x y. y ≡ x) n 32 c.repeat_n.ensures.count c.repeat_n.ensures.item (λ y e. e)) in
    on_ok_weaker c.extend.result (λ e. e ∙ ap (λ (bs : List _). string_bytes c.args.out.now ++ bs) (blanks_encoded n)) put
