use Rattle.std.proofs.Common.{[], string_bytes, sym, ap, ◌∙◌, arith}
use Rattle.std.proofs.lemmas.List.{length-map, get_or-map}
use Rattle.std.proofs.lemmas.Result.{IfOk-weaker}
use Rattle.text.specs.Meaning.{words}
use Rattle.text.proofs.Printed.{place_named, place_numeral}
use Rattle.text.proofs.printing.place.Goals as goal

pub returns-in-Some : goal.returns-in-Some
returns-in-Some c =
    let ns = c.args.names.now in
    let x = c.args.x.0 in
    let s = c.in-Some.name.now in
    let found = c.in-Some.ensures.lookup in
    let long = length-map ns string_bytes in
    let named = place_named (words ns) x (string_bytes s) (omega (arith, found.3.0)) (get_or-map string_bytes ns x s [] found.3.0 ∙ ap string_bytes (sym found.1)) in
    IfOk-weaker c.from_str.result _ _ (λ t p. p ∙ c.as_str.ensures.value ∙ sym named) c.from_str.ensures.ok

pub returns-in-None : goal.returns-in-None
returns-in-None c =
    let ns = c.args.names.now in
    let long = length-map ns string_bytes in
    let numeral = place_numeral (words ns) c.args.x.0 (omega (arith, c.in-None.ensures.lookup)) in
    IfOk-weaker c.format.result _ _ (λ t p. p ∙ sym numeral) c.format.ensures.ok
