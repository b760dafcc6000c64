use Rattle.std.proofs.Common.{◌≡◌, ℕ, List, map, length, get_or, sym, ap, ◌∙◌, arith}
use Rattle.std.proofs.lemmas.List.{length-map}
use Rattle.std.proofs.lemmas.Bool.Decides.{nat_tests}
use Rattle.text.specs.declared.pieces.Piece.{Piece}
use Rattle.text.specs.Bytes.{Word}
use Rattle.text.specs.Grammar.{instruction}
use Rattle.text.specs.Meaning.{token, places}
use Rattle.text.proofs.Few.{nothing, of_1, of_3, of_5}
use Rattle.text.proofs.Forms.{is_sum, is_none, other_length}
use Rattle.text.proofs.Picks.{pick_true, pick_false}
use Rattle.text.proofs.cells.instruction.Goals as goal
use Rattle.text.proofs.cells.instruction.Goals.{in_default-via-then-tokens-lt1, in_default-via-in-len1+else-is, in_default-via-else-tokens-lt1+else-tokens-lt2+then-tokens-lt3, in_default-via-in-len3+else-is-2, in_default-via-else-tokens-lt1+else-tokens-lt2+else-tokens-lt3+else-tokens-lt4+then-tokens-lt5, in_default-via-in-len5-3+else-is_store, in_default-via-else-tokens-lt1+else-tokens-lt2+else-tokens-lt3+else-tokens-lt4+else-tokens-lt5+else-tokens-lt6}

pub returns-in-len3 : goal.returns-in-len3
returns-in-len3 c =
    let ps = places c.args.named.now in
    let ts = c.args.tokens.now in
    let three : length ts ≡ 3 = omega arith in
    let e = ap (λ (us : List Piece). instruction ps (map token us)) (of_3 ts nothing three) ∙ pick_true _ _ (sym c.if-is-2.ensures) in
    rw e (c.set.ensures ps)

pub returns-in-len5 : goal.returns-in-len5
returns-in-len5 c =
    let ps = places c.args.named.now in
    let ts = c.args.tokens.now in
    let at : ℕ → Word = λ k. token (get_or ts k nothing) in
    let five : length ts ≡ 5 = omega arith in
    let e = ap (λ (us : List Piece). instruction ps (map token us)) (of_5 ts nothing five) ∙ is_sum ps (at 0) (at 1) (at 2) (at 3) (at 4) (sym c.if-is_sum.ensures) in
    rw e (c.sum.ensures ps)

pub returns-in_default : goal.returns-in_default
returns-in_default c _ =
    let ps = places c.args.named.now in
    let ts = c.args.tokens.now in
    let long = length-map ts token in
    let at : ℕ → Word = λ k. token (get_or ts k nothing) in
    elim c.in_default.branch [
      | in_default-via-then-tokens-lt1 w ↦ other_length ps (map token ts) (grind (arith, nat_tests)) (grind (arith, nat_tests)) (grind (arith, nat_tests))
      | in_default-via-in-len1+else-is w ↦ let one : length ts ≡ 1 = omega arith in ap (λ (us : List Piece). instruction ps (map token us)) (of_1 ts nothing one) ∙ pick_false _ _ (sym w.if-is.ensures)
      | in_default-via-else-tokens-lt1+else-tokens-lt2+then-tokens-lt3 w ↦ other_length ps (map token ts) (grind (arith, nat_tests)) (grind (arith, nat_tests)) (grind (arith, nat_tests))
      | in_default-via-in-len3+else-is-2 w ↦ let three : length ts ≡ 3 = omega arith in ap (λ (us : List Piece). instruction ps (map token us)) (of_3 ts nothing three) ∙ pick_false _ _ (sym w.if-is-2.ensures)
      | in_default-via-else-tokens-lt1+else-tokens-lt2+else-tokens-lt3+else-tokens-lt4+then-tokens-lt5 w ↦ other_length ps (map token ts) (grind (arith, nat_tests)) (grind (arith, nat_tests)) (grind (arith, nat_tests))
      | in_default-via-in-len5-3+else-is_store w ↦ let five : length ts ≡ 5 = omega arith in ap (λ (us : List Piece). instruction ps (map token us)) (of_5 ts nothing five) ∙ is_none ps (at 0) (at 1) (at 2) (at 3) (at 4) (sym w.if-is_sum.ensures) (sym w.if-is_load.ensures) (sym w.if-is_store.ensures)
      | in_default-via-else-tokens-lt1+else-tokens-lt2+else-tokens-lt3+else-tokens-lt4+else-tokens-lt5+else-tokens-lt6 w ↦ other_length ps (map token ts) (grind (arith, nat_tests)) (grind (arith, nat_tests)) (grind (arith, nat_tests))
    ]
