use Rattle.std.proofs.Common.{◌≡◌, List, [], ◌∷◌, ◌++◌, map, length, get_or, vec_items, string_bytes, sym, ap, ◌∙◌, arith}
use mathlib.Core.Option.{some}
use Rattle.std.proofs.lemmas.List.{length-map, map_push}
use Rattle.program.specs.Instructions.{instruction}
use Rattle.text.specs.declared.pieces.Piece.{Piece}
use Rattle.text.specs.Grammar.{Column, names}
use Rattle.text.specs.Meaning.{token, column, page}
use Rattle.text.proofs.Few.{nothing, of_1}
use Rattle.text.proofs.Headings.{a_name, begins_is}
use Rattle.text.proofs.PlaceNames.{word_utf8}
use Rattle.text.proofs.pages.Page.begin.Goals as goal

pub returns : goal.returns
returns c =
    let ts = c.as_slice.result.now in
    let t = get_or ts 0 nothing in
    let one : length ts ≡ 1 = omega arith in
    let threads = vec_items c.args.self.now.threads in
    let many = c.args.self.now.threads.ok.0 in
    let long = length-map (map column threads) (λ (c : Column). c.name) ∙ length-map threads column in
    let is_IsWord = sym c.if-not-is_word.ensures in
    let seen = c.in_ok-tokens.ensures ∙ ap (λ (us : List Piece). some (map token us)) (sym c.as_slice.ensures.value ∙ of_1 ts nothing one) in
    let name : token t ≡ string_bytes c.in_ok-name.name = sym (c.in_ok-name.ensures.ok (word_utf8 (token t) is_IsWord)) in
    let empty = ap (map instruction) (sym c.new.ensures.items) in
    let more = sym (map_push column threads _) ∙ ap (map column) (sym c.in_ok-push.ensures.items) in
    begins_is (page c.args.self.now) (token c.args.cell) (token t ∷ []) seen (token t) (a_name (names (map column threads)) (token t) is_IsWord (sym c.if-has.ensures) (omega arith))
    ∙ (λ i. some (record { columns = map column threads ++ record { name = name i; code = empty i } ∷ []; places = (page c.args.self.now).places }))
    ∙ (λ i. some (record { columns = more i; places = (page c.args.self.now).places }))
