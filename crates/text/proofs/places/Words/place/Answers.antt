use Rattle.std.proofs.Common.{◌≡◌, false, List, [], ◌∷◌, ◌++◌, map, length, vec_items, string_bytes, String, sym, refl, ap, ◌∙◌, arith}
use mathlib.Core.Option.{some, none}
use Rattle.std.specs.declared.alloc.Global.{Global}
use Rattle.std.proofs.lemmas.List.{length-map, map_push}
use Rattle.text.specs.Bytes.{Word, index_of}
use Rattle.text.specs.Meaning.{token, named, words}
use Rattle.text.proofs.PlaceNames.{new, word_utf8}
use Rattle.text.proofs.places.Words.place.Goals as goal

pub returns : goal.returns
returns c =
    let ws = vec_items c.args.self.now.all in
    let w = token c.args.name in
    let none_yet : index_of w (words ws) ≡ none = ap (λ (l : List (String Global)). index_of w (words l)) (sym c.as_slice.ensures.value) ∙ sym c.in_default.ensures.value in
    let long = length-map ws string_bytes in
    let fits = c.args.self.now.all.ok.0 in
    let few = c.args.self.now.few in
    let more : words ws ++ w ∷ [] ≡ words (vec_items c.push.new.self) =
    ap (λ (v : Word). words ws ++ v ∷ []) (sym (c.in_ok-from_utf8_lossy.ensures.ok (word_utf8 w c.requires)))
    ∙ sym (map_push string_bytes ws c.in_ok-from_utf8_lossy.field-0) ∙ ap (map string_bytes) (sym c.in_ok-push.ensures.items) in
    let next : length (words ws) ≡ c.len-next.result = omega arith in
    new (named c.args.self.now) w refl none_yet (omega arith)
    ∙ (λ i. some (record { numerals = false; words = more i }, next i))
