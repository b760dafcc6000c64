use Rattle.std.proofs.Common.{◌≡◌, [], ◌∷◌, ◌++◌, map, length, sym, ap, ◌∙◌, append_assoc}
use Rattle.std.proofs.lemmas.List.{length-map}
use Rattle.model.specs.Code.{row_t}
use Rattle.program.specs.Instructions.{instruction}
use Rattle.text.proofs.words.push_thread.Goals as goal

pub returns : goal.returns
returns c =
    let code = c.args.code.now in
    let w = c.in_ok-count.field-0 in
    let before = c.args.words.now.items in
    let size : w ≡ length (map instruction code) = c.in_ok-count.ensures.value ∙ sym (length-map code instruction) in
    c.in_ok-push_code.ensures
    ∙ ap (λ a. a ++ row_t (map instruction code)) c.in_ok-push.ensures.items
    ∙ append_assoc before (w ∷ []) (row_t (map instruction code))
    ∙ ap (λ n. before ++ (n ∷ row_t (map instruction code))) size
