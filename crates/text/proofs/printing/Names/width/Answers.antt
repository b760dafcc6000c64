use Rattle.std.proofs.Common.{◌≡◌, ℕ, ◌+◌, ◌<◌, List, map, length, get_or, drop, vec_items, string_bytes, sym, ap, ◌∙◌, arith}
use Rattle.std.proofs.lemmas.List.{length-map, get_or-map}
use Rattle.model.specs.Code.{I, fence}
use Rattle.program.specs.declared.instructions.Instruction.{Instruction}
use Rattle.program.specs.Instructions.{instruction}
use Rattle.text.specs.Meaning.{words}
use Rattle.text.specs.Shows.{show_i, widest}
use Rattle.text.proofs.Printed.{wider}
use Rattle.text.proofs.printing.Names.width.Goals as goal

pub loop-i-preserved : goal.loop-i-preserved
loop-i-preserved c =
    let ns = words c.args.self.places.now in
    let code = vec_items c.args.thread.now.code in
    let items = c.deref-i-items.result.now in
    let i = c.loop-i.i-index in
    let same = c.deref-i-items.ensures.value in
    let size = ap length same in
    let long = length-map code instruction in
    let l : i < length (map instruction code) = omega arith in
    let text = c.in_ok-cell_text.field-0 in
    let shown : length (string_bytes text) ≡ length (show_i ns (get_or (map instruction code) i fence)) =
    ap length c.in_ok-cell_text.ensures
    ∙ ap (λ (k : I). length (show_i ns k)) (sym (get_or-map instruction items i _ fence c.loop-i-test.true) ∙ ap (λ (us : List Instruction). get_or (map instruction us) i fence) same) in
    let width : c.len.result ≡ length (show_i ns (get_or (map instruction code) i fence)) = c.len.ensures ∙ text.bytes.ok.0 ∙ shown in
    c.loop-i.invariant ∙ wider ns (map instruction code) c.loop-i.most i c.len.result l width
    ∙ ap (λ (w : ℕ). widest ns w (drop (i + 1) (map instruction code))) (sym c.max-most.ensures)
