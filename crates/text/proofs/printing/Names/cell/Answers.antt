use Rattle.std.proofs.Common.{◌≡◌, suc, List, map, length, get_or, vec_items, sym, ap, ◌∙◌, arith}
use Rattle.std.proofs.lemmas.List.{length-map, get_or-map}
use Rattle.std.proofs.lemmas.Result.{IfOk-weaker}
use Rattle.model.specs.Code.{fence}
use Rattle.program.specs.declared.instructions.Instruction.{Instruction}
use Rattle.program.specs.Instructions.{instruction}
use Rattle.text.specs.Meaning.{words, column}
use Rattle.text.proofs.Printed.{below_at, below_past}
use Rattle.text.proofs.printing.Names.cell.Goals as goal

pub returns-in-Some-get : goal.returns-in-Some-get
returns-in-Some-get c =
    let code = vec_items c.args.thread.now.code in
    let items = c.deref.result.now in
    let same = c.deref.ensures.value in
    let size = ap length same in
    let row = c.in-Some.row in
    let i = c.in-Some-get.i.now in
    let found = c.in-Some-get.ensures.lookup in
    let long = length-map code instruction in
    let next : c.args.j ≡ suc row = omega arith in
    let at : get_or (map instruction code) row fence ≡ instruction i =
    ap (λ (us : List Instruction). get_or (map instruction us) row fence) (sym same) ∙ get_or-map instruction items row i fence found.3.0 ∙ ap instruction (sym found.1) in
    let shown = below_at (words c.args.self.places.now) (column c.args.thread.now) c.args.j row (instruction i) next (omega (arith, found.3.0)) at in
    IfOk-weaker c.cell_text.result _ _ (λ s p. p ∙ sym shown) c.cell_text.ensures

pub returns-in-None : goal.returns-in-None
returns-in-None c =
    let code = vec_items c.args.thread.now.code in
    let size = ap length c.deref.ensures.value in
    let row = c.in-Some.row in
    let long = length-map code instruction in
    let next : c.args.j ≡ suc row = omega arith in
    c.new.ensures.bytes ∙ sym (below_past (words c.args.self.places.now) (column c.args.thread.now) c.args.j row next (omega (arith, c.in-None.ensures.lookup.3)))
