use Rattle.std.proofs.Common.{◌≡◌, ◌+◌, ◌*◌, length, sym, ap, ◌∙◌, arith}
use Rattle.lent.specs.Nibbles.{nibbles, number}
use Rattle.machine.specs.Meaning.{waits}
use Rattle.machine.proofs.PackLaws.{word_is, length_row, three_words}
use Rattle.machine.proofs.packed.pack_thread.Goals as goal

pub returns : goal.returns
returns c =
    let t = c.args.t.now in
    let q = t.row in
    let e = q.eight in
    let r = q.room in
    let f = t.few in
    let w = word_is t.regs t.pc q.len t.four t.few (omega arith) in
    let l : q.len ≡ length (waits q) = sym (length_row q.items q.begin q.len (omega arith)) in
    let p = c.pack_row-values.ensures in
    three_words _ _ _ _ _ _ (w ∙ ap (λ n. number (nibbles 4 t.regs) + 65536 * t.pc + 1048576 * n) l) p.0 p.1
