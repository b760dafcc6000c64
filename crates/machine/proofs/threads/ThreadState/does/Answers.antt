use Rattle.std.proofs.Common.{ap, ◌∙◌, arith, rules}
use Rattle.lent.specs.Nibbles.{nibbles}
use Rattle.model.specs.Machine.{does, done}
use Rattle.program.specs.declared.instructions.Instruction.{Instruction}
use Rattle.program.specs.Instructions.{instruction}
use Rattle.machine.specs.Meaning.{at}
use Rattle.machine.proofs.Did.{field_read, read_small, some_wait, did_add, did_load, did_store, did_not}
use Rattle.machine.proofs.threads.ThreadState.does.Goals as goal

pub overflow_add-sum : goal.overflow_add-sum
overflow_add-sum c = let a = c.nibble.ensures.small in let b = c.nibble-in-Add.ensures.small in omega arith

pub with_register-requires-in-Load : goal.with_register-requires-in-Load
with_register-requires-in-Load c =
    let q = c.args.self.now.row in
    let v = c.nibble-in-Load.ensures.small in
    let s = read_small q.items q.begin q.len c.in-Load.x.0 c.nibble-in-Load.result q.small v in
    let e = c.newest-value.ensures in
    record { more = c.requires.more; register = search rules; value = omega arith }

pub returns-in-Add : goal.returns-in-Add
returns-in-Add c =
    let t = c.args.self.now in
    let m = nibbles 8 c.args.memory in
    ap (λ (i : Instruction). does m (at t) (instruction i)) c.in-Add.is
    ∙ did_add m (at t) (at c.with_register-in-Add.result) c.in-Add.r.0 c.in-Add.a.0 c.in-Add.b.0 c.nibble.result c.nibble-in-Add.result
    (field_read 4 t.regs c.in-Add.a.0 c.nibble.result (c.nibble.ensures.value 4 (search rules)))
    (field_read 4 t.regs c.in-Add.b.0 c.nibble-in-Add.result (c.nibble-in-Add.ensures.value 4 (search rules)))
    c.with_register-in-Add.ensures

pub returns-in-Load : goal.returns-in-Load
returns-in-Load c =
    let t = c.args.self.now in
    let m = nibbles 8 c.args.memory in
    ap (λ (i : Instruction). does m (at t) (instruction i)) c.in-Load.is
    ∙ did_load m (at t) (at c.with_register-in-Load.result) c.in-Load.r.0 c.in-Load.x.0 c.nibble-in-Load.result c.newest-value.result
    (field_read 8 c.args.memory c.in-Load.x.0 c.nibble-in-Load.result (c.nibble-in-Load.ensures.value 8 (search rules)))
    c.newest-value.ensures
    c.with_register-in-Load.ensures

pub returns-in-Store : goal.returns-in-Store
returns-in-Store c =
    let t = c.args.self.now in
    let m = nibbles 8 c.args.memory in
    ap (λ (i : Instruction). does m (at t) (instruction i)) c.in-Store.is
    ∙ did_store m (at t) (at c.done.result) c.in-Store.x.0 c.in-Store.r.0 c.nibble-in-Store.result
    (field_read 4 t.regs c.in-Store.r.0 c.nibble-in-Store.result (c.nibble-in-Store.ensures.value 4 (search rules)))
    (c.done.ensures ∙ ap (λ ws. done (at t) (at t).regs ws) c.pushed-row.ensures.more)

pub returns-else-self-eq0 : goal.returns-else-self-eq0
returns-else-self-eq0 c =
    let t = c.args.self.now in
    let m = nibbles 8 c.args.memory in
    let q = t.row in
    let e = q.eight in
    let r = q.room in
    ap (λ (i : Instruction). does m (at t) (instruction i)) c.in-Fence.is
    ∙ did_not m (at t) (some_wait q.items q.begin q.len (omega arith) (omega arith))
