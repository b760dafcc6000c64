use Rattle.std.proofs.Common.{◌≡◌, ◌+◌, ◌<◌, map, length, ap, ◌∙◌, arith}
use Rattle.std.proofs.lemmas.List.{length-map, length_push}
use Rattle.program.specs.Instructions.{instruction}
use Rattle.program.proofs.ReadThread.{no_words, too_many, too_short, no_instruction, ok_more, row_more, thread_begins}
use Rattle.program.proofs.words.thread_from_words.Goals as goal

pub returns-in_err-len : goal.returns-in_err-len
returns-in_err-len c = rw c.from_residual.ensures (no_words c.args.words.now c.in_err-len.ensures.cases)

pub returns-then-len-gt8 : goal.returns-then-len-gt8
returns-then-len-gt8 c = too_many _ _ _ c.in_ok-len.ensures.cases.0 c.if-len-gt8.true

pub returns-in_default : goal.returns-in_default
returns-in_default c =
    let n : length (map instruction c.loop-k.code.items) < c.in_ok-len.len.now = let l = length-map c.loop-k.code.items instruction in let s = c.loop-k.invariant.so_many in omega arith in
    too_short _ _ _ _ _ c.in_ok-len.ensures.cases.0 c.loop-k.invariant.words n c.in_default.len_below

pub returns-in_err-instruction_from_words : goal.returns-in_err-instruction_from_words
returns-in_err-instruction_from_words c =
    let n : length (map instruction c.loop-k.code.items) < c.in_ok-len.len.now = let l = length-map c.loop-k.code.items instruction in let s = c.loop-k.invariant.so_many in omega arith in
    rw c.from_residual-in_err-instruction_from_words.ensures
    (no_instruction _ _ _ _ _ c.in_ok-len.ensures.cases.0 c.loop-k.invariant.words n c.in-len4-up.len_at_least c.in_err-instruction_from_words.ensures)

pub loop-k-preserved : goal.loop-k-preserved
loop-k-preserved c =
    let r = c.in_ok-instruction_from_words.ensures in
    rw c.push.ensures.items record {
      so_many = length_push c.loop-k.code.items c.in_ok-instruction_from_words.field-0 ∙ ap (λ n. n + 1) c.loop-k.invariant.so_many;
      words = row_more _ _ c.loop-k.code.items c.in_ok-instruction_from_words.field-0 c.loop-k.invariant.words c.in-len4-up.len_at_least r.0;
      fine = ok_more c.loop-k.code.items c.in_ok-instruction_from_words.field-0 c.loop-k.invariant.fine r.1;
    }

pub returns : goal.returns
returns c =
    let n : length c.loop-k.code.items ≡ c.in_ok-len.len.now = let s = c.loop-k.invariant.so_many in omega arith in
    thread_begins _ _ _ _ _ c.in_ok-len.ensures.cases.0 n (omega arith) c.loop-k.invariant.words c.loop-k.invariant.fine
