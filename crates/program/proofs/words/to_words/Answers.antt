use Rattle.std.proofs.Common.{[], ◌∷◌, ◌++◌, map, length, sym, ap, ◌∙◌}
use Rattle.std.proofs.lemmas.List.{take_all, length-map}
use Rattle.model.specs.Code.{Thread, row_t, row_ts}
use Rattle.program.specs.Instructions.{instruction}
use Rattle.program.specs.Meaning.{thread, program}
use Rattle.program.proofs.WriteWords.{thread_added, program_ok}
use Rattle.program.proofs.words.to_words.Goals as goal

pub loop-thread-preserved : goal.loop-thread-preserved
loop-thread-preserved c =
    let is = ap (map instruction) c.instructions-code.ensures.are in
    let code = c.instructions-code.result.now in
    let before = c.loop-thread.words.items in
    thread_added _ before _ c.threads-thread-items.result.now c.loop-thread.thread-index (length code) c.thread-item.result c.loop-thread-test.true c.loop-thread.invariant c.thread-item.is
    (sym (length-map code instruction) ∙ ap length is)
    (c.in_ok-push_code.ensures ∙ ap (λ a. a ++ row_t (map instruction code)) c.in_ok-push-2.ensures.items ∙ ap (λ (t : Thread). (before ++ length code ∷ []) ++ row_t t) is)

pub returns : goal.returns
returns c =
    let p = program c.args.p.now in
    let all = take_all c.loop-thread.thread-index c.threads-thread-items.result.now c.loop-thread-test.false in
    record {
      is =
          sym (c.loop-thread.invariant
          ∙ ap (λ ts. c.push.new.self.items ++ row_ts (map thread ts)) all
          ∙ ap (λ ts. c.push.new.self.items ++ row_ts (map thread ts)) c.threads-thread-items.ensures
          ∙ ap (λ a. a ++ row_ts p) (c.in_ok-push.ensures.items ∙ ap (λ a. a ++ (c.count.result ∷ [])) c.new-words.ensures.items)
          ∙ ap (λ m. m ∷ row_ts p) c.count.ensures.value);
      fine = program_ok c.args.p.now;
    }
