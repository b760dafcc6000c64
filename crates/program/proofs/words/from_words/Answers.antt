use Rattle.std.proofs.Common.{ap, ◌+◌, ◌∙◌}
use Rattle.std.proofs.lemmas.List.{length_push}
use Rattle.program.specs.Meaning.{thread}
use Rattle.program.proofs.ReadProgram.{no_thread, row_more, ok_more, stands_more}
use Rattle.program.proofs.words.from_words.Goals as goal

pub returns-in_err-thread : goal.returns-in_err-thread
returns-in_err-thread c =
    rw c.from_residual-in_err-thread.ensures
    (no_thread _ _ _ c.loop-n._n _ c.in_ok-count.ensures.cases.0 c.loop-n-test.true c.loop-n.invariant.stands c.in_err-thread.ensures)

pub loop-n-preserved : goal.loop-n-preserved
loop-n-preserved c =
    let t = c.in_ok-thread.thread in
    let b = c.in_ok-thread.ensures in
    rw c.push.ensures.items record {
      so_many = length_push c.loop-n.threads.items t ∙ ap (λ n. n + 1) c.loop-n.invariant.so_many;
      words = row_more _ _ _ c.loop-n.threads.items t b c.loop-n.invariant.words;
      fine = ok_more _ _ c.loop-n.threads.items t b c.loop-n.invariant.fine;
      stands = stands_more _ _ _ c.loop-n._n _ _ (thread t) c.in_ok-count.ensures.cases.0 c.loop-n-test.true b c.loop-n.invariant.stands;
    }
