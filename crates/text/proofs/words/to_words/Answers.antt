use Rattle.std.proofs.Common.{◌≡◌, [], ◌∷◌, ◌++◌, map, length, sym, ap, ◌∙◌}
use Rattle.std.proofs.lemmas.List.{length-map, take_all}
use Rattle.model.specs.Code.{row_ts}
use Rattle.text.specs.Grammar.{Column, program}
use Rattle.text.specs.Meaning.{column, listing}
use Rattle.text.proofs.WordRows.{first, thread_added}
use Rattle.text.proofs.words.to_words.Goals as goal

pub loop-thread-preserved : goal.loop-thread-preserved
loop-thread-preserved c =
    thread_added _ _ _ c.deref-thread-items.result.now c.loop-thread.thread-index c.thread-item.result c.as_slice.result.now c.loop-thread-test.true c.thread-item.is c.as_slice.ensures.value c.loop-thread.invariant c.in_ok-push_thread.ensures

pub returns : goal.returns
returns c =
    let s = c.args.source.now in
    let ts = s.threads.items in
    let w = c.in_ok-count.field-0 in
    let all : first c.deref-thread-items.result.now c.loop-thread.thread-index ≡ row_ts (program (listing s)) = ap (λ l. row_ts (map (λ (d : Column). d.code) (map column l))) (take_all c.loop-thread.thread-index c.deref-thread-items.result.now c.loop-thread-test.false ∙ c.deref-thread-items.ensures.value) in
    let size : w ≡ length (program (listing s)) = c.in_ok-count.ensures.value ∙ c.len.ensures ∙ s.threads.ok.0 ∙ sym (length-map (map column ts) (λ (d : Column). d.code) ∙ length-map ts column) in
    c.loop-thread.invariant
    ∙ ap (λ r. c.push.new.self.items ++ r) all
    ∙ ap (λ a. a ++ row_ts (program (listing s))) (c.in_ok-push.ensures.items ∙ ap (λ a. a ++ (w ∷ [])) c.new-words.ensures.items)
    ∙ ap (λ n. n ∷ row_ts (program (listing s))) size
