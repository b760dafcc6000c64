-- The call that was made.
use Rattle.cli.proofs.running.run.Goals as goal
use Rattle.cli.proofs.running.run.Goals.{in-Answer+in_ok-input-in-Answer+in_ok-answer-in-Answer, in-Help+in_ok-println-in-Help, in-ToWords+in_ok-input-in-ToWords+in_ok-told-in-ToWords+in_ok-line-in-ToWords+in_ok-println-in-ToWords, in-Words+in_ok-words-in-Words}

pub returns-clause-answer : goal.returns-clause-answer
returns-clause-answer g c = λ e. elim c.match-mode.branch [
  | in-Answer+in_ok-input-in-Answer+in_ok-answer-in-Answer w ↦ (w.in_ok-input-in-Answer.input, w.in_ok-answer-in-Answer.ensures)
  | in-Help+in_ok-println-in-Help w ↦ absurd cc
  | in-ToWords+in_ok-input-in-ToWords+in_ok-told-in-ToWords+in_ok-line-in-ToWords+in_ok-println-in-ToWords w ↦ absurd cc
  | in-Words+in_ok-words-in-Words w ↦ absurd cc
]
