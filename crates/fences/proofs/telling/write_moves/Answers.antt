use Rattle.std.proofs.Common.{◌≡◌, ℕ, List, map, length, take, ap, ◌∙◌, arith}
use Rattle.std.proofs.lemmas.List.{take_all, drop-set-lt}
use Rattle.explore.specs.Found.{move_of}
use Rattle.fences.specs.Told.{text_ms}
use Rattle.fences.proofs.TellLaws.{move_more}
use Rattle.fences.proofs.telling.write_moves.Goals as goal

pub loop-k-preserved : goal.loop-k-preserved
loop-k-preserved c =
    let ms = c.args.path.now in
    let k = c.loop-k.k in
    let o = c.loop-k.out in
    let w = c.move_word.result in (
      move_more c.args.threads k w ms o (omega arith) (omega arith) c.move_word.ensures c.loop-k.invariant.0,
      drop-set-lt (length ms) o k w (omega arith) ∙ c.loop-k.invariant.1,
    )

pub returns : goal.returns
returns c =
    let ms = c.args.path.now in
    let k = c.loop-k.k in
    let e : length ms ≡ k = omega arith in
    record {
      written = ap (λ (n : ℕ). take n c.loop-k.out) e ∙ c.loop-k.invariant.0 ∙ ap (λ (z : List ℕ). text_ms (map (move_of c.args.threads) z)) (take_all k ms (omega arith));
      behind = c.loop-k.invariant.1;
    }
