use Rattle.std.proofs.Common.{ℕ, ◌+◌, ◌-◌, sym, ◌*◌, ◌≡◌, length, ap, List, ◌++◌, take, ◌∙◌, arith, length-take, length-drop}
use borrow.Rule.Slice.PartMut.{put_mid, same_len_mid}
use Rattle.std.proofs.lemmas.List.{take_all}
use Rattle.std.proofs.lemmas.Slice.{take-put_mid, drop-put_mid}
use Rattle.report.proofs.Written.{written_none, written_more, written_all, row_long}
use Rattle.report.proofs.outcomes.write_outcome.Goals as goal

pub loop-n-init : goal.loop-n-init
loop-n-init c = written_none _ c.args.state.now c.args.once (omega (arith, length-take {A = ℕ}, length-drop {A = ℕ}))

pub loop-n-preserved : goal.loop-n-preserved
loop-n-preserved c =
    let n = c.loop-n.n in
    let w = 9 + 4 * c.args.threads in
    let long : length c.loop-n.row ≡ w = c.loop-n.auto.row ∙ row_long c.args.out.now c.args.at w c.args.once (omega arith) in
    let part : length c.write_fields.new.out ≡ 4 = omega (arith, length-take {A = ℕ}, length-drop {A = ℕ}) in
    written_more c.loop-n.row _ c.write_fields.new.out c.args.state.now c.args.once n _ c.loop-n.invariant
    (take-put_mid (1 + 4 * n) _ c.loop-n.row c.write_fields.new.out (1 + 4 * (n + 1)) (omega arith) (omega arith))
    c.write_fields.ensures (omega (arith, length-take {A = ℕ}, length-drop {A = ℕ}))

pub returns : goal.returns
returns c =
    let k = c.args.threads in
    let w = 9 + 4 * k in
    let at = c.args.at in
    let row = c.loop-n.row in
    let new = c.write_fields-2.new.out in
    let long : length row ≡ w = c.loop-n.auto.row ∙ row_long c.args.out.now at w c.args.once (omega arith) in
    let part : length new ≡ 8 = omega (arith, length-take {A = ℕ}, length-drop {A = ℕ}) in
    let all : List ℕ = put_mid (1 + 4 * k) (length row - (1 + 4 * k)) row new in
    let same : length all ≡ w = same_len_mid (1 + 4 * k) (length row - (1 + 4 * k)) row new (omega (arith, length-take {A = ℕ}, length-drop {A = ℕ})) ∙ long in
    let got : all ≡ take (1 + 4 * k) row ++ new = sym (take_all w all (omega arith)) ∙ take-put_mid (1 + 4 * k) (length row - (1 + 4 * k)) row new w (omega arith) (omega arith) in
    record {
      written =
          λ s h.
          take-put_mid at (at + w - at) c.args.out.now all (at + w) (omega arith) (omega arith)
          ∙ ap (λ (z : List ℕ). take at c.args.out.now ++ z)
          (written_all row all new c.args.state.now c.args.once k _ c.loop-n.n s h c.requires.words (omega arith) c.loop-n.invariant got c.write_fields-2.ensures (omega (arith, length-take {A = ℕ}, length-drop {A = ℕ})));
      behind = drop-put_mid at (at + w - at) c.args.out.now all (at + w) (omega arith) (omega arith) (omega arith);
    }
