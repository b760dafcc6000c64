use Rattle.std.proofs.Common.{◌≡◌, ℕ, ◌+◌, ◌*◌, ◌≤◌, ◌++◌, length, take, drop, replicate, sym, ap, ◌∙◌, subst, arith}
use Rattle.std.proofs.lemmas.List.{take_at, length-take-le}
use Rattle.lent.specs.declared.shape.Shape.{Shape}
use Rattle.lent.specs.Table.{homes, Probed}
use Rattle.program.specs.Meaning.{program}
use Rattle.explore.specs.Found.{width}
use Rattle.explore.proofs.Turns.{begun}
use Rattle.explore.proofs.explore.start.Goals as goal

pub returns-clause-started : goal.returns-clause-started
returns-clause-started c =
    let p = program c.args.p.now in
    let l = sym c.count.ensures.value in
    let r = c.new.result in
    let new = c.new.ensures in
    let long : 1 + 3 * c.count.result ≤ length c.args.queue.now = (let h = c.requires.room in omega arith) in
    let w : 1 + 3 * c.count.result ≡ width (length p) = ap (λ (z : ℕ). 1 + 3 * z) (sym l) in
    let zeros : c.fill.new.self ≡ replicate (1 + 3 * c.count.result) 0 = c.fill.ensures.after (λ y e. e) ∙ ap (λ (z : ℕ). replicate z 0) (length-take-le (1 + 3 * c.count.result) c.args.queue.now long) in
    let e : take (width (length p)) (c.fill.new.self ++ drop (1 + 3 * c.count.result) c.args.queue.now) ≡ replicate (width (length p)) 0 =
    take_at c.fill.new.self _ (width (length p)) (c.fill.ensures.len ∙ length-take-le (1 + 3 * c.count.result) c.args.queue.now long ∙ w) ∙ zeros ∙ ap (λ (z : ℕ). replicate z 0) w in
    let h : homes r.shape ≡ 1024 = ap (λ (s : Shape). homes s) new.shape in
    let f = c.requires.fits in
    let k = new.places in
    begun p r.shape c.args.limit r.queue.now r.table.now (ap (take (width (length p))) new.records ∙ e) (ap (λ (s : Shape). s.width) new.shape ∙ w) (subst (λ (z : ℕ). Probed r.shape r.queue.now r.table.now z) new.n new.probed) c.requires.some (omega arith)
