use Rattle.std.proofs.Common.{◌≡◌, ℕ, drop, position, nat_eq, refl, sym, ap, ◌∙◌}
use Rattle.std.proofs.lemmas.List.{take_rest}
use Rattle.lent.proofs.Probing.{first_position, first_free}
use Rattle.lent.proofs.table.free_place.Goals as goal

pub unwrap-requires : goal.unwrap-requires
unwrap-requires c =
    let t = c.args.table.now in
    let f = c.first_free.ensures ∙ ap (position (λ (x : ℕ). nat_eq x 0)) (take_rest t c.args.from) ∙ first_position t c.args.from c.requires in
    rw f refl

pub returns : goal.returns
returns c =
    let t = c.args.table.now in
    let is : position (λ (x : ℕ). nat_eq x 0) (drop c.args.from t) ≡ c.first_free.result = sym (c.first_free.ensures ∙ ap (position (λ (x : ℕ). nat_eq x 0)) (take_rest t c.args.from)) in
    first_free t c.args.from c.requires c.unwrap.result (is ∙ c.unwrap.ensures)
