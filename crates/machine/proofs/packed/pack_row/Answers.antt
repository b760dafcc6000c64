use Rattle.std.proofs.Common.{ℕ, ◌<◌, map, refl, ap, ◌∙◌, arith}
use Rattle.std.proofs.lemmas.List.{take_all}
use Rattle.lent.specs.Nibbles.{number}
use Rattle.model.specs.Machine.{Wait}
use Rattle.machine.specs.Packed.{values, places}
use Rattle.machine.specs.Stores.{wait}
use Rattle.machine.proofs.PackLaws.{packed_more, shifted_or, pushed_below}
use Rattle.machine.proofs.packed.pack_row.Goals as goal

pub loop-k-init : goal.loop-k-init
unfolding number
loop-k-init c = record { values = refl; values_below = omega arith; places = refl; places_below = omega arith }

below_16 : (n : ℕ) → n < 8 → n < 16
below_16 n h = omega arith

pub loop-k-preserved : goal.loop-k-preserved
loop-k-preserved c =
    let ss = c.stores-s-items.result.now in
    let k = c.loop-k.k in
    let i = c.loop-k.invariant in
    let few : k < 8 = let f = c.stores-s-items.ensures.few in omega arith in
    let s = c.stores-s-items.ensures.small k _ c.loop-k-test.true in
    let v = shifted_or k c.loop-k.values _ few i.values_below s.1 in
    let p = below_16 _ s.0 in
    let x = shifted_or k c.loop-k.places _ few i.places_below p in
    record {
      values = packed_more (λ (w : Wait). w.val) ss k c.loop-k.values _ c.loop-k-test.true few s.1 i.values_below i.values;
      values_below = let b = pushed_below k c.loop-k.values _ i.values_below s.1 in omega arith;
      places = packed_more (λ (w : Wait). w.place) ss k c.loop-k.places _ c.loop-k-test.true few p i.places_below i.places;
      places_below = let b = pushed_below k c.loop-k.places _ i.places_below p in omega arith;
    }

pub returns : goal.returns
returns c =
    let all = ap (map wait) (take_all c.loop-k.k c.stores-s-items.result.now c.loop-k-test.false) ∙ c.stores-s-items.ensures.are in
    (c.loop-k.invariant.values ∙ ap (λ ws. number (values ws)) all, c.loop-k.invariant.places ∙ ap (λ ws. number (places ws)) all)
