-- A row as part of an array: one store more, the oldest gone, and what is read store by store.
use Rattle.std.proofs.Common.{◌≡◌, ℕ, zero, suc, ◌+◌, ◌-◌, ◌<◌, ◌≤◌, eqb, List, [], ◌∷◌, ◌++◌, map, length, get_or, take, drop, set, sym, refl, ap, ◌∙◌, subst, inl, inr, arith}
use Rattle.std.proofs.lemmas.List.{get_or-drop, get_or-take, get_or-set_same, get_or-set_other, length-drop, length-take, length-set, drop_more, drop-set-add, take_more_set, map_more, map_push}
use Rattle.std.proofs.lemmas.Bool.{cases_eq}
use Rattle.model.specs.Code.{pick}
use Rattle.model.specs.Machine.{Wait, newest}
use Rattle.machine.specs.declared.stores.Store.{Store}
use Rattle.machine.specs.Stores.{wait, row, AllSmall}

newest_push : (ws : List Wait) (w : Wait) (x v : ℕ) → newest (ws ++ w ∷ []) x v ≡ newest (w ∷ []) x (newest ws x v)
newest_push [] w x v = refl
newest_push (u ∷ ws) w x v = newest_push ws w x (pick (eqb u.place x) u.val v)

-- one store more is read
pub newest_more : (stores : List Store) (k : ℕ) (s : Store) (x m v : ℕ) → k < length stores → v ≡ newest (map wait (take k stores)) x m → newest (wait (get_or stores k s) ∷ []) x v ≡ newest (map wait (take (k + 1) stores)) x m
newest_more stores k s x m v h e =
    ap (newest (wait (get_or stores k s) ∷ []) x) e
    ∙ sym (ap (λ ws. newest ws x m) (map_more wait stores k s h) ∙ newest_push (map wait (take k stores)) (wait (get_or stores k s)) x m)

pub row_pushed : (items : List Store) (begin len : ℕ) (s : Store) → begin + len < length items → row (set items (begin + len) s) begin (len + 1) ≡ row items begin len ++ wait s ∷ []
row_pushed items begin len s h =
    let l = length-drop begin items in
    ap (λ xs. map wait (take (len + 1) xs)) (drop-set-add begin items len s)
    ∙ ap (map wait) (take_more_set (drop begin items) len s (omega arith))
    ∙ map_push wait (take len (drop begin items)) s

pub small_set : (items : List Store) (i : ℕ) (s : Store) → s.place.0 < 8 → s.value < 16 → AllSmall items → AllSmall (set items i s)
small_set items i s hp hv small k d h =
    let l = length-set items i s in
    elim (cases_eq k i) [
      | inl e ↦
          let g : get_or (set items i s) k d ≡ s = ap (λ j. get_or (set items i s) j d) e ∙ get_or-set_same items i s d (omega arith) in
          (subst_lt (ap (λ (z : Store). z.place.0) g) hp, subst_lt (ap (λ (z : Store). z.value) g) hv)
      | inr ne ↦
          let g : get_or (set items i s) k d ≡ get_or items k d = get_or-set_other items i k s d ne in
          let r = small k d (omega arith) in
          (subst_lt (ap (λ (z : Store). z.place.0) g) r.0, subst_lt (ap (λ (z : Store). z.value) g) r.1)
    ]
  where
    subst_lt : {a b n : ℕ} → a ≡ b → b < n → a < n
    subst_lt e h = omega arith

pub row_popped : (items : List Store) (begin len : ℕ) (s : Store) → 0 < len → begin + len ≤ length items → row items begin len ≡ wait (get_or items begin s) ∷ row items (begin + 1) (len - 1)
row_popped items begin zero s h u = absurd (omega arith)
row_popped items begin (suc len) s h u =
    ap (λ xs. map wait (take (suc len) xs)) (drop_more items begin s (omega arith))
    ∙ ap (λ n. wait (get_or items begin s) ∷ map wait (take n (drop (begin + 1) items))) (omega arith)

pub small_part : (items : List Store) (begin len : ℕ) → AllSmall items → AllSmall (take len (drop begin items))
small_part items begin len small k s h =
    let l = length-take len (drop begin items) in
    let d = length-drop begin items in
    let e : get_or (take len (drop begin items)) k s ≡ get_or items (begin + k) s = get_or-take len (drop begin items) k s (omega arith) ∙ get_or-drop begin items k s in
    let r = small (begin + k) s (omega arith) in
    (subst (λ (z : Store). z.place.0 < 8) (sym e) r.0, subst (λ (z : Store). z.value < 16) (sym e) r.1)
