-- What a read has: by the row of its thread, the newest of the writes to its place; by an order, the newest of those
-- that it may see. The first is put in a form that can be compared with the second; and of the second it is shown that
-- the first event of an order may be taken off it and done in memory, and the reads behind it have the same.
use mathlib.Core.Path.{◌≡◌, refl, sym, ◌∙◌, ap, subst}
use mathlib.Core.Logic.{◌⊎◌, inl, inr}
use mathlib.Core.Bool.{Bool, true, false}
use mathlib.Core.List.{List, [], ◌∷◌}
use mathlib.Core.Option.{Option}
use Prim.Native.Nat.{ℕ, ◌<◌}
use lib.ListN.{length}
use lib.Dec.{eqb}
use Rattle.model.specs.Code.{pick, opt, put}
use Rattle.model.specs.Machine.{at_mem, newest}
use Rattle.model.specs.Orders.{Ev, In, first, more, Before, here, later, Sees}
use Rattle.model.proofs.Tools.{same_or, eqb_same, eqb_not, nth_put_same, nth_put_other, below_nth, false_true}
use Rattle.model.proofs.Orders.Events.{within, ahead, here_same, before_first, before_second}
use Rattle.model.proofs.Orders.Going.{waits_of, after}

-- the newest of the events ws to place x: w, if each of the others stands before it
pub record Newest (ws : List Ev) (x : ℕ) (w : Ev) : Type 0 where
  pub one : In w ws
  pub to : w.place ≡ x
  pub last : (u : Ev) → In u ws → u.place ≡ x → (u ≡ w) ⊎ Before u w ws

abbrev pub NoWrite : List Ev → ℕ → Type 0
NoWrite ws x = (u : Ev) → In u ws → u.place ≡ x → ⊥

-- a thread reads the newest of its row to x; and v, which is memory's, if it has none
pub newest_is : (ws : List Ev) (x v : ℕ) → ((w : Ev) × Newest ws x w × (newest (waits_of ws) x v ≡ w.val)) ⊎ (NoWrite ws x × (newest (waits_of ws) x v ≡ v))
newest_is [] x v = inr (λ u i q. within i, refl)
newest_is (e ∷ ws) x v = elim (newest_is ws x (pick (eqb e.place x) e.val v)) [
  | inl (w, h, q) ↦ inl (
    w,
    record {
      one = more h.one;
      to = h.to;
      last = λ u i r. elim (within i) [
        | inl s ↦ inr (here_same s h.one)
        | inr j ↦ elim (h.last u j r) [ inl s ↦ inl s | inr b ↦ inr (later b) ]
      ];
    },
    q,
  )
  | inr (h, q) ↦ elim (same_or e.place x) [
    | inl s ↦ inl (
      e,
      record {
        one = first;
        to = s;
        last = λ u i r. elim (within i) [ inl z ↦ inl z | inr j ↦ absurd (h u j r) ];
      },
      q ∙ ap (λ (z : Bool). pick z e.val v) (ap (λ (z : ℕ). eqb z x) s ∙ eqb_same x),
    )
    | inr d ↦ inr (
      λ u i r. elim (within i) [
        | inl z ↦ d (sym (ap (λ (y : Ev). y.place) z) ∙ r)
        | inr j ↦ h u j r
      ],
      q ∙ ap (λ (z : Bool). pick z e.val v) (eqb_not e.place x d),
    )
  ]
]

-- memory after a write to the place, and after any other event
after_at : (m : List ℕ) (e : Ev) (x : ℕ) → e.write ≡ true → e.place ≡ x → e.place < length m → at_mem (after m e) x ≡ e.val
after_at m e x w q h =
    let (y, r) = below_nth m e.place h in
    ap (at_mem (after m e)) (sym q) ∙ (ap (λ (z : Bool). at_mem (pick z (put m e.place e.val) m) e.place) w ∙ ap (λ (z : Option ℕ). opt z 0 (λ v. v)) (nth_put_same m e.place e.val r))

after_other : (m : List ℕ) (e : Ev) (x : ℕ) → (e.write ≡ true → e.place ≡ x → ⊥) → at_mem (after m e) x ≡ at_mem m x
after_other m e x d = go e.write refl
  where
    go : (b : Bool) → e.write ≡ b → at_mem (pick b (put m e.place e.val) m) x ≡ at_mem m x
    go true q = ap (λ (z : Option ℕ). opt z 0 (λ y. y)) (nth_put_other m e.place x e.val (d q))
    go false q = refl

-- what a read has by the order o, where memory was m before it
abbrev pub Has : List ℕ → List Ev → Ev → Type 0
Has m o r = ((w : Ev) × Sees o w r × (w.val ≡ r.val) × ((v : Ev) → Sees o v r → Before w v o → ⊥)) ⊎ ((r.val ≡ at_mem m r.place) × ((w : Ev) → Sees o w r → ⊥))

module _ (m : List ℕ) (e : Ev) (es : List Ev) (r : Ev) (ri : In r es) (place : e.place < length m) where
  sees_in : {w : Ev} → Sees es w r → In w es
  sees_in (a, b, inl k) = before_first k
  sees_in (a, b, inr (c, d, i)) = i

  sees_more : {w : Ev} → Sees es w r → Sees (e ∷ es) w r
  sees_more (a, b, inl k) = (a, b, inl (later k))
  sees_more (a, b, inr (c, d, i)) = (a, b, inr (c, d, more i))

  sees_or : {w : Ev} → Sees (e ∷ es) w r → (w ≡ e) ⊎ Sees es w r
  sees_or (a, b, inl k) = elim (ahead k) [ inl (q, i) ↦ inl q | inr j ↦ inr (a, b, inl j) ]
  sees_or (a, b, inr (c, d, i)) = elim (within i) [ inl q ↦ inl q | inr j ↦ inr (a, b, inr (c, d, j)) ]

  pub has_less : Has m (e ∷ es) r → Has (after m e) es r
  has_less (inl (w, s, q, new)) = elim (sees_or s) [
    | inl z ↦ inr (val z, λ v sv. new v (sees_more sv) (here_same z (sees_in sv)))
    | inr s' ↦ inl (w, s', q, λ v sv b. new v (sees_more sv) (later b))
  ]
    where
      val : w ≡ e → r.val ≡ at_mem (after m e) r.place
      val z = sym q ∙ (ap (λ (y : Ev). y.val) z ∙ sym (after_at m e r.place (sym (ap (λ (y : Ev). y.write) z) ∙ s.0) (sym (ap (λ (y : Ev). y.place) z) ∙ s.1) place))
  has_less (inr (q, no-w)) = inr (q ∙ sym (after_other m e r.place (λ a b. no-w e (a, b, inl (here ri)))), λ w s. no-w w (sees_more s))

  pub has_more : (In e es → ⊥) → Has (after m e) es r → Has m (e ∷ es) r
  has_more fresh (inl (w, s, q, new)) = inl (
    w,
    sees_more s,
    q,
    λ v sv b. elim (ahead b) [
      | inl (z, i) ↦ fresh (subst (λ (y : Ev). In y es) z (sees_in s))
      | inr b' ↦ elim (sees_or sv) [ inl z ↦ fresh (subst (λ (y : Ev). In y es) z (before_second b')) | inr sv' ↦ new v sv' b' ]
    ],
  )
  has_more fresh (inr (q, no-w)) = go e.write refl
    where
      by_memory : (e.write ≡ true → e.place ≡ r.place → ⊥) → Has m (e ∷ es) r
      by_memory d = inr (
        q ∙ after_other m e r.place d,
        λ w s. elim (sees_or s) [
          | inl z ↦ d (sym (ap (λ (y : Ev). y.write) z) ∙ s.0) (sym (ap (λ (y : Ev). y.place) z) ∙ s.1)
          | inr s' ↦ no-w w s'
        ],
      )

      by_this : e.write ≡ true → e.place ≡ r.place → Has m (e ∷ es) r
      by_this a b = inl (
        e,
        (a, b, inl (here ri)),
        sym (q ∙ after_at m e r.place a b place),
        λ v sv k. elim (ahead k) [
          | inl (z, i) ↦ elim (sees_or sv) [ inl y ↦ fresh (subst (λ (u : Ev). In u es) y i) | inr sv' ↦ no-w v sv' ]
          | inr k' ↦ fresh (before_first k')
        ],
      )

      go : (b : Bool) → e.write ≡ b → Has m (e ∷ es) r
      go true a = elim (same_or e.place r.place) [ inl b ↦ by_this a b | inr d ↦ by_memory (λ a' b. d b) ]
      go false a = by_memory (λ a' b. false_true (sym a ∙ a'))
