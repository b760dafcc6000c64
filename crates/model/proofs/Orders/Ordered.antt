-- An order is events taken one after the other, and events so taken are an order.
-- An order is stated here of a list of events for each thread, and of what memory holds before it, so that the rest
-- of an order is an order again once its first event is taken out and done (less); and the other way round (more).
use mathlib.Core.Path.{◌≡◌, refl, sym, ◌∙◌, ap, subst}
use mathlib.Core.Logic.{◌⊎◌, inl, inr}
use mathlib.Core.Bool.{false}
use mathlib.Core.List.{List, [], ◌∷◌, ◌++◌}
use mathlib.Core.Option.{some}
use Prim.Native.Nat.{ℕ}
use native.Mathlib.Omega.{arith}
use Rattle.model.specs.Code.{nth, Thread, Prog}
use Rattle.model.specs.Machine.{at_mem}
use Rattle.model.specs.Orders.{Ev, In, first, more, Before, here, later, Sees}
use Rattle.model.proofs.Tools.{some_is, false_true}
use Rattle.model.proofs.Orders.Events.{within, ahead, in_same, here_same, before_first, before_second, before_both, in_or, before_this, this_before, before_left, left_in, in_split}
use Rattle.model.proofs.Orders.Going.{Cross, Took, Gives, after, Goes, upd, upd_here, upd_there, Well, took_this, took_in, took_before, took_or, took_before_or, took_well, took_apart}
use Rattle.model.proofs.Orders.Reading.{newest_is, Has, has_less, has_more}

pub record Ordered (p : Prog) (m : List ℕ) (A : ℕ → List Ev) (o : List Ev) : Type 0 where
  pub from : (e : Ev) → In e o → (n : ℕ) × In e (A n)
  pub each : (n : ℕ) (e : Ev) → In e (A n) → In e o
  pub once : (a b : Ev) → Before a b o → (a.thread ≡ b.thread) × (a.index ≡ b.index) → ⊥
  pub kept : (n : ℕ) (t : Thread) (a b : Ev) → nth p n ≡ some t → Before a b (A n) → Before a b o ⊎ Cross t a b
  pub has : (r : Ev) → In r o → r.write ≡ false → Has m o r

-- where nothing is to come the order is empty
ordered_none : (p : Prog) (m : List ℕ) (A : ℕ → List Ev) → ((n : ℕ) → A n ≡ []) → Ordered p m A []
ordered_none p m A h = record {
  from = λ e i. absurd (within i);
  each = λ n e i. subst (λ (z : List Ev). In e z) (h n) i;
  once = λ a b k s. ahead k;
  kept = λ n t a b q k. absurd (ahead (subst (λ (z : List Ev). Before a b z) (h n) k));
  has = λ r i w. absurd (within i);
}

none_ordered : (p : Prog) (m : List ℕ) (A : ℕ → List Ev) → Ordered p m A [] → (n : ℕ) → A n ≡ []
none_ordered p m A o n = go (A n) refl
  where
    go : (l : List Ev) → A n ≡ l → A n ≡ []
    go [] q = q
    go (e ∷ l) q = absurd (within (o.each n e (subst (λ (z : List Ev). In e z) (sym q) first)))

-- an event e taken out of a thread's list: the writes that it may see in the order are those that it passes
module _ (p : Prog) (m : List ℕ) (A : ℕ → List Ev) (e : Ev) (es : List Ev) (well : Well p m A) (B : ℕ → List Ev) (st : Took p A e B)
    (from : (x : Ev) → In x (e ∷ es) → (n : ℕ) × In x (A n)) (each : (n : ℕ) (x : Ev) → In x (A n) → In x (e ∷ es)) (fresh : In e es → ⊥) where
  -- what is passed stands in the thread's list, before e
  older_before : {w : Ev} → In w st.older → Before w e (A st.n)
  older_before {w} i = subst (λ (z : List Ev). Before w e z) (sym st.was) (before_this e st.newer i)

  older_sees : {w : Ev} → In w st.older → w.place ≡ e.place → Sees (e ∷ es) w e
  older_sees {w} i q =
      let b = older_before i in
      let here_w = before_first b in
      ((st.over w i).0, q, inr (well.thread st.n w here_w ∙ sym (well.thread st.n e (before_second b)), well.sorted st.n w e b, each st.n w here_w))

  sees_older : {w : Ev} → Sees (e ∷ es) w e → In w st.older
  sees_older {w} (a, b, inl k) = elim (ahead k) [ inl (q, i) ↦ absurd (fresh i) | inr j ↦ absurd (fresh (before_second j)) ]
  sees_older {w} (a, b, inr (same, less, i)) =
      let (k, j) = from w i in
      let q : k ≡ st.n = sym (well.thread k w j) ∙ (same ∙ well.thread st.n e (took_this p A e B st)) in
      let h = subst (λ (z : List Ev). In w z) st.was (subst (λ (z : ℕ). In w (A z)) q j) in
      elim (left_in e st.older st.newer h) [
        | inl z ↦ let x = ap (λ (y : Ev). y.index) z in absurd (omega arith)
        | inr z ↦ elim (in_or st.older st.newer z) [
          | inl y ↦ y
          | inr y ↦ let x = well.sorted st.n e w (subst (λ (u : List Ev). Before e w u) (sym st.was) (this_before e st.older y)) in absurd (omega arith)
        ]
      ]

  -- writes are kept in their order
  module _ (kept : (a b : Ev) → Before a b (A st.n) → Before a b (e ∷ es) ⊎ Cross st.t a b) where
    older_kept : {v w : Ev} → Before v w st.older → Before v w (e ∷ es)
    older_kept {v} {w} k = elim (kept v w (subst (λ (z : List Ev). Before v w z) (sym st.was) (before_left (e ∷ st.newer) k))) [
      | inl b ↦ b
      | inr c ↦ absurd (false_true (sym c.1 ∙ (st.over w (before_second k)).0))
    ]

    -- so e has the newest of those that it passes exactly if it has the newest of those that it may see
    gives_has : ((c : Ev) → Before c c (e ∷ es) → ⊥) → Gives m st.older e → Has m (e ∷ es) e
    gives_has once g = elim (newest_is st.older e.place (at_mem m e.place)) [
      | inl (w, h, q) ↦ inl (
        w,
        older_sees h.one h.to,
        sym (g ∙ q),
        λ v s b. elim (h.last v (sees_older s) s.1) [
          | inl z ↦ once w (subst (λ (y : Ev). Before w y (e ∷ es)) z b)
          | inr k ↦ let (c, x) = before_both (e ∷ es) b (older_kept k) in once c x
        ],
      )
      | inr (h, q) ↦ inr (g ∙ q, λ w s. h w (sees_older s) s.1)
    ]

    has_gives : Has m (e ∷ es) e → Gives m st.older e
    has_gives (inl (w, s, q, new)) = elim (newest_is st.older e.place (at_mem m e.place)) [
      | inl (u, h, r) ↦ elim (h.last w (sees_older s) s.1) [
        | inl z ↦ sym q ∙ (ap (λ (y : Ev). y.val) z ∙ sym r)
        | inr k ↦ absurd (new u (older_sees h.one h.to) (older_kept k))
      ]
      | inr (h, r) ↦ absurd (h w (sees_older s) s.1)
    ]
    has_gives (inr (q, no-w)) = elim (newest_is st.older e.place (at_mem m e.place)) [
      | inl (u, h, r) ↦ absurd (no-w u (older_sees h.one h.to))
      | inr (h, r) ↦ q ∙ sym r
    ]

-- an event taken, and then an order of the rest
module _ (p : Prog) (m : List ℕ) (A : ℕ → List Ev) (e : Ev) (es : List Ev) (well : Well p m A) (B : ℕ → List Ev) (st : Took p A e B) (gives : e.write ≡ false → Gives m st.older e) (o : Ordered p (after m e) B es) where
  apart : {x : Ev} → In x es → e.thread ≡ x.thread → e.index ≡ x.index → ⊥
  apart i = let (k, j) = o.from _ i in took_apart p A e B st m well k j

  fresh : In e es → ⊥
  fresh i = apart i refl refl

  from_more : (x : Ev) → In x (e ∷ es) → (n : ℕ) × In x (A n)
  from_more x i = elim (within i) [
    | inl q ↦ (st.n, subst (λ (z : Ev). In z (A st.n)) (sym q) (took_this p A e B st))
    | inr j ↦ let (k, h) = o.from x j in (k, took_in p A e B st k h)
  ]

  each_more : (k : ℕ) (x : Ev) → In x (A k) → In x (e ∷ es)
  each_more k x i = elim (took_or p A e B st k i) [ inl q ↦ in_same q | inr j ↦ more (o.each k x j) ]

  once_more : (a b : Ev) → Before a b (e ∷ es) → (a.thread ≡ b.thread) × (a.index ≡ b.index) → ⊥
  once_more a b k s = elim (ahead k) [
    | inl (q, i) ↦ apart i (sym (ap (λ (z : Ev). z.thread) q) ∙ s.0) (sym (ap (λ (z : Ev). z.index) q) ∙ s.1)
    | inr j ↦ o.once a b j s
  ]

  kept_more : (k : ℕ) (t : Thread) (a b : Ev) → nth p k ≡ some t → Before a b (A k) → Before a b (e ∷ es) ⊎ Cross t a b
  kept_more k t a b c i = elim (took_before_or p A e B st k i) [
    | inl (inl (q, j, z)) ↦ inr (subst (λ (y : Ev). Cross t a y) (sym z) (subst (λ (y : Thread). Cross y a e) (some_is (sym st.code ∙ (ap (nth p) q ∙ c))) (st.over a j)))
    | inl (inr (z, j)) ↦ inl (here_same z (o.each k b j))
    | inr j ↦ elim (o.kept k t a b c j) [ inl x ↦ inl (later x) | inr x ↦ inr x ]
  ]

  ordered_more : Ordered p m A (e ∷ es)
  ordered_more = record {
    from = from_more;
    each = each_more;
    once = once_more;
    kept = kept_more;
    has = λ r i w. elim (within i) [
      | inl q ↦ subst (λ (z : Ev). Has m (e ∷ es) z) (sym q) (gives_has p m A e es well B st from_more each_more fresh (λ a b. kept_more st.n st.t a b st.code) (λ c x. once_more c c x (refl, refl)) (gives (sym (ap (λ (z : Ev). z.write) q) ∙ w)))
      | inr j ↦ has_more m e es r j (well.place st.n e (took_this p A e B st)) fresh (o.has r j w)
    ];
  }

-- the first event of an order is taken, and the rest is an order
module _ (p : Prog) (m : List ℕ) (A : ℕ → List Ev) (e : Ev) (es : List Ev) (well : Well p m A) (o : Ordered p m A (e ∷ es)) where
  fresh_of : In e es → ⊥
  fresh_of i = o.once e e (here i) (refl, refl)

  taken : (B : ℕ → List Ev) × Took p A e B
  taken =
      let (n, i) = o.from e first in
      let (t, c) = well.has n e i in
      let (xs, ys, q) = in_split i in (
        upd A n (xs ++ ys),
        record {
          n = n;
          t = t;
          code = c;
          older = xs;
          newer = ys;
          was = q;
          is = upd_here A n (xs ++ ys);
          others = upd_there A n (xs ++ ys);
          over = λ a j. elim (o.kept n t a e c (subst (λ (z : List Ev). Before a e z) (sym q) (before_this e ys j))) [
            | inl k ↦ elim (ahead k) [ inl (z, h) ↦ absurd (fresh_of h) | inr k' ↦ absurd (fresh_of (before_second k')) ]
            | inr x ↦ x
          ];
        },
      )

  ordered_less : (B : ℕ → List Ev) (st : Took p A e B) → Ordered p (after m e) B es
  ordered_less B st = record {
    from = λ x i. let (k, j) = o.from x (more i) in
        elim (took_or p A e B st k j) [ inl q ↦ absurd (fresh_of (subst (λ (z : Ev). In z es) q i)) | inr h ↦ (k, h) ];
    each = λ k x i. elim (within (o.each k x (took_in p A e B st k i))) [ inl q ↦ absurd (gone k i q) | inr j ↦ j ];
    once = λ a b k s. o.once a b (later k) s;
    kept = λ n t a b c k. elim (o.kept n t a b c (took_before p A e B st n k)) [
      | inl j ↦ elim (ahead j) [ inl (q, h) ↦ absurd (gone n (before_first k) q) | inr h ↦ inl h ]
      | inr x ↦ inr x
    ];
    has = λ r i w. has_less m e es r i (well.place st.n e (took_this p A e B st)) (o.has r (more i) w);
  }
    where
      gone : (k : ℕ) {x : Ev} → In x (B k) → x ≡ e → ⊥
      gone k i q = took_apart p A e B st m well k i (sym (ap (λ (z : Ev). z.thread) q)) (sym (ap (λ (z : Ev). z.index) q))

  gives_of : (B : ℕ → List Ev) (st : Took p A e B) → e.write ≡ false → Gives m st.older e
  gives_of B st w = has_gives p m A e es well B st o.from o.each fresh_of (λ a b. o.kept st.n st.t a b st.code) (o.has e first w)

-- both, event by event
pub goes_ordered : (p : Prog) (m : List ℕ) (A : ℕ → List Ev) (es : List Ev) → Well p m A → Goes p m A es → Ordered p m A es
goes_ordered p m A [] well g = ordered_none p m A g
goes_ordered p m A (e ∷ es) well (B, st, gives, g) =
    ordered_more p m A e es well B st gives (goes_ordered p (after m e) B es (took_well p A e B st m well) g)

pub ordered_goes : (p : Prog) (m : List ℕ) (A : ℕ → List Ev) (es : List Ev) → Well p m A → Ordered p m A es → Goes p m A es
ordered_goes p m A [] well o = none_ordered p m A o
ordered_goes p m A (e ∷ es) well o =
    let (B, st) = taken p m A e es well o in
    (B, st, gives_of p m A e es well o B st, ordered_goes p (after m e) B es (took_well p A e B st m well) (ordered_less p m A e es well o B st))
