-- Orders, event by event. What is still to come is a list of events for each thread, and the order takes one event
-- after the other out of these lists: the first of a thread's list, or a read that passes only writes with no fence
-- between. A read has what its thread reads just then: the newest of the writes that it passes, or else what memory
-- holds. This looks only at what is to come, so it stands between an order, which is one list, and a run of the
-- machine, whose threads hold just these events: the stores that wait, and those of the instructions to be done.
use mathlib.Core.Path.{◌≡◌, refl, sym, ◌∙◌, ap, subst}
use mathlib.Core.Logic.{◌⊎◌, inl, inr}
use mathlib.Core.Bool.{Bool, true, false}
use mathlib.Core.List.{List, [], ◌∷◌, ◌++◌}
use mathlib.Core.Option.{some}
use Prim.Native.Nat.{ℕ, ◌<◌}
use native.Mathlib.Omega.{arith}
use lib.ListN.{length}
use lib.Dec.{eqb}
use Rattle.model.specs.Code.{pick, nth, put, Thread, Prog}
use Rattle.model.specs.Machine.{Wait, at_mem, newest}
use Rattle.model.specs.Orders.{Ev, Fenced, In, first, Before}
use Rattle.model.proofs.Tools.{same_or, eqb_same, eqb_not, length_put}
use Rattle.model.proofs.Orders.Events.{in_right, in_or, before_this, this_before, kept_in, kept_before, left_in, left_before}

-- a may be passed by b: a is a write, b a read, and no fence stands between
abbrev pub Cross : Thread → Ev → Ev → Type 0
Cross t a b = (a.write ≡ true) × (b.write ≡ false) × (Fenced t a.index b.index → ⊥)

-- the event e is taken out of the lists A, and leaves B: of thread n with the code t, where e passes the older events
pub record Took (p : Prog) (A : ℕ → List Ev) (e : Ev) (B : ℕ → List Ev) : Type 0 where
  pub n : ℕ
  pub t : Thread
  pub code : nth p n ≡ some t
  pub older : List Ev
  pub newer : List Ev
  pub was : A n ≡ older ++ (e ∷ newer)
  pub is : B n ≡ older ++ newer
  pub others : (k : ℕ) → (n ≡ k → ⊥) → B k ≡ A k
  pub over : (a : Ev) → In a older → Cross t a e

-- events as stores that wait
abbrev pub wait : Ev → Wait
wait e = record { place = e.place; val = e.val }

abbrev pub waits_of : List Ev → List Wait
waits_of [] = []
waits_of (e ∷ es) = wait e ∷ waits_of es

-- e has what a thread reads whose events ws wait
abbrev pub Gives : List ℕ → List Ev → Ev → Type 0
Gives m ws e = e.val ≡ newest (waits_of ws) e.place (at_mem m e.place)

-- memory after the event
abbrev pub after : List ℕ → Ev → List ℕ
after m e = pick e.write (put m e.place e.val) m

-- the events of the lists A can be taken in this order, where memory is m
abbrev pub Goes : Prog → List ℕ → (ℕ → List Ev) → List Ev → Type 0
Goes p m A [] = (n : ℕ) → A n ≡ []
Goes p m A (e ∷ es) = (B : ℕ → List Ev) × (st : Took p A e B) × (e.write ≡ false → Gives m st.older e) × Goes p (after m e) B es

-- a function that is l at n, and else as it was
abbrev pub upd : {X : Type 0} → (ℕ → X) → ℕ → X → ℕ → X
upd A n l k = pick (eqb n k) l (A k)

pub upd_here : {X : Type 0} (A : ℕ → X) (n : ℕ) (l : X) → upd A n l n ≡ l
upd_here A n l = ap (λ (b : Bool). pick b l (A n)) (eqb_same n)

pub upd_there : {X : Type 0} (A : ℕ → X) (n : ℕ) (l : X) (k : ℕ) → (n ≡ k → ⊥) → upd A n l k ≡ A k
upd_there A n l k d = ap (λ (b : Bool). pick b l (A k)) (eqb_not n k d)

-- what the events of threads are like: each is of its thread, they are in order, their places are in memory, and
-- there are events only where there is a thread
pub record Well (p : Prog) (m : List ℕ) (A : ℕ → List Ev) : Type 0 where
  pub thread : (n : ℕ) (e : Ev) → In e (A n) → e.thread ≡ n
  pub sorted : (n : ℕ) (a b : Ev) → Before a b (A n) → a.index < b.index
  pub place : (n : ℕ) (e : Ev) → In e (A n) → e.place < length m
  pub has : (n : ℕ) (e : Ev) → In e (A n) → (t : Thread) × (nth p n ≡ some t)

length_after : (m : List ℕ) (e : Ev) → length (after m e) ≡ length m
length_after m e = go e.write
  where
    go : (b : Bool) → length (pick b (put m e.place e.val) m) ≡ length m
    go true = length_put m e.place e.val
    go false = refl

module _ (p : Prog) (A : ℕ → List Ev) (e : Ev) (B : ℕ → List Ev) (st : Took p A e B) where
  -- what was taken stood there
  pub took_this : In e (A st.n)
  took_this = subst (λ (z : List Ev). In e z) (sym st.was) (in_right st.older first)

  -- what is left stood there, in the same order
  pub took_in : (k : ℕ) {x : Ev} → In x (B k) → In x (A k)
  took_in k {x} i = elim (same_or st.n k) [
    | inl q ↦ subst (λ (z : ℕ). In x (A z)) q (subst (λ (z : List Ev). In x z) (sym st.was) (kept_in e st.older st.newer (subst (λ (z : List Ev). In x z) st.is (subst (λ (z : ℕ). In x (B z)) (sym q) i))))
    | inr d ↦ subst (λ (z : List Ev). In x z) (st.others k d) i
  ]

  pub took_before : (k : ℕ) {x y : Ev} → Before x y (B k) → Before x y (A k)
  took_before k {x} {y} i = elim (same_or st.n k) [
    | inl q ↦ subst (λ (z : ℕ). Before x y (A z)) q (subst (λ (z : List Ev). Before x y z) (sym st.was) (kept_before e st.older st.newer (subst (λ (z : List Ev). Before x y z) st.is (subst (λ (z : ℕ). Before x y (B z)) (sym q) i))))
    | inr d ↦ subst (λ (z : List Ev). Before x y z) (st.others k d) i
  ]

  -- what stood there was taken or is left
  pub took_or : (k : ℕ) {x : Ev} → In x (A k) → (x ≡ e) ⊎ In x (B k)
  took_or k {x} i = elim (same_or st.n k) [
    | inl q ↦ elim (left_in e st.older st.newer (subst (λ (z : List Ev). In x z) st.was (subst (λ (z : ℕ). In x (A z)) (sym q) i))) [
      | inl h ↦ inl h
      | inr h ↦ inr (subst (λ (z : ℕ). In x (B z)) q (subst (λ (z : List Ev). In x z) (sym st.is) h))
    ]
    | inr d ↦ inr (subst (λ (z : List Ev). In x z) (sym (st.others k d)) i)
  ]

  pub took_before_or : (k : ℕ) {x y : Ev} → Before x y (A k) → (((st.n ≡ k) × In x st.older × (y ≡ e)) ⊎ ((x ≡ e) × In y (B k))) ⊎ Before x y (B k)
  took_before_or k {x} {y} i = elim (same_or st.n k) [
    | inl q ↦ elim (left_before e st.older st.newer (subst (λ (z : List Ev). Before x y z) st.was (subst (λ (z : ℕ). Before x y (A z)) (sym q) i))) [
      | inl (inl (j, h)) ↦ inl (inl (q, j, h))
      | inl (inr (h, j)) ↦ inl (inr (h, subst (λ (z : ℕ). In y (B z)) q (subst (λ (z : List Ev). In y z) (sym st.is) (in_right st.older j))))
      | inr j ↦ inr (subst (λ (z : ℕ). Before x y (B z)) q (subst (λ (z : List Ev). Before x y z) (sym st.is) j))
    ]
    | inr d ↦ inr (subst (λ (z : List Ev). Before x y z) (sym (st.others k d)) i)
  ]

  pub took_well : (m : List ℕ) → Well p m A → Well p (after m e) B
  took_well m w = record {
    thread = λ n x i. w.thread n x (took_in n i);
    sorted = λ n x y i. w.sorted n x y (took_before n i);
    place = λ n x i. subst (λ (z : ℕ). x.place < z) (sym (length_after m e)) (w.place n x (took_in n i));
    has = λ n x i. w.has n x (took_in n i);
  }

  -- no event that is left is the same instruction
  pub took_apart : (m : List ℕ) → Well p m A → (k : ℕ) {x : Ev} → In x (B k) → e.thread ≡ x.thread → e.index ≡ x.index → ⊥
  took_apart m w k {x} i same-t same_i =
      let tx = w.thread k x (took_in k i) in
      let te = w.thread st.n e took_this in
      let q : k ≡ st.n = sym tx ∙ (sym same-t ∙ te) in
      let j = subst (λ (z : List Ev). In x z) st.is (subst (λ (z : ℕ). In x (B z)) q i) in
      elim (in_or st.older st.newer j) [
        | inl h ↦ let lt = w.sorted st.n x e (subst (λ (z : List Ev). Before x e z) (sym st.was) (before_this e st.newer h)) in omega arith
        | inr h ↦ let lt = w.sorted st.n e x (subst (λ (z : List Ev). Before e x z) (sym st.was) (this_before e st.older h)) in omega arith
      ]
