-- Going along edges of one node, one after the other.
use Rattle.std.proofs.Common.{◌≡◌, ℕ, suc, ◌+◌, ◌<◌, ◌≤◌, ◌⊎◌, List, length, sym, refl, ap, ◌∙◌, inl, inr, arith}
use Rattle.std.proofs.lemmas.Bool.{cases_lt}
use Rattle.graph.specs.Rules.{Ahead}
use Rattle.graph.specs.Walks.{Leads}
use Rattle.graph.specs.Search.{Marked, Steps, Grown}

-- no edge
pub grown_none : (edge : ℕ → Type 0) (i : ℕ) (c f : List ℕ) → ((k : ℕ) → edge k → ⊥) → Grown edge i c f c f
grown_none edge i c f never =
    record { marks = λ k h. h; hit = λ k e. absurd (never k e); kept = λ k h. inl (h, refl); same = λ k n. (refl, refl) }

-- some edges, and then others
pub grown_then : (one two both : ℕ → Type 0) (i : ℕ) (c f c' f' c'' f'' : List ℕ) → ((k : ℕ) → one k → both k) → ((k : ℕ) → two k → both k) → ((k : ℕ) → both k → one k ⊎ two k) → Grown one i c f c' f' → Grown two i c' f' c'' f'' → Grown both i c f c'' f''
grown_then one two both i c f c' f' c'' f'' l r split g h =
    record {
      marks = λ k m. h.marks k (g.marks k m);
      hit = λ k e. elim (split k e) [ inl a ↦ h.marks k (g.hit k a) | inr b ↦ h.hit k b ];
      kept =
          λ k m. elim (h.kept k m) [
            | inl p ↦ elim (g.kept k p.0) [ inl q ↦ inl (q.0, p.1 ∙ q.1) | inr q ↦ inr (l k q.0, p.1 ∙ q.1) ]
            | inr p ↦ inr (r k p.0, p.1)
          ];
      same =
          λ k not.
          let a = g.same k (λ e. not (l k e)) in
          let b = h.same k (λ e. not (r k e)) in
          (b.0 ∙ a.0, b.1 ∙ a.1);
    }

-- the last move, if an edge is none of the moves before it
last : (next : ℕ → ℕ → ℕ) (m i k : ℕ) (e : Leads next (m + 1) i k) → m ≤ e.0 → next i m ≡ suc k
last next m i k e l = let z : m ≡ e.0 = let h = e.1 in omega arith in ap (next i) z ∙ e.2

-- the edges of the moves below m, and then that of m, which leads to t
pub leads_more : (next : ℕ → ℕ → ℕ) (m i : ℕ) (c f c' f' c'' f'' : List ℕ) (t : ℕ) → suc t ≡ next i m → Grown (Leads next m i) i c f c' f' → Grown (λ k. t ≡ k) i c' f' c'' f'' → Grown (Leads next (m + 1) i) i c f c'' f''
leads_more next m i c f c' f' c'' f'' t is g h =
    grown_then (Leads next m i) (λ k. t ≡ k) (Leads next (m + 1) i) i c f c' f' c'' f''
    (λ k e. (e.0, let l = e.1 in omega arith, e.2))
    (λ k e. (m, omega arith, sym is ∙ ap suc e))
    (λ k e. elim (cases_lt e.0 m) [ inl l ↦ inl (e.0, l, e.2) | inr l ↦ inr (let q = last next m i k e l in omega arith) ])
    g h

-- the edges of the moves below m, where m has none
pub leads_same : (next : ℕ → ℕ → ℕ) (m i : ℕ) (c f c' f' : List ℕ) → 0 ≡ next i m → Grown (Leads next m i) i c f c' f' → Grown (Leads next (m + 1) i) i c f c' f'
leads_same next m i c f c' f' is g =
    record {
      marks = g.marks;
      hit = λ k e. elim (cases_lt e.0 m) [ inl l ↦ g.hit k (e.0, l, e.2) | inr l ↦ absurd (let q = last next m i k e l in omega arith) ];
      kept = λ k h. elim (g.kept k h) [ inl a ↦ inl a | inr a ↦ inr ((a.0.0, let l = a.0.1 in omega arith, a.0.2), a.1) ];
      same = λ k not. g.same k (λ l. not (l.0, let h = l.1 in omega arith, l.2));
    }

-- one node of n
pub steps_of : (can : ℕ → ℕ → Type 0) (next : ℕ → ℕ → ℕ) (moves n i : ℕ) (c f : List ℕ) → Ahead can next moves n → i < n → n ≤ length c → n ≤ length f → Steps (can i) (next i) moves i c f
steps_of can next moves n i c f a h p q =
    record {
      may = λ m l. a.may i m h l;
      up = λ m j l e. a.up i m j h l e;
      in_cost = λ m j l e. let w = a.within i m j h l e in omega arith;
      in_from = λ m j l e. let w = a.within i m j h l e in omega arith;
    }

-- all moves of a node that was come to
pub leads_all : (next : ℕ → ℕ → ℕ) (moves m i : ℕ) (c f c' f' : List ℕ) → m ≡ moves → Marked c i → Grown (Leads next m i) i c f c' f' → Grown (λ k. Marked c i × Leads next moves i k) i c f c' f'
leads_all next moves m i c f c' f' e p g =
    record {
      marks = g.marks;
      hit = λ k l. g.hit k (rw e l.1);
      kept = λ k h. elim (g.kept k h) [ inl a ↦ inl a | inr a ↦ inr ((p, rw e at a.0), a.1) ];
      same = λ k not. g.same k (λ l. not (p, rw e at l));
    }
