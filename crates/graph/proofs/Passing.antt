-- The pass over the nodes: what holds when it has come to node i, and what that comes to behind the last.
use Rattle.std.proofs.Common.{◌≡◌, ℕ, suc, ◌+◌, ◌-◌, ◌<◌, ◌≤◌, ◌≢◌, List, ◌++◌, length, get_or, take, drop, set, replicate, sym, refl, ap, ◌∙◌, subst, inl, inr, arith}
use Rattle.std.proofs.lemmas.List.{get_or-set_same, get_or-set_other, get_or_append_left, get_or-replicate, length-replicate, length-append, length-take-le, drop-set-lt, drop_at, length-drop, get_or-drop, ext_get_or}
use Rattle.std.proofs.lemmas.Bool.{cases_lt}
use Rattle.graph.specs.Rules.{Ahead}
use Rattle.graph.specs.Walks.{Leads}
use Rattle.graph.specs.Search.{Marked, Came, Linked, Searched, Begun, Grown}
use Rattle.graph.proofs.Walked.{walk_stays}
use Rattle.graph.proofs.Linking.{links_of, links_walk}

-- the words of the n nodes cleared, and the start marked
pub begun : (n k : ℕ) (was part : List ℕ) → k ≡ n → 0 < n → n ≤ length was → part ≡ replicate (length (take k was)) 0 → Begun n was (set (part ++ drop k was) 0 1)
begun n k was part e some room fill =
    let is : part ≡ replicate k 0 = fill ∙ ap (λ (m : ℕ). replicate m 0) (length-take-le k was (omega arith)) in
    let long : length part ≡ n = ap length is ∙ length-replicate k 0 ∙ e in
    let all = part ++ drop k was in
    record {
      first = let h : 0 < length all = let l = length-append part (drop k was) in omega arith in let v = get_or-set_same all 0 1 0 h in omega arith;
      clear =
          λ j p h m.
          let ne : j ≢ 0 = omega arith in
          let a = get_or-set_other all 0 j 1 0 ne in
          let b = get_or_append_left part (drop k was) 0 j (omega arith) in
          let r = ap (λ (w : List ℕ). get_or w j 0) is ∙ get_or-replicate k j 0 0 (omega arith) in
          omega arith;
      behind = drop-set-lt n all 0 1 some ∙ drop_at part (drop k was) n long ∙ ap (λ (m : ℕ). drop m was) e;
    }

-- what holds when the pass has come to node i: the nodes before it are done, and the words behind the n nodes are as they were
-- when it began
pub record Passed (next : ℕ → ℕ → ℕ) (moves n i : ℕ) (was_cost was_from cost from : List ℕ) : Type 0 where
  pub first : Marked cost 0
  pub linked : Linked next moves n cost from
  pub closed : (k m j : ℕ) → k < i → m < moves → Marked cost k → next k m ≡ suc j → Marked cost j
  pub cost_behind : (k : ℕ) → n ≤ k → get_or cost k 0 ≡ get_or was_cost k 0
  pub from_behind : (k : ℕ) → n ≤ k → get_or from k 0 ≡ get_or was_from k 0

pub passed_none : (next : ℕ → ℕ → ℕ) (moves n : ℕ) (was cost from : List ℕ) → Begun n was cost → Passed next moves n 0 cost from cost from
passed_none next moves n was cost from b =
    record {
      first = b.first;
      linked = λ j h p m. absurd (b.clear j p h m);
      closed = λ k m j h. absurd (omega arith);
      cost_behind = λ k h. refl;
      from_behind = λ k h. refl;
    }

came_from : (next : ℕ → ℕ → ℕ) (moves : ℕ) (c f : List ℕ) (j x : ℕ) → get_or f j 0 ≡ x → x < j → Marked c x → Leads next moves x j → Came next moves c f j
came_from next moves c f j x e b m l =
    record {
      before = omega arith;
      marked = subst (λ (y : ℕ). Marked c y) (sym e) m;
      edge = subst (λ (y : ℕ). Leads next moves y j) (sym e) l;
    }

module _ (can : ℕ → ℕ → Type 0) (next : ℕ → ℕ → ℕ) (moves n : ℕ) (a : Ahead can next moves n) where
  leads_up : (i k : ℕ) → i < n → Leads next moves i k → i < k
  leads_up i k h l = a.up i l.0 k h l.1 l.2

  leads_within : (i k : ℕ) → i < n → Leads next moves i k → k < n
  leads_within i k h l = a.within i l.0 k h l.1 l.2

  pub passed_more : (i : ℕ) (c₀ f₀ c f c' f' : List ℕ) → i < n → Passed next moves n i c₀ f₀ c f → Grown (λ k. Marked c i × Leads next moves i k) i c f c' f' → Passed next moves n (i + 1) c₀ f₀ c' f'
  passed_more i c₀ f₀ c f c' f' h p g =
      record {
        first = g.marks 0 p.first;
        linked =
            λ j l z m. elim (g.kept j m) [
              | inl q ↦ let w = p.linked j l z q.0 in came_from next moves c' f' j (get_or f j 0) q.1 w.before (g.marks (get_or f j 0) w.marked) w.edge
              | inr q ↦ came_from next moves c' f' j i q.1 (leads_up i j h q.0.1) (g.marks i q.0.0) q.0.1
            ];
        closed =
            λ k m j l u o e.
            let was = old k l o in
            elim (cases_lt k i) [
              | inl b ↦ g.marks j (p.closed k m j b u was e)
              | inr b ↦ let z : k ≡ i = omega arith in g.hit j (subst (λ (x : ℕ). Marked c x) z was, (m, u, subst (λ (x : ℕ). next x m ≡ suc j) z e))
            ];
        cost_behind = λ k l. (apart k l).0 ∙ p.cost_behind k l;
        from_behind = λ k l. (apart k l).1 ∙ p.from_behind k l;
      }
    where
      -- no edge of node i leads back, so what is marked up to i was so before
      old : (k : ℕ) → k < i + 1 → Marked c' k → Marked c k
      old k l o = elim (g.kept k o) [ inl q ↦ q.0 | inr q ↦ absurd (let b = leads_up i k h q.0.1 in omega arith) ]

      -- and none leads behind the n nodes
      apart : (k : ℕ) → n ≤ k → (get_or c' k 0 ≡ get_or c k 0) × (get_or f' k 0 ≡ get_or f k 0)
      apart k l = g.same k (λ q. let b = leads_within i k h q.1 in omega arith)

  pub passed_all : (i : ℕ) (c₀ f₀ c f : List ℕ) → 0 < n → n ≤ length f → n ≤ i → Passed next moves n i c₀ f₀ c f → Searched next moves n c f
  passed_all i c₀ f₀ c f some room last p =
      record {
        linked = p.linked;
        reached = λ j h m. let (d, l) = links_of next moves n c f room p.linked j h m in let (ms, e, w) = links_walk next moves n c f p.linked d j h m l in (ms, w);
        all =
            λ j ms w.
            walk_stays next moves (λ k. (k < n) × Marked c k)
            (λ i m j q h e. (a.within i m j q.0 h e, let q0 = q.0 in p.closed i m j (omega arith) h q.1 e))
            ms 0 j (some, p.first) w;
      }

pub drop_behind : (n : ℕ) (was words : List ℕ) → length words ≡ length was → ((k : ℕ) → n ≤ k → get_or words k 0 ≡ get_or was k 0) → drop n words ≡ drop n was
drop_behind n was words e b =
    ext_get_or 0 (drop n words) (drop n was) (length-drop n words ∙ ap (λ (m : ℕ). m - n) e ∙ sym (length-drop n was))
    (λ k h. get_or-drop n words k 0 ∙ b (n + k) (omega arith) ∙ sym (get_or-drop n was k 0))
