-- Reading a walk back: counting the links, and writing a move for each.
use Rattle.std.proofs.Common.{◌≡◌, ℕ, zero, suc, ◌+◌, ◌<◌, ◌≤◌, List, [], ◌∷◌, ◌++◌, length, get_or, take, drop, set, sym, refl, ap, ◌∙◌, subst, arith}
use Rattle.std.proofs.lemmas.List.{drop-set, take_at, drop_at}
use Rattle.graph.specs.Walks.{Leads, Walk}
use Rattle.graph.specs.Search.{Came, Links}
use Rattle.graph.specs.Back.{Traced, Written, TooLong}
use Rattle.graph.proofs.Linking.{links_of, links_walk}

-- len links from 'to' back lies the node
pub record Counted (from : List ℕ) (to len node : ℕ) : Type 0 where
  pub left : (d : ℕ) × Links from d node
  pub done : (d : ℕ) → Links from d node → Links from (d + len) to
  pub few : len + node ≤ to

module _ (from : List ℕ) (to : ℕ) where
  pub counted_none : (d : ℕ) × Links from d to → Counted from to 0 to
  counted_none left = record { left = left; done = λ d l. subst (λ (e : ℕ). Links from e to) (omega arith) l; few = omega arith }

  link_down : (d node : ℕ) → 0 < node → Links from d node → get_or from node 0 < node
  link_down zero node p l = absurd (omega arith)
  link_down (suc d) node p l = l.0

  link_room : (d node : ℕ) → 0 < node → Links from d node → node < length from
  link_room zero node p l = absurd (omega arith)
  link_room (suc d) node p l = l.1

  link_rest : (d node : ℕ) → 0 < node → Links from d node → (e : ℕ) × Links from e (get_or from node 0)
  link_rest zero node p l = absurd (omega arith)
  link_rest (suc d) node p l = (d, l.2)

  pub counted_down : (len node : ℕ) → 0 < node → Counted from to len node → get_or from node 0 < node
  counted_down len node p c = link_down c.left.0 node p c.left.1

  pub counted_room : (len node : ℕ) → 0 < node → Counted from to len node → node < length from
  counted_room len node p c = link_room c.left.0 node p c.left.1

  pub counted_more : (len node : ℕ) → 0 < node → Counted from to len node → Counted from to (len + 1) (get_or from node 0)
  counted_more len node p c =
      let down = counted_down len node p c in
      let few = c.few in
      record {
        left = link_rest c.left.0 node p c.left.1;
        done = λ d l. subst (λ (e : ℕ). Links from e to) (omega arith) (c.done (suc d) (down, counted_room len node p c, l));
        few = omega arith;
      }

  pub counted_all : (len node : ℕ) → node ≡ 0 → Counted from to len node → Links from len to
  counted_all len node z c = subst (λ (e : ℕ). Links from e to) (omega arith) (c.done 0 z)

module _ (can : ℕ → ℕ → Type 0) (next : ℕ → ℕ → ℕ) (moves : ℕ) (from : List ℕ) where
  pub traced_links : (to : ℕ) → Traced can next moves from to → (d : ℕ) × Links from d to
  traced_links to t = links_of next moves t.n t.cost from t.room t.linked to t.within t.marked

  pub traced_long : (to len : ℕ) (was : List ℕ) → Traced can next moves from to → Links from len to → length was < len → TooLong next moves to was was
  traced_long to len was t l h =
      let (ms, long, w) = links_walk next moves t.n t.cost from t.linked len to t.within t.marked l in
      record { walk = (ms, omega arith, w); same = refl }

  traced_came : (node : ℕ) → 0 < node → (t : Traced can next moves from node) → Came next moves t.cost from node
  traced_came node p t = t.linked node t.within p t.marked

  pub traced_leads : (node : ℕ) → 0 < node → Traced can next moves from node → Leads next moves (get_or from node 0) node
  traced_leads node p t = (traced_came node p t).edge

  pub traced_more : (node : ℕ) → 0 < node → Traced can next moves from node → Traced can next moves from (get_or from node 0)
  traced_more node p t =
      let w = traced_came node p t in
      let b = w.before in
      let h = t.within in
      record { n = t.n; cost = t.cost; may = t.may; linked = t.linked; room = t.room; within = omega arith; marked = w.marked }

  pub traced_may : (node : ℕ) → 0 < node → Traced can next moves from node → (m : ℕ) → m < moves → can (get_or from node 0) m
  traced_may node p t m h = let b = traced_more node p t in b.may (get_or from node 0) m b.within h

  -- the moves from the node on are written
  pub record Filled (to len : ℕ) (was : List ℕ) (at node : ℕ) (path : List ℕ) : Type 0 where
    pub traced : Traced can next moves from node
    pub links : Links from at node
    pub ms : List ℕ
    pub walk : Walk next moves node ms to
    pub is : drop at path ≡ ms ++ drop len was
    pub long : at + length ms ≡ len

  pub filled_none : (to len : ℕ) (was : List ℕ) → Traced can next moves from to → Links from len to → Filled to len was len to was
  filled_none to len was t l = record { traced = t; links = l; ms = []; walk = refl; is = refl; long = omega arith }

  pub filled_some : (to len : ℕ) (was : List ℕ) (at node : ℕ) (path : List ℕ) → 0 < at → Filled to len was at node path → 0 < node
  filled_some to len was zero node path p f = absurd (omega arith)
  filled_some to len was (suc at) node path p f = let d = f.links.0 in omega arith

  pub filled_more : (to len : ℕ) (was : List ℕ) (after at node : ℕ) (path : List ℕ) (m : ℕ) → after ≡ suc at → at < length path → m < moves → next (get_or from node 0) m ≡ suc node → Filled to len was after node path → Filled to len was at (get_or from node 0) (set path at m)
  filled_more to len was after at node path m z h u e g =
      let f = subst (λ (k : ℕ). Filled to len was k node path) z g in
      let p = filled_some to len was (suc at) node path (omega arith) f in
      let long = f.long in
      let one : at + 1 ≡ suc at = omega arith in
      record {
        traced = traced_more node p f.traced;
        links = f.links.2;
        ms = m ∷ f.ms;
        walk = (node, u, e, f.walk);
        is = drop-set path at m h ∙ ap (λ (k : ℕ). m ∷ drop k path) one ∙ ap (λ (w : List ℕ). m ∷ w) f.is;
        long = omega arith;
      }

  pub filled_all : (to len : ℕ) (was : List ℕ) (at node : ℕ) (path : List ℕ) → at ≡ 0 → len ≤ length path → Filled to len was at node path → Written next moves to len was path
  filled_all to len was zero node path z h f =
      let long : length f.ms ≡ len = let l = f.long in omega arith in
      let w : Walk next moves 0 f.ms to = subst (λ (k : ℕ). Walk next moves k f.ms to) f.links f.walk in
      record {
        fits = h;
        walk = subst (λ (k : List ℕ). Walk next moves 0 k to) (sym (ap (take len) f.is ∙ take_at f.ms (drop len was) len long)) w;
        behind = ap (drop len) f.is ∙ drop_at f.ms (drop len was) len long;
      }
  filled_all to len was (suc at) node path z h f = absurd (omega arith)
