-- Joined kept edges are steps at once, between states that are come to at once. So walks along them are runs at once.
use Rattle.std.proofs.Common.{◌≡◌, ℕ, zero, suc, ◌+◌, ◌-◌, ◌*◌, ◌<◌, ◌≤◌, List, [], ◌∷◌, length, sym, refl, ap, ◌∙◌, subst, inl, inr, arith}
use mathlib.Core.Option.{some, none}
use Rattle.model.specs.Code.{Prog}
use Rattle.model.specs.Machine.{St, Move, next, out, move, at_once, all_at_once}
use Rattle.model.proofs.Tools.{none_some, some_is, opt_some, opt_is, once_of, nth_below}
use Rattle.graph.specs.Rules.{kept, Keeps, later, onward, joined, Joins, Ahead}
use Rattle.graph.specs.Walks.{Walk}
use Rattle.graph.specs.Search.{Marked, Searched}
use Rattle.graph.proofs.Asked.{kept_ahead, joined_ahead}
use Rattle.explore.specs.Found.{moves_of, move_of, state, Edge, Explored}
use Rattle.explore.proofs.MoveNumbers.{move_next, move_out}
use Rattle.once.specs.Once.{MarksOnce}
use Rattle.once.proofs.Calm.{Calm, calm_begin, GoesOn, once_goes_on, once_stuck}

-- the edges of all moves lead ahead, and joined ones too
pub once_ahead : (p : Prog) (q g : List ℕ) (n : ℕ) → Explored p q g n → n * moves_of (length p) ≤ length g → length p ≤ 4 → Ahead (Joins (Keeps g (moves_of (length p))) (kept g (moves_of (length p))) (length p)) (joined (kept g (moves_of (length p))) (length p)) (length p) n
once_ahead p q g n x held few =
    let all = moves_of (length p) in
    let within : (i m j : ℕ) → i < n → m < all → kept g all i m ≡ suc j → (i < j) × (j < n) = λ i m j h l e. (x.ahead i m j h l e, (subst (Edge p q n i m) e (x.edges i m h l)).0) in
    joined_ahead (Keeps g all) (kept g all) all (length p) (length p) n (omega arith) (kept_ahead g all all n (omega arith) (omega arith) within) (omega arith)

module _ (p : Prog) (q g : List ℕ) (n : ℕ) (x : Explored p q g n) where
  abbrev st : ℕ → St
  st i = state (length p) q i

  -- where all moves lead, and where steps at once do
  abbrev edge : ℕ → ℕ → ℕ
  edge = kept g (moves_of (length p))

  abbrev step : ℕ → ℕ → ℕ
  step = joined edge (length p)

  -- what an edge's word says of a move
  abbrev By : ℕ → Move → ℕ → Type 0
  By i m zero = move p (st i) m ≡ none
  By i m (suc j) = (j < n) × (move p (st i) m ≡ some (st j))

  by_move : (i m k : ℕ) (a : Move) → move_of (length p) m ≡ a → Edge p q n i m k → By i a k
  by_move i m zero a e h = ap (move p (st i)) (sym e) ∙ h
  by_move i m (suc j) a e h = (h.0, ap (move p (st i)) (sym e) ∙ h.1)

  by_next : (i m k : ℕ) → i < n → m < length p → edge i m ≡ k → By i (next m) k
  by_next i m k h l e = by_move i m k (next m) (move_next (length p) m l) (subst (Edge p q n i m) e (x.edges i m h (omega arith)))

  by_out : (i m k : ℕ) → i < n → m < length p → edge i (m + length p) ≡ k → By i (out m) k
  by_out i m k h l e =
      let back : m + length p - length p ≡ m = omega arith in
      by_move i (m + length p) k (out m) (move_out (length p) (m + length p) (omega arith) ∙ ap out back) (subst (Edge p q n i (m + length p)) e (x.edges i (m + length p) h (omega arith)))

  -- what a joined edge says of a step at once
  abbrev ByOnce : ℕ → ℕ → ℕ → Type 0
  ByOnce i m zero = at_once p (st i) m ≡ none
  ByOnce i m (suc j) = (j < n) × (at_once p (st i) m ≡ some (st j)) × Calm (st j)

  step_on : (i m j k : ℕ) → j < n → GoesOn p (st i) m (st j) → By j (out m) k → ByOnce i m (later (suc j) k)
  step_on i m j zero h (inl g) b = absurd (none_some (sym b ∙ g.1))
  step_on i m j zero h (inr g) b = (h, g.1, g.2)
  step_on i m j (suc k) h (inl g) b =
      let same : g.0 ≡ st k = some_is (sym g.1 ∙ b.1) in
      (b.0, g.2 ∙ ap some same, subst Calm same g.3)
  step_on i m j (suc k) h (inr g) b = absurd (none_some (sym g.0 ∙ b.1))

  step_from : (i m k : ℕ) → m < length p → Calm (st i) → By i (next m) k → ByOnce i m (onward (λ j. edge j (m + length p)) k)
  step_from i m zero l c b = once_stuck p (st i) m b
  step_from i m (suc j) l c b = step_on i m j (edge j (m + length p)) b.0 (once_goes_on p (st i) (st j) m c b.1) (by_out j m (edge j (m + length p)) b.0 l refl)

  step_is : (i m k : ℕ) → i < n → m < length p → Calm (st i) → step i m ≡ k → ByOnce i m k
  step_is i m k h l c e = subst (ByOnce i m) e (step_from i m (edge i m) l c (by_next i m (edge i m) h l refl))

  -- a step at once goes along a joined edge
  pub record Stepped (i m : ℕ) (t : St) : Type 0 where
    pub below : m < length p
    pub to : ℕ
    pub along : step i m ≡ suc to
    pub within : to < n
    pub is : st to ≡ t
    pub calm : Calm (st to)

  step_to : (i m k : ℕ) (t : St) → m < length p → step i m ≡ k → ByOnce i m k → at_once p (st i) m ≡ some t → Stepped i m t
  step_to i m zero t l e b f = absurd (none_some (sym b ∙ f))
  step_to i m (suc j) t l e b f = record { below = l; to = j; along = e; within = b.0; is = some_is (sym b.1 ∙ f); calm = b.2 }

  stepped : (i m : ℕ) (t : St) → i < n → Calm (st i) → at_once p (st i) m ≡ some t → Stepped i m t
  stepped i m t h c f =
      let l = nth_below p m (once_of p (st i) m t f).first.of in
      step_to i m (step i m) t l refl (step_is i m (step i m) h l c refl) f

  walk_run : (ms : List ℕ) (i j : ℕ) → i < n → Calm (st i) → Walk step (length p) i ms j → all_at_once p (st i) ms ≡ some (st j)
  walk_run [] i j h c w = ap (λ k. some (st k)) w
  walk_run (m ∷ ms) i j h c w =
      let b = step_is i m (suc w.0) h w.1 c w.2 in
      opt_is (at_once p (st i) m) none _ b.1 ∙ walk_run ms w.0 j b.0 b.2 w.3

  run_walk : (ns : List ℕ) (i : ℕ) (s : St) → i < n → Calm (st i) → all_at_once p (st i) ns ≡ some s → (j : ℕ) × (j < n) × (st j ≡ s) × Walk step (length p) i ns j
  run_walk [] i s h c e = (i, h, some_is e, refl)
  run_walk (m ∷ ns) i s h c e =
      let (t, et, f) = opt_some (at_once p (st i) m) _ e in
      let d = stepped i m t h c et in
      let (j, hj, ej, w) = run_walk ns d.to s d.within d.calm (ap (λ (z : St). all_at_once p z ns) d.is ∙ f) in
      (j, hj, ej, (d.to, d.below, d.along, w))

  pub marks_once : (cost from : List ℕ) → Searched step (length p) n cost from → MarksOnce p q n cost
  marks_once cost from s i h =
      let f = x.found in
      let c : Calm (st 0) = subst Calm (sym f.first) (calm_begin p) in (
        (λ mk.
            let (ms, w) = s.reached i h mk in
            (ms, ap (λ (z : St). all_at_once p z ms) (sym f.first) ∙ walk_run ms 0 i f.some_found c w)),
        (λ r.
            let (j, hj, ej, w) = run_walk r.0 0 (st i) f.some_found c (ap (λ (z : St). all_at_once p z r.0) f.first ∙ r.1) in
            subst (Marked cost) (f.apart j i hj h ej) (s.all j r.0 w).1),
      )
