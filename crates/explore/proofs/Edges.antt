-- One edge more: its word written, and all that is known of the states and the earlier edges kept.
use Rattle.std.proofs.Common.{◌≡◌, ℕ, suc, ◌+◌, ◌*◌, ◌/◌, ◌%◌, ◌<◌, ◌≤◌, true, false, List, [], ◌∷◌, ◌++◌, length, get_or, take, set, Some, sym, ap, ◌∙◌, subst, inl, inr, mul-le-mul_right, add-one, arith, length-append}
use mathlib.Core.Option.{some}
use Rattle.std.proofs.lemmas.Bool.{cases_lt, cases_eq}
use Rattle.std.proofs.lemmas.List.{get_or-set_same, get_or-set_other}
use Rattle.std.proofs.lemmas.Nat.{div-mul-add, mod-mul-add}
use Rattle.lent.specs.declared.shape.Shape.{Shape}
use Rattle.lent.specs.Records.{rec}
use Rattle.lent.proofs.RecordLaws.{ends_within, length_rec, rec_kept}
use Rattle.model.specs.Code.{Prog}
use Rattle.model.specs.Machine.{St, Move, move, moves, begin}
use Rattle.model.proofs.Levels.{run_threads, run_more}
use Rattle.machine.specs.Packed.{Packs}
use Rattle.machine.specs.Post.{Holds, Stepped}
use Rattle.explore.specs.Found.{width, moves_of, move_of, state, Edge, Found, Sorted, Near, Crowded}
use Rattle.explore.specs.Post.{Entered, Refused, Going, Visited}
use Rattle.explore.proofs.Finding.{Kept, state_kept, state_is, found_kept, sorted_kept, near_kept, edge_kept, found_more, sorted_more, near_more, crowded}

-- where a state's words and an edge's word stand
pub words_within : (i n limit w len : ℕ) → i < n → n ≤ limit → limit * w ≤ len → i * w + w ≤ len
words_within i n limit w len h k l = let a = ends_within w n i h in let b = mul-le-mul_right w k in omega arith

pub word_within : (i n limit w m len : ℕ) → i < n → n ≤ limit → m < w → limit * w ≤ len → i * w + m < len
word_within i n limit w m len h k b l = let a = words_within i n limit w len h k l in omega arith

-- the record of the state whose turn it is
pub record_state : (p : Prog) (s : Shape) (limit : ℕ) (q t g : List ℕ) (n i m : ℕ) (ws : List ℕ) → Going p s limit q t g n i m → ws ≡ rec q s.width i → ws ≡ rec q (width (length p)) i
record_state p s limit q t g n i m ws go e = e ∙ ap (λ z. rec q z i) go.wide

pub record_length : (p : Prog) (s : Shape) (limit : ℕ) (q t g : List ℕ) (n i m : ℕ) (ws : List ℕ) → Going p s limit q t g n i m → ws ≡ rec q s.width i → limit * s.width ≤ length q → length ws ≡ width (length p)
record_length p s limit q t g n i m ws go e h =
    ap length e ∙ length_rec q s.width i (words_within i n limit s.width (length q) go.here go.few h) ∙ go.wide

-- each edge has a place of its own
pub same_edge : (i j m l w : ℕ) → m < w → l < w → i * w + m ≡ j * w + l → (i ≡ j) × (m ≡ l)
same_edge i j m l w h k e = (
  sym (div-mul-add i w m h) ∙ ap (λ x. x / w) e ∙ div-mul-add j w l k,
  sym (mod-mul-add i w m h) ∙ ap (λ x. x % w) e ∙ mod-mul-add j w l k,
)

pub earlier_node : (k l i m w : ℕ) → m < w → k * w + l < i * w + m → k ≤ i
earlier_node k l i m w h b =
    elim (cases_lt i k) [ inl g ↦ let a = mul-le-mul_right w g in let e = suc_times i w in absurd (omega arith) | inr g ↦ g ]
  where
    suc_times : (i w : ℕ) → suc i * w ≡ i * w + w
    suc_times i w = omega arith

-- a state found is a state of the program
pub holds : (p : Prog) (q : List ℕ) (n i : ℕ) → Found p q n → i < n → Holds p (rec q (width (length p)) i)
holds p q n i f h = let (ms, r) = f.come i h in (state (length p) q i, f.good i h, run_threads p ms (state (length p) q i) r)

-- the edges up to and with one more, where the earlier ones are known over the new words
edges_more : (p : Prog) (q g : List ℕ) (n i m x : ℕ) → m < moves_of (length p) → i * moves_of (length p) + m < length g → Edge p q n i m x → ((k l : ℕ) → l < moves_of (length p) → k * moves_of (length p) + l < i * moves_of (length p) + m → Edge p q n k l (get_or g (k * moves_of (length p) + l) 0)) → (k l : ℕ) → l < moves_of (length p) → k * moves_of (length p) + l < i * moves_of (length p) + (m + 1) → Edge p q n k l (get_or (set g (i * moves_of (length p) + m) x) (k * moves_of (length p) + l) 0)
edges_more p q g n i m x hm hg e old k l hl b =
    let w = moves_of (length p) in
    let at = i * w + m in
    elim (cases_eq (k * w + l) at) [
      | inl s ↦
          let (ek, el) = same_edge k i l m w hl hm s in
          let v : get_or (set g at x) (k * w + l) 0 ≡ x = ap (λ z. get_or (set g at x) z 0) s ∙ get_or-set_same g at x 0 hg in
          subst (λ z. Edge p q n k l z) (sym v) (subst (λ z. Edge p q n z l x) (sym ek) (subst (λ z. Edge p q n i z x) (sym el) e))
      | inr ne ↦
          let v : get_or (set g at x) (k * w + l) 0 ≡ get_or g (k * w + l) 0 = get_or-set_other g at (k * w + l) x 0 ne in
          subst (λ z. Edge p q n k l z) (sym v) (old k l hl (omega arith))
    ]

module _ (p : Prog) (s : Shape) (limit : ℕ) (q t g : List ℕ) (n i m : ℕ) (go : Going p s limit q t g n i m) (hm : m < moves_of (length p)) (hg : i * moves_of (length p) + m < length g) where
  -- a move that can't be made
  pub no_edge : (ws : List ℕ) → Stepped (λ s. move p s (move_of (length p) m)) (rec q (width (length p)) i) false ws → Visited p s limit n i m q t (set g (i * moves_of (length p) + m) 0) n (Some tt)
  no_edge ws st =
      let f = go.found in (
        record {
          found = f;
          sorted = go.sorted;
          near = go.near;
          probed = go.probed;
          wide = go.wide;
          few = go.few;
          here = go.here;
          edges = edges_more p q g n i m 0 hm hg (st (state (length p) q i) (f.good i go.here)) go.edges;
        },
        omega arith,
      )

  -- the state that a move leads to, and a run to it
  led : (key : List ℕ) → Stepped (λ s. move p s (move_of (length p) m)) (rec q (width (length p)) i) true key → (u : St) × (ms : List Move) × (move p (state (length p) q i) (move_of (length p) m) ≡ some u) × Packs key u × (moves p (begin p) ms ≡ some (state (length p) q i)) × (moves p (begin p) (ms ++ move_of (length p) m ∷ []) ≡ some u)
  led key st =
      let f = go.found in
      let (ms, r) = f.come i go.here in
      let (u, e, k, l) = st (state (length p) q i) (f.good i go.here) in
      (u, ms, e, k, r, run_more p ms (state (length p) q i) u (move_of (length p) m) r e)

  -- a move to one state too many
  pub no_room : (key : List ℕ) → Stepped (λ s. move p s (move_of (length p) m)) (rec q (width (length p)) i) true key → Refused s limit q n key → Crowded p limit
  no_room key st r =
      let (u, ms, e, k, a, b) = led key st in
      let c = crowded p q n key u (ms ++ move_of (length p) m ∷ []) go.found k b (λ j h z. r.new j h (ap (λ w. rec q w j) go.wide ∙ z)) in
      subst (Crowded p) r.full c

  -- a move to a state that is found, now or before
  pub an_edge : (key q' t' : List ℕ) (j n' : ℕ) → Stepped (λ s. move p s (move_of (length p) m)) (rec q (width (length p)) i) true key → Entered s limit q t n key q' t' j n' → Visited p s limit n i m q' t' (set g (i * moves_of (length p) + m) (j + 1)) n' (Some tt)
  an_edge key q' t' j n' st r =
      let (u, ms, e, k, a, b) = led key st in
      let w = width (length p) in
      let ns = ms ++ move_of (length p) m ∷ [] in
      let ln : length ns ≡ suc (length ms) = let z = length-append ms (move_of (length p) m ∷ []) in omega arith in
      let kept : Kept (length p) q q' n = ap (λ (z : ℕ). take (n * z) q') (sym go.wide) ∙ r.kept ∙ ap (λ (z : ℕ). take (n * z) q) go.wide in
      let here : rec q' w j ≡ key = ap (λ z. rec q' z j) (sym go.wide) ∙ r.here in
      let hi = go.here in
      let si = state_kept (length p) q q' n i kept hi in
      let f = found_kept p q q' n kept go.found in
      let so = sorted_kept p q q' n kept go.sorted in
      let ne = near_kept p q q' n i kept hi go.near in
      let ri : moves p (begin p) ms ≡ some (state (length p) q' i) = a ∙ ap some (sym si) in
      let sj : state (length p) q' j ≡ u = state_is q' key j (length p) u here k (run_threads p ns u b) in
      let ed : Edge p q' n' i m (suc j) = (r.below, ap (λ z. move p z (move_of (length p) m)) si ∙ e ∙ ap some (sym sj)) in
      let w' = moves_of (length p) in
      let old : (x l : ℕ) → l < w' → x * w' + l < i * w' + m → Edge p q' n' x l (get_or g (x * w' + l) 0) = λ x l hl z.
      let hx : x < n = let y = earlier_node x l i m w' hm z in omega arith in
      edge_kept p q q' n n' x l (get_or g (x * w' + l) 0) kept hx r.grown (go.edges x l hl z) in
      let edges : (x l : ℕ) → l < w' → x * w' + l < i * w' + (m + 1) → Edge p q' n' x l (get_or (set g (i * w' + m) (j + 1)) (x * w' + l) 0) =
      subst (λ y. (x l : ℕ) → l < w' → x * w' + l < i * w' + (m + 1) → Edge p q' n' x l (get_or (set g (i * w' + m) y) (x * w' + l) 0)) (sym (add-one j)) (edges_more p q' g n' i m (suc j) hm hg ed old) in
      let grown = r.grown in
      let by_one = r.by_one in
      elim (cases_lt n n') [
        | inl lt ↦
            let ez : n' ≡ n + 1 = omega arith in
            let last : rec q' w n ≡ key = ap (rec q' w) (sym (r.last lt)) ∙ here in
            let new : (x : ℕ) → x < n → rec q' w x ≡ key → ⊥ = λ x h z. r.new x h lt (ap (λ y. rec q y x) go.wide ∙ sym (rec_kept q q' w n x kept h) ∙ z) in (
              record {
                found = subst (Found p q') (sym ez) (found_more p q' n key u ns f last k b new);
                sorted = subst (Sorted p q') (sym ez) (sorted_more p q' n key u ns f last k b i ms hi ri ln so ne);
                near = subst (λ z. Near p q' z i) (sym ez) (near_more p q' n key u ns f last k b i ms ri ln ne);
                probed = r.probed;
                wide = go.wide;
                few = r.few;
                here = omega arith;
                edges = edges;
              },
              by_one,
            )
        | inr ge ↦
            let ez : n' ≡ n = omega arith in (
              record {
                found = subst (Found p q') (sym ez) f;
                sorted = subst (Sorted p q') (sym ez) so;
                near = subst (λ z. Near p q' z i) (sym ez) ne;
                probed = r.probed;
                wide = go.wide;
                few = r.few;
                here = omega arith;
                edges = edges;
              },
              by_one,
            )
      ]
