-- Going along a path: what is passed so far, and what the rest of the path passes, is what all of it passes.
use Rattle.std.proofs.Common.{◌≡◌, ℕ, suc, ◌+◌, ◌*◌, ◌^◌, ◌<◌, ◌≤◌, List, [], ◌∷◌, ◌++◌, map, length, get_or, drop, sym, ap, ◌∙◌, subst, add-one, arith, drop_of_length-le, drop-cons}
use mathlib.Core.Option.{some}
use lib.Bits.{bit_or, or_lt, or_zero_l, or_zero_r}
use Rattle.model.specs.Code.{Prog}
use Rattle.model.specs.Fences.{Spot}
use Rattle.model.specs.Machine.{St, Move, move, begin}
use Rattle.model.specs.Guards.{hit, hits}
use Rattle.model.proofs.Tools.{opt_is}
use Rattle.graph.specs.Rules.{kept}
use Rattle.graph.specs.Walks.{Walk}
use Rattle.explore.specs.Found.{width, moves_of, move_of, state, Explored}
use Rattle.guard.specs.Masks.{mask}
use Rattle.guard.specs.Rules.{hit_bits, AllHits}
use Rattle.guard.proofs.MaskLaws.{mask_below, or_append}
use Rattle.guard.proofs.GuardedWalks.{hit_bits_is}
use Rattle.guard.proofs.Steps.{begins, words_of, leads}

-- the walk along the path has come to the node, with the rest of the path to go
pub record Along (p : Prog) (q g : List ℕ) (n t : ℕ) (path : List ℕ) (j node : ℕ) (rest : List ℕ) (passed : ℕ) : Type 0 where
  pub here : node < n
  pub walk : Walk (kept g (moves_of t)) (moves_of t) node rest j
  pub small : passed < 2 ^ 32
  pub bits : bit_or passed (mask (hits p (state t q node) (map (move_of t) rest))) ≡ mask (hits p (begin p) (map (move_of t) path))

-- so it is, if the path is a walk over explored states
abbrev pub Goes : ℕ → List ℕ → List ℕ → List ℕ → ℕ → List ℕ → ℕ → Type 0
Goes t q g path node rest passed = (p : Prog) (n j : ℕ) → length p ≡ t → Explored p q g n → Walk (kept g (moves_of t)) (moves_of t) 0 path j → Along p q g n t path j node rest passed

-- what one move and those behind it pass
hits_more : (p : Prog) (s u : St) (m : Move) (ms : List Move) → move p s m ≡ some u → hits p s (m ∷ ms) ≡ hit s m ++ hits p u ms
hits_more p s u m ms e = ap (λ (z : List Spot). hit s m ++ z) (opt_is (move p s m) [] (λ v. hits p v ms) e)

module _ (t : ℕ) (q g path : List ℕ) where
  pub goes_begin : Goes t q g path 0 path 0
  goes_begin p n j e x w =
      record {
        here = x.found.some_found;
        walk = w;
        small = omega arith;
        bits =
            or_zero_l (mask (hits p (state t q 0) (map (move_of t) path)))
            ∙ ap (λ (s : St). mask (hits p s (map (move_of t) path))) (begins p q g n t e x);
      }

  goes_more : (node m : ℕ) (rest : List ℕ) (passed k : ℕ) → kept g (moves_of t) node m ≡ suc k → Goes t q g path node (m ∷ rest) passed → Goes t q g path k rest (bit_or passed (hit_bits t q node m))
  goes_more node m rest passed k edge go p n j e x w =
      let a = go p n j e x w in
      let (i, l, is, tail) = a.walk in
      let same : i ≡ k = omega arith in
      let s = state t q node in
      let u = state t q k in
      let (up, within, mv) = leads p q g n t e x node m k a.here l edge in
      let hs = hit s (move_of t m) in
      let more = hits p u (map (move_of t) rest) in
      let b : hit_bits t q node m ≡ mask hs = hit_bits_is t q node m in
      record {
        here = within;
        walk = subst (λ (z : ℕ). Walk (kept g (moves_of t)) (moves_of t) z rest j) same tail;
        small = or_lt 32 passed (hit_bits t q node m) a.small (let c = mask_below hs in omega arith);
        bits =
            ap (λ (z : ℕ). bit_or (bit_or passed z) (mask more)) b
            ∙ or_append passed hs more a.small
            ∙ ap (λ (z : List Spot). bit_or passed (mask z)) (sym (hits_more p s u (move_of t m) (map (move_of t) rest) mv))
            ∙ a.bits;
      }

  -- the next move of the rest
  next_of_rest : (node k passed : ℕ) → k < length path → Goes t q g path node (drop k path) passed → Goes t q g path node (get_or path k 0 ∷ drop (suc k) path) passed
  next_of_rest node k passed h go = subst (λ (r : List ℕ). Goes t q g path node r passed) (drop-cons path k 0 h) go

  -- one turn
  pub goes_on : (node k passed hits target : ℕ) → k < length path → kept g (moves_of t) node (get_or path k 0) ≡ suc target → hits ≡ hit_bits t q node (get_or path k 0) → Goes t q g path node (drop k path) passed → Goes t q g path target (drop (k + 1) path) (bit_or passed hits)
  goes_on node k passed hits target h edge is go =
      rw (add-one k, is) (goes_more node (get_or path k 0) (drop (suc k) path) passed target edge (next_of_rest node k passed h go))

  -- at the path's end
  pub goes_all : (node k passed : ℕ) → length path ≤ k → Goes t q g path node (drop k path) passed → AllHits t q g path passed
  goes_all node k passed h go p n j e x w =
      let a = subst (λ (r : List ℕ). Goes t q g path node r passed) (drop_of_length-le path h) go p n j e x w in
      sym (or_zero_r passed) ∙ a.bits

  -- where it can't go on, the path is no walk
  pub no_words : (node k passed r : ℕ) → k < length path → length q < node * width t + width t → Goes t q g path node (drop k path) passed → AllHits t q g path r
  no_words node k passed r h short go p n j e x w =
      let a = go p n j e x w in
      let l = words_of p q g n t e x node a.here in
      absurd (omega arith)

  pub no_edge : (node k passed r : ℕ) → k < length path → kept g (moves_of t) node (get_or path k 0) ≡ 0 → Goes t q g path node (drop k path) passed → AllHits t q g path r
  no_edge node k passed r h zero-edge go p n j e x w =
      let a = next_of_rest node k passed h go p n j e x w in
      let (i, l, is, tail) = a.walk in
      absurd (omega arith)
