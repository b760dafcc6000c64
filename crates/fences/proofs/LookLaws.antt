-- Looking at guards: choosing a bad state, what it says of runs, and that a run is never too long.
use Rattle.std.proofs.Common.{◌≡◌, ℕ, ◌+◌, ◌*◌, ◌≤◌, true, ◌&&◌, leb, List, [], ◌∷◌, map, length, take, Some, None, Option, sym, refl, ap, ◌∙◌, subst, inl, inr, arith}
use mathlib.Core.Option.{some}
use lib.Bits.{bit_and}
use Rattle.std.proofs.lemmas.Bool.{cases_eq, leb-true}
use Rattle.std.proofs.lemmas.List.{length-map}
use Rattle.model.specs.Code.{Prog, ok_t, ok_ts, ok, size}
use Rattle.model.specs.Machine.{St, Move, moves, begin, all_done}
use Rattle.model.specs.Guards.{hits}
use Rattle.model.proofs.Tools.{T_true, and_both}
use Rattle.model.proofs.RunLength.{run_length}
use Rattle.program.specs.declared.threads.Program.{Program}
use Rattle.program.specs.Meaning.{program}
use Rattle.program.proofs.WriteWords.{program_ok}
use Rattle.graph.specs.Rules.{kept, Ahead}
use Rattle.graph.specs.Walks.{Walk}
use Rattle.graph.specs.Search.{Marked, Searched}
use Rattle.graph.specs.Back.{Traced, Written, TooLong}
use Rattle.graph.proofs.Walked.{walk_fewer}
use Rattle.graph.proofs.Asked.{traced_from}
use Rattle.explore.specs.Found.{moves_of, move_of, Explored}
use Rattle.once.specs.Once.{MarksOnce}
use Rattle.guard.specs.Masks.{mask}
use Rattle.guard.specs.Rules.{guarded, Askable, AllHits}
use Rattle.guard.proofs.GuardedWalks.{guarded_ahead, guarded_fewer, walk_moves, walk_clear, run_marked}
use Rattle.fences.specs.Rows.{done_at}
use Rattle.fences.specs.Looks.{Chosen, Bad, Looked, AllBelow, Learned}

-- one state more that is not bad
pub chosen_skip : (p : Prog) (q once cost : List ℕ) (i : ℕ) (best : Option ℕ) → Chosen p q once cost i best → (done_at p q i ≡ true → Marked cost i → Marked once i) → Chosen p q once cost (i + 1) best
chosen_skip p q once cost i (Some j) h f = (let l = h.0 in omega arith, h.1, h.2, h.3)
chosen_skip p q once cost i None h f =
    λ j l d m.
    elim (cases_eq j i) [
      | inl e ↦ subst (Marked once) (sym e) (f (ap (done_at p q) (sym e) ∙ d) (subst (Marked cost) e m))
      | inr ne ↦ h j (omega arith) d m
    ]

-- what the search and the choice say of runs
pub looked : (p : Prog) (q g once : List ℕ) (guards n : ℕ) (cost from : List ℕ) (r : Option ℕ) → Explored p q g n → MarksOnce p q n once → Searched (guarded (length p) q g guards) (moves_of (length p)) n cost from → Chosen p q once cost n r → Looked p q g guards n cost from r
looked p q g once guards n cost from (Some j) x marks s h =
    record { below = h.0; done = h.1; apart = λ a. h.3 ((marks j h.0).1 a); marked = h.2; searched = s }
looked p q g once guards n cost from None x marks s h =
    λ ms u e d.
    let (j, l, is, m) = run_marked p q g n (length p) refl x guards cost from ms u s e in
    let done : done_at p q j ≡ true = ap (λ (z : St). all_done p z.threads) is ∙ d in
    let (ns, a) = (marks j l).0 (h j l done m) in
    (ns, a ∙ ap some is)

-- a program has at most 32 instructions, so that a run has at most 64 moves
size_ts : (p : Prog) → ok_ts p ≡ true → size p ≤ 8 * length p
size_ts [] h = omega arith
size_ts (t ∷ ts) h =
    let (l, r) = and_both (leb (length t) 8) (ok_t t && ok_ts ts) h in
    let (u, v) = and_both (ok_t t) (ok_ts ts) r in
    let k = leb-true (length t) 8 l in
    let i = size_ts ts v in
    omega arith

pub few_moves : (p : Program) (ms : List Move) (s : St) → moves (program p) (begin (program p)) ms ≡ some s → length ms ≤ 64
few_moves p ms s e =
    let (one, r) = and_both (leb 1 (length (program p))) (leb (length (program p)) 4 && ok_ts (program p)) (T_true (ok (program p)) (program_ok p)) in
    let (four, ts) = and_both (leb (length (program p)) 4) (ok_ts (program p)) r in
    let few = leb-true (length (program p)) 4 four in
    let k = size_ts (program p) ts in
    let l = run_length (program p) ms s e in
    omega arith

walk_below : (next : ℕ → ℕ → ℕ) (n : ℕ) (ms : List ℕ) (i j : ℕ) → Walk next n i ms j → AllBelow n ms
walk_below next n [] i j w = tt
walk_below next n (m ∷ ms) i j w = (w.1, walk_below next n ms w.0 j w.3)

module _ (p : Program) (t : ℕ) (count : t ≡ length (program p)) (few : t ≤ 4) (q g : List ℕ) (guards n : ℕ) (x : Explored (program p) q g n) where
  -- what is asked of the rule
  pub may_search : n * moves_of (length (program p)) ≤ length g → Ahead (Askable t q g) (guarded t q g guards) (2 * t) n
  may_search room =
      guarded_ahead (program p) q g n t (sym count) x guards few (subst (λ (z : ℕ). n * moves_of z ≤ length g) (sym count) room)

  searched_count : (cost from : List ℕ) → Searched (guarded (length (program p)) q g guards) (moves_of (length (program p))) n cost from → Searched (guarded t q g guards) (2 * t) n cost from
  searched_count cost from = subst (λ (z : ℕ). Searched (guarded z q g guards) (moves_of z) n cost from) (sym count)

  pub count_searched : (cost from : List ℕ) → Searched (guarded t q g guards) (2 * t) n cost from → Searched (guarded (length (program p)) q g guards) (moves_of (length (program p))) n cost from
  count_searched cost from = subst (λ (z : ℕ). Searched (guarded z q g guards) (moves_of z) n cost from) count

  pub may_walk : (cost from : List ℕ) (bad : ℕ) → n * moves_of (length (program p)) ≤ length g → n ≤ length from → Bad (program p) q g guards n cost from bad → Traced (Askable t q g) (guarded t q g guards) (2 * t) from bad
  may_walk cost from bad room held b =
      traced_from (Askable t q g) (guarded t q g guards) (2 * t) n cost from bad (may_search room) held (searched_count cost from b.searched) b.below b.marked

  walk_count : (ms : List ℕ) (bad : ℕ) → Walk (guarded t q g guards) (2 * t) 0 ms bad → Walk (guarded (length (program p)) q g guards) (moves_of (length (program p))) 0 ms bad
  walk_count ms bad = subst (λ (z : ℕ). Walk (guarded z q g guards) (moves_of z) 0 ms bad) count

  walk_few : (ms : List ℕ) (bad : ℕ) → Walk (guarded t q g guards) (2 * t) 0 ms bad → length ms ≤ 64
  walk_few ms bad w =
      let r = walk_moves (program p) q g n (length (program p)) refl x guards ms bad (walk_count ms bad w) in
      let l = few_moves p (map (move_of (length (program p))) ms) _ r in
      let k = length-map ms (move_of (length (program p))) in
      omega arith

  pub never_long : (bad : ℕ) (was path : List ℕ) → length was ≡ 64 → TooLong (guarded t q g guards) (2 * t) bad was path → ⊥
  never_long bad was path e t =
      let (ms, l, w) = t.walk in
      let k = walk_few ms bad w in
      omega arith

  pub learned : (bad : ℕ) (was path cut : List ℕ) (len clause : ℕ) → length path ≡ 64 → Written (guarded t q g guards) (2 * t) bad len was path → cut ≡ take len path → AllHits t q g cut clause → Learned (program p) q guards bad path len clause
  learned bad was path cut len clause e w c a =
      let u = length (program p) in
      let ms = take len path in
      let v = walk_count ms bad w.walk in
      let h : AllHits u q g ms clause = subst (λ (z : ℕ). AllHits z q g ms clause) count (subst (λ (z : List ℕ). AllHits t q g z clause) c a) in
      let is : clause ≡ mask (hits (program p) (begin (program p)) (map (move_of u) ms)) =
      h (program p) n bad refl x (walk_fewer (guarded u q g guards) (kept g (moves_of u)) (moves_of u) (guarded_fewer u q g guards) ms 0 bad v) in
      let f = w.fits in
      record {
        few = omega arith;
        run = walk_moves (program p) q g n u refl x guards ms bad v;
        clause = is;
        new = ap (λ (z : ℕ). bit_and z guards) is ∙ walk_clear (program p) q g n u refl x guards ms bad v;
        numbers = walk_below (guarded u q g guards) (moves_of u) ms 0 bad v;
      }
