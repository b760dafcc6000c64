-- What a look at a set of spots gives: either the set works, or a clause that every set that works meets. And how the
-- search goes on from one set to the next, up to the fewest and first that works.
use Rattle.std.proofs.Common.{◌≡◌, ℕ, suc, ◌+◌, ◌-◌, ◌^◌, ◌<◌, ◌≤◌, true, T, List, [], ◌∷◌, length, get_or, take, set, Some, None, sym, refl, ap, ◌∙◌, subst, inl, inr, arith}
use mathlib.Core.Option.{some}
use lib.Bits.{bit_and, and_comm}
use lib.Count.{ones, ones-le}
use Rattle.std.proofs.lemmas.List.{length-set, length-take-le, get_or-take, get_or-set_same, get_or-set_other}
use Rattle.std.proofs.lemmas.Bool.{cases_lt, cases_eq}
use Rattle.model.specs.Code.{Thread, Prog, ok}
use Rattle.model.specs.Machine.{St, Move, moves, begin, outcome, all_at_once}
use Rattle.model.specs.Fences.{Spot, put_in, fenced_ts, with_fences, DoesIt, Fewest}
use Rattle.model.specs.Guards.{guards, gmoves, hits}
use Rattle.model.specs.Outcomes.{AtOnce, IsPlain, Shows}
use Rattle.model.proofs.RunsUnderGuards.{on_guards, gmoves_less}
use Rattle.model.proofs.ByStates.{by_states}
use Rattle.model.proofs.Clauses.{must_hit}
use Rattle.model.proofs.OneEnd.{one_end}
use Rattle.model.proofs.AlsoWaiting.{all_moves}
use Rattle.hitting.specs.Masks.{Within, Misses}
use Rattle.hitting.specs.Post.{NextOrNone}
use Rattle.hitting.proofs.Halves.{ones_none}
use Rattle.spots.specs.Masks.{spots, every_spot}
use Rattle.spots.proofs.Lists.{length_spots, mask_placed}
use Rattle.spots.proofs.Guarded.{bit_on, misses_bits}
use Rattle.spots.proofs.Fewest.{fewest_by_masks, some_mask_works}
use Rattle.guard.specs.Masks.{masked, mask}
use Rattle.guard.proofs.MaskLaws.{masked_at, on_mask}
use Rattle.explore.specs.Found.{state}
use Rattle.fences.specs.Rows.{done_at}
use Rattle.fences.specs.Searching.{NothingBad, LearntMasks, EarlierFail}
use Rattle.fences.specs.Fewest.{KeptOrNot}

-- where a bit of the mask is set, its spot is guarded
bits_guards : (x n k : ℕ) → x < 2 ^ 32 → masked x n k ≡ true → guards (spots x) n k ≡ true
bits_guards x n k l m =
    let (h, i, o) = masked_at x n k m in
    on_guards (record { thread = n; index = k }) (spots x) (bit_on x (record { thread = n; index = k }) l i (omega arith) o)

-- so runs under the guards of the spots are runs under those of the bits
bits_run : (x : ℕ) (p : Prog) (s t : St) (ms : List Move) → x < 2 ^ 32 → gmoves (guards (spots x)) p s ms ≡ some t → gmoves (masked x) p s ms ≡ some t
bits_run x p s t ms l = gmoves_less (masked x) (guards (spots x)) p s t ms (λ n k. bits_guards x n k l)

plain_with : (p : Prog) (x : ℕ) → x < 2 ^ 32 → NothingBad p x → IsPlain (with_fences (spots x) p)
plain_with p x l f = (by_states (spots x) p).1 (λ ms s e d. f ms s (bits_run x p (begin p) s ms l e) d)

pub works : (p : Prog) (x : ℕ) → T (ok p) → x < 2 ^ 32 → Within x (every_spot p) → NothingBad p x → DoesIt p (spots x)
works p x h l w f = let (a, b) = mask_placed p x h l w in (a, b, plain_with p x l f)

-- no fences change nothing
none_put : (n k : ℕ) (t : Thread) → put_in [] n k t ≡ t
none_put n k [] = refl
none_put n k (i ∷ is) = ap (λ (z : Thread). i ∷ z) (none_put n (suc k) is)

none_fenced : (n : ℕ) (p : Prog) → fenced_ts [] n p ≡ p
none_fenced n [] = refl
none_fenced n (t ∷ ts) = ap (λ (z : Thread). z ∷ fenced_ts [] (suc n) ts) (none_put n 0 t) ∙ ap (λ (z : Prog). t ∷ z) (none_fenced (suc n) ts)

no_length : (ss : List Spot) → length ss ≡ 0 → ss ≡ []
no_length [] e = refl
no_length (s ∷ ss) e = absurd (omega arith)

pub no_spots : spots 0 ≡ []
no_spots = no_length (spots 0) (length_spots 0 (omega arith) ∙ ones_none)

pub plain : (p : Prog) → NothingBad p 0 → IsPlain p
plain p f = subst IsPlain (ap (λ (z : List Spot). with_fences z p) no_spots ∙ none_fenced 0 p) (plain_with p 0 (omega arith) f)

-- a run to a finished state that isn't come to at once
pub shows : (p : Prog) (q : List ℕ) (j : ℕ) (ms : List Move) → done_at p q j ≡ true → (((ns : List ℕ) × (all_at_once p (begin p) ns ≡ some (state (length p) q j))) → ⊥) → moves p (begin p) ms ≡ some (state (length p) q j) → Shows p ms
shows p q j ms d bad e = (state (length p) q j, e, d, never)
  where
    never : AtOnce p (outcome (state (length p) q j)) → ⊥
    never (ns, t, en, dt, o) =
        let (ks, ek) = all_moves p (begin p) t ns en in
        let same : t ≡ state (length p) q j = one_end p ks ms t (state (length p) q j) ek e dt d o in
        bad (ns, en ∙ ap some same)

-- what shares no bit with what a bad run passes doesn't work
pub fails : (p : Prog) (ms : List Move) (z : ℕ) → Shows p ms → z < 2 ^ 32 → bit_and z (mask (hits p (begin p) ms)) ≡ 0 → DoesIt p (spots z) → ⊥
fails p ms z bad l e w =
    misses_bits z (mask (hits p (begin p) ms)) (hits p (begin p) ms) l (λ a o h i. on_mask (hits p (begin p) ms) a o h i) e (must_hit p (spots z) ms w bad)

pub fails_turned : (p : Prog) (ms : List Move) (z : ℕ) → Shows p ms → z < 2 ^ 32 → bit_and (mask (hits p (begin p) ms)) z ≡ 0 → DoesIt p (spots z) → ⊥
fails_turned p ms z bad l e = fails p ms z bad l (and_comm z (mask (hits p (begin p) ms)) ∙ e)

-- what misses one of the clauses learnt doesn't work
pub learnt_none : (p : Prog) (cs : List ℕ) → LearntMasks p cs 0
learnt_none p cs k h = absurd (omega arith)

pub learnt_fails : (p : Prog) (cs : List ℕ) (len k z : ℕ) → LearntMasks p cs len → k < len → bit_and z (get_or cs k 0) ≡ 0 → z < 2 ^ 32 → DoesIt p (spots z) → ⊥
learnt_fails p cs len k z learnt h e l =
    let (ms, bad, is) = learnt k h in
    fails p ms z bad l (ap (bit_and z) (sym is) ∙ e)

-- all clauses of a list are learnt
pub misses_fails : (p : Prog) (cs : List ℕ) (z : ℕ) → LearntMasks p cs (length cs) → Misses cs z → z < 2 ^ 32 → DoesIt p (spots z) → ⊥
misses_fails p cs z learnt (k, h, e) l = learnt_fails p cs (length cs) k z learnt h e l

-- so they are of the list cut off behind those learnt
pub learnt_slice : (p : Prog) (cs : List ℕ) (len : ℕ) → len ≤ length cs → LearntMasks p cs len → LearntMasks p (take len cs) (length (take len cs))
learnt_slice p cs len le learnt k h =
    let n = length-take-le len cs le in
    let (ms, bad, is) = learnt k (omega arith) in
    (ms, bad, get_or-take len cs k 0 (omega arith) ∙ is)

pub slice_fails : (p : Prog) (cs : List ℕ) (len z : ℕ) → len ≤ length cs → LearntMasks p cs len → Misses (take len cs) z → z < 2 ^ 32 → DoesIt p (spots z) → ⊥
slice_fails p cs len z le learnt = misses_fails p (take len cs) z (learnt_slice p cs len le learnt)

-- one clause more
pub learnt_more : (p : Prog) (cs : List ℕ) (len c : ℕ) (ms : List Move) → len < length cs → LearntMasks p cs len → Shows p ms → c ≡ mask (hits p (begin p) ms) → LearntMasks p (set cs len c) (len + 1)
learnt_more p cs len c ms le learnt bad is k h =
    elim (cases_eq k len) [
      | inl e ↦ (ms, bad, ap (λ (i : ℕ). get_or (set cs len c) i 0) e ∙ get_or-set_same cs len c 0 le ∙ is)
      | inr n ↦
          let (ks, b, i) = learnt k (omega arith) in
          (ks, b, get_or-set_other cs len k c 0 n ∙ i)
    ]

-- the search begins
pub start : (p : Prog) → EarlierFail p 0 (2 ^ 32 - 1)
start p z l w (inl h) d = omega arith
start p z l w (inr (e, h)) d = omega arith

-- after the last of so many bits
pub more_bits : (p : Prog) (bits from : ℕ) → EarlierFail p bits from → ((z : ℕ) → z < 2 ^ 32 → Within z (every_spot p) → ones z ≡ bits → z ≤ from → DoesIt p (spots z) → ⊥) → EarlierFail p (bits + 1) (2 ^ 32 - 1)
more_bits p bits from f g z l w (inr (e, h)) d = omega arith
more_bits p bits from f g z l w (inl h) d =
    elim (cases_lt (ones z) bits) [
      | inl a ↦ f z l w (inl a) d
      | inr a ↦
          let e : ones z ≡ bits = omega arith in
          elim (cases_lt from z) [ inl b ↦ f z l w (inr (e, b)) d | inr b ↦ g z l w e b d ]
    ]

-- where no candidate is left
pub after_none : (p : Prog) (cs : List ℕ) (bits from : ℕ) → LearntMasks p cs (length cs) → EarlierFail p bits from → NextOrNone cs (every_spot p) bits from None → EarlierFail p (bits + 1) (2 ^ 32 - 1)
after_none p cs bits from learnt f none = more_bits p bits from f (λ z l w e b d. misses_fails p cs z learnt (none z b w e) l d)

-- where x is the next
pub after_some : (p : Prog) (cs : List ℕ) (bits from x : ℕ) → LearntMasks p cs (length cs) → EarlierFail p bits from → NextOrNone cs (every_spot p) bits from (Some x) → EarlierFail p bits x
after_some p cs bits from x learnt f next z l w (inl a) d = f z l w (inl a) d
after_some p cs bits from x learnt f next z l w (inr (e, b)) d =
    elim (cases_lt from z) [
      | inl a ↦ f z l w (inr (e, a)) d
      | inr a ↦ misses_fails p cs z learnt (next.first z b a w e) l d
    ]

-- after a look at x that found something bad
pub go_on : (p : Prog) (bits x : ℕ) → 0 < x → (DoesIt p (spots x) → ⊥) → EarlierFail p bits x → EarlierFail p bits (x - 1)
go_on p bits x h bad f z l w (inl a) d = f z l w (inl a) d
go_on p bits x h bad f z l w (inr (e, b)) d =
    elim (cases_eq z x) [
      | inl s ↦ bad (subst (λ (y : ℕ). DoesIt p (spots y)) s d)
      | inr n ↦ f z l w (inr (e, omega arith)) d
    ]

pub go_on_none : (p : Prog) (bits x : ℕ) → x ≡ 0 → (DoesIt p (spots x) → ⊥) → EarlierFail p bits x → EarlierFail p (bits + 1) (2 ^ 32 - 1)
go_on_none p bits x h bad f =
    more_bits p bits x f
    (λ z l w e b d. let s : z ≡ x = omega arith in bad (subst (λ (y : ℕ). DoesIt p (spots y)) s d))

-- what is found
pub found : (p : Prog) (x : ℕ) → T (ok p) → x < 2 ^ 32 → EarlierFail p (ones x) x → DoesIt p (spots x) → Fewest p (spots x)
found p x h l f d = fewest_by_masks p x h l d f

-- the next candidate works
pub found_next : (p : Prog) (cs : List ℕ) (bits from x : ℕ) → T (ok p) → x < 2 ^ 32 → LearntMasks p cs (length cs) → EarlierFail p bits from → NextOrNone cs (every_spot p) bits from (Some x) → NothingBad p x → Fewest p (spots x)
found_next p cs bits from x h l learnt f next good =
    let e = next.candidate.size in
    found p x h l (subst (λ (b : ℕ). EarlierFail p b x) (sym e) (after_some p cs bits from x learnt f next)) (works p x h l next.candidate.within good)

-- with more bits than there are spots, none is left
pub ends : (p : Prog) (bits from : ℕ) → T (ok p) → 32 < bits → EarlierFail p bits from → ⊥
ends p bits from h many f =
    let (x, l, w, d) = some_mask_works p h in
    let few = ones-le 32 x l in
    f x l w (inl (omega arith)) d

-- a clause kept or left out
pub kept_learnt : (p : Prog) (cs cs' : List ℕ) (len c r : ℕ) (ms : List Move) → KeptOrNot cs len c cs' r → len ≤ length cs → LearntMasks p cs len → Shows p ms → c ≡ mask (hits p (begin p) ms) → (r ≤ length cs') × LearntMasks p cs' r
kept_learnt p cs cs' len c r ms k h l s e =
    elim k [
      | inl a ↦
          let b : r ≤ length cs = let z = a.0 in omega arith in (
            subst (λ (x : List ℕ). r ≤ length x) (sym a.1) b,
            subst (λ (x : List ℕ). LearntMasks p x r) (sym a.1) (subst (λ (x : ℕ). LearntMasks p cs x) (sym a.0) l),
          )
      | inr a ↦
          let n = length-set cs len c in
          let b : r ≤ length (set cs len c) = let z = a.1 in let y = a.0 in omega arith in (
            subst (λ (x : List ℕ). r ≤ length x) (sym a.2) b,
            subst (λ (x : List ℕ). LearntMasks p x r) (sym a.2) (subst (λ (x : ℕ). LearntMasks p (set cs len c) x) (sym a.1) (learnt_more p cs len c ms a.0 l s e)),
          )
    ]
