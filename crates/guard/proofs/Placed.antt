-- The spots that a run passes stand before instructions of the program, so that each has its bit; and guards at a list of
-- such spots are the guards of the list's bits.
use Rattle.std.proofs.Common.{◌≡◌, ℕ, zero, suc, ◌+◌, ◌*◌, ◌<◌, ◌≤◌, Bool, true, false, ◌&&◌, T, leb, List, [], ◌∷◌, ◌++◌, length, sym, ap, ◌∙◌, subst, inl, inr, arith}
use mathlib.Core.Option.{some}
use Rattle.std.proofs.lemmas.Bool.{leb-true}
use Rattle.model.specs.Code.{pick, nth, Thread, Prog, ok_t, ok_ts, ok}
use Rattle.model.specs.Machine.{St, Move, next, out, move, moves, empty}
use Rattle.model.specs.Fences.{Spot}
use Rattle.model.specs.Guards.{guards, gmoves, hit, hits, On}
use Rattle.model.proofs.Tools.{opt_some, opt_is, some_is, none_some, T_true, and_both, nth_below, next_of}
use Rattle.model.proofs.RunsUnderGuards.{on_inv, on_either, on_guards, guards_on, gmoves_less}
use Rattle.hitting.specs.Masks.{bit}
use Rattle.guard.specs.Masks.{place, masked, mask}
use Rattle.guard.proofs.MaskLaws.{masked_at, at_masked, on_mask, mask_on}

-- the spot stands before an instruction
abbrev pub Stands : Prog → Spot → Type 0
Stands p a = (c : Thread) × (nth p a.thread ≡ some c) × (a.index < length c)

-- the spot has a bit
abbrev pub HasBit : Spot → Type 0
HasBit a = (a.thread < 4) × (a.index < 8)

short_thread : (p : Prog) (n : ℕ) (c : Thread) → ok_ts p ≡ true → nth p n ≡ some c → length c ≤ 8
short_thread [] n c h e = absurd (none_some e)
short_thread (t ∷ ts) zero c h e =
    let (l, r) = and_both (leb (length t) 8) (ok_t t && ok_ts ts) h in
    let k = leb-true (length t) 8 l in
    let s = ap length (some_is e) in
    omega arith
short_thread (t ∷ ts) (suc n) c h e =
    let (l, r) = and_both (leb (length t) 8) (ok_t t && ok_ts ts) h in
    let (u, v) = and_both (ok_t t) (ok_ts ts) r in
    short_thread ts n c v e

pub stands_bit : (p : Prog) (a : Spot) → T (ok p) → Stands p a → HasBit a
stands_bit p a fine s =
    let (c, e, h) = s in
    let (one, r) = and_both (leb 1 (length p)) (leb (length p) 4 && ok_ts p) (T_true (ok p) fine) in
    let (four, ts) = and_both (leb (length p) 4) (ok_ts p) r in
    let few = leb-true (length p) 4 four in
    let n = nth_below p a.thread e in
    let k = short_thread p a.thread c ts e in
    (omega arith, omega arith)

-- what moves pass
hit_stands : (p : Prog) (s u : St) (m : Move) (a : Spot) → move p s m ≡ some u → On a (hit s m) → Stands p a
hit_stands p s u (next n) a e o =
    let x = next_of p s n u e in
    let o' = subst (λ (z : List Spot). On a z) (opt_is (nth s.threads n) [] _ x.stands) o in
    one (empty x.was.waits) x.was.pc o' (x.code, x.of, nth_below x.code x.was.pc x.at)
  where
    one : (b : Bool) (k : ℕ) → On a (pick b [] (record { thread = n; index = k } ∷ [])) → Stands p (record { thread = n; index = k }) → Stands p a
    one true k o st = absurd (on_inv o)
    one false k o st = elim (on_inv o) [ inl z ↦ subst (Stands p) (sym z) st | inr z ↦ absurd (on_inv z) ]
hit_stands p s u (out n) a e o = absurd (on_inv o)

pub hits_stand : (p : Prog) (s u : St) (ms : List Move) (a : Spot) → moves p s ms ≡ some u → On a (hits p s ms) → Stands p a
hits_stand p s u [] a e o = absurd (on_inv o)
hits_stand p s u (m ∷ ms) a e o =
    let (v, ev, e1) = opt_some (move p s m) _ e in
    let k = subst (λ (z : List Spot). On a (hit s m ++ z)) (opt_is (move p s m) [] (λ w. hits p w ms) ev) o in
    elim (on_either (hit s m) (hits p v ms) k) [ inl h ↦ hit_stands p s v m a ev h | inr h ↦ hits_stand p v u ms a e1 h ]

-- every spot that a run passes has its bit set, and every bit that is set is such a spot's
pub passed_set : (p : Prog) (s u : St) (ms : List Move) (a : Spot) → T (ok p) → moves p s ms ≡ some u → On a (hits p s ms) → bit (mask (hits p s ms)) (place a.thread a.index) ≡ 1
passed_set p s u ms a fine e o =
    let (h, l) = stands_bit p a fine (hits_stand p s u ms a e o) in
    on_mask (hits p s ms) a o h l

pub set_passed : (p : Prog) (s : St) (ms : List Move) (b : ℕ) → bit (mask (hits p s ms)) b ≡ 1 → (a : Spot) × On a (hits p s ms) × (place a.thread a.index ≡ b)
set_passed p s ms b e = let (a, o, h, l, q) = mask_on (hits p s ms) b e in (a, o, q)

-- guards at a list of spots, and at its bits
same_place : (n k m l : ℕ) → n < 4 → k < 8 → m < 4 → l < 8 → place n k ≡ place m l → (n ≡ m) × (k ≡ l)
same_place n k m l hn hk hm hl e = let s : 8 * n + k ≡ 8 * m + l = omega arith in (omega arith, omega arith)

pub guards_masked : (ss : List Spot) → ((a : Spot) → On a ss → HasBit a) → (n k : ℕ) → guards ss n k ≡ true → masked (mask ss) n k ≡ true
guards_masked ss all n k e =
    let o = guards_on n k ss e in
    let (h, l) = all (record { thread = n; index = k }) o in
    at_masked (mask ss) n k h l (on_mask ss (record { thread = n; index = k }) o h l)

pub masked_guards : (ss : List Spot) (n k : ℕ) → masked (mask ss) n k ≡ true → guards ss n k ≡ true
masked_guards ss n k e =
    let (h, l, b) = masked_at (mask ss) n k e in
    let (a, o, ha, la, q) = mask_on ss (place n k) b in
    let (en, ek) = same_place a.thread a.index n k ha la h l q in
    ap (λ (z : ℕ). guards ss z k) (sym en) ∙ ap (guards ss a.thread) (sym ek) ∙ on_guards a ss o

pub gmoves_masked : (ss : List Spot) (p : Prog) (s u : St) (ms : List Move) → gmoves (guards ss) p s ms ≡ some u → gmoves (masked (mask ss)) p s ms ≡ some u
gmoves_masked ss p s u ms = gmoves_less (masked (mask ss)) (guards ss) p s u ms (masked_guards ss)

pub masked_gmoves : (ss : List Spot) → ((a : Spot) → On a ss → HasBit a) → (p : Prog) (s u : St) (ms : List Move) → gmoves (masked (mask ss)) p s ms ≡ some u → gmoves (guards ss) p s ms ≡ some u
masked_gmoves ss all p s u ms = gmoves_less (guards ss) (masked (mask ss)) p s u ms (guards_masked ss all)
