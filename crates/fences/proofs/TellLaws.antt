-- Moves and spots told in words, one after another.
use Rattle.std.proofs.Common.{◌≡◌, ℕ, zero, suc, ◌+◌, ◌-◌, ◌*◌, ◌/◌, ◌%◌, ◌^◌, ◌<◌, ◌≤◌, List, [], ◌∷◌, ◌++◌, map, length, get_or, take, drop, set, sym, refl, ap, ◌∙◌, subst, inl, inr, append_assoc, append-nil, add-one, arith, length-append, pow_pos}
use lib.Pow.{mod-mod-pow}
use Rattle.std.proofs.lemmas.List.{map-append, map_more, take_more_set, drop-set-lt, length-set, length-map}
use Rattle.std.proofs.lemmas.Nat.{mod_below}
use Rattle.std.proofs.lemmas.Bool.{cases_eq}
use Rattle.model.specs.Machine.{Move, next, out}
use Rattle.model.specs.Fences.{Spot}
use Rattle.explore.specs.Found.{move_of}
use Rattle.hitting.specs.Masks.{bit}
use Rattle.hitting.specs.Spots as hit
use Rattle.hitting.specs.Spots.{with_spot, spots_of}
use Rattle.hitting.proofs.Bits.{bit_is, bit_lt, bit_low, bit_high}
use Rattle.report.proofs.Written.{drop_further}
use Rattle.spots.specs.Masks.{spot_of, spots}
use Rattle.fences.specs.Rows.{Wrote}
use Rattle.fences.specs.Told.{text_ms, text_ss}

-- one move more
ms_append : (ms ns : List Move) → text_ms (ms ++ ns) ≡ text_ms ms ++ text_ms ns
ms_append [] ns = refl
ms_append (next n ∷ ms) ns = ap (λ (z : List ℕ). n ∷ z) (ms_append ms ns)
ms_append (out n ∷ ms) ns = ap (λ (z : List ℕ). (4 + n) ∷ z) (ms_append ms ns)

pub move_more : (n k w : ℕ) (path o : List ℕ) → k < length path → k < length o → text_ms (move_of n (get_or path k 0) ∷ []) ≡ w ∷ [] → take k o ≡ text_ms (map (move_of n) (take k path)) → take (k + 1) (set o k w) ≡ text_ms (map (move_of n) (take (k + 1) path))
move_more n k w path o h l e i =
    take_more_set o k w l
    ∙ ap (λ (z : List ℕ). z ++ w ∷ []) i
    ∙ ap (λ (z : List ℕ). text_ms (map (move_of n) (take k path)) ++ z) (sym e)
    ∙ sym (ms_append (map (move_of n) (take k path)) (move_of n (get_or path k 0) ∷ []))
    ∙ sym (ap text_ms (map_more (move_of n) path k 0 h))

-- the spots at positions below s
abbrev pub up_to : ℕ → ℕ → List ℕ
up_to x zero = []
up_to x (suc s) = up_to x s ++ with_spot (bit x (31 - s)) s []

with_append : (d s : ℕ) (ss : List ℕ) → with_spot d s ss ≡ with_spot d s [] ++ ss
with_append zero s ss = refl
with_append (suc d) s ss = refl

-- the highest of n + 1 bits, then the others
spots_step : (n s x : ℕ) → hit.spots (suc n) s (x % 2 ^ suc n) ≡ with_spot (bit x n) s [] ++ hit.spots n (suc s) (x % 2 ^ n)
unfolding hit.spots
spots_step n s x =
    let y = x % 2 ^ suc n in
    let h : y < 2 ^ suc n = mod_below x (2 ^ suc n) (pow_pos (suc n)) in
    let d : y / 2 ^ n ≡ bit x n = sym (bit_high n y h) ∙ bit_low (suc n) x n (omega arith) in
    let q : suc n ≡ 1 + n = omega arith in
    let m : y % 2 ^ n ≡ x % 2 ^ n = ap (λ (k : ℕ). x % 2 ^ k % 2 ^ n) q ∙ mod-mod-pow x 1 n in
    ap (λ (k : ℕ). with_spot k s (hit.spots n (suc s) (y % 2 ^ n))) d
    ∙ ap (λ (k : ℕ). with_spot (bit x n) s (hit.spots n (suc s) k)) m
    ∙ with_append (bit x n) s (hit.spots n (suc s) (x % 2 ^ n))

-- those below s, and then those of the n bits left, are all
all_spots : (x : ℕ) (s n : ℕ) → n + s ≡ 32 → x < 2 ^ 32 → up_to x s ++ hit.spots n s (x % 2 ^ n) ≡ spots_of x
unfolding spots_of
all_spots x zero n e h =
    let q : n ≡ 32 = omega arith in
    let r : x % 2 ^ 32 ≡ x = omega arith in
    ap (λ (k : ℕ). hit.spots k 0 (x % 2 ^ k)) q ∙ ap (λ (z : ℕ). hit.spots 32 0 z) r
all_spots x (suc s) n e h =
    let q : 31 - s ≡ n = omega arith in
    append_assoc (up_to x s) (with_spot (bit x (31 - s)) s []) (hit.spots n (suc s) (x % 2 ^ n))
    ∙ ap (λ (k : ℕ). up_to x s ++ (with_spot (bit x k) s [] ++ hit.spots n (suc s) (x % 2 ^ n))) q
    ∙ ap (λ (z : List ℕ). up_to x s ++ z) (sym (spots_step n s x))
    ∙ all_spots x s (suc n) (omega arith) h

none_left : (s x : ℕ) → hit.spots 0 s x ≡ []
unfolding hit.spots
none_left s x = refl

up_to_all : (x s : ℕ) → s ≡ 32 → x < 2 ^ 32 → up_to x s ≡ spots_of x
up_to_all x s e h =
    sym (append-nil (up_to x s)) ∙ ap (λ (z : List ℕ). up_to x s ++ z) (sym (none_left s (x % 2 ^ 0))) ∙ all_spots x s 0 (omega arith) h

with_short : (d s : ℕ) → length (with_spot d s []) ≤ 1
with_short zero s = omega arith
with_short (suc d) s = omega arith

up_to_short : (x s : ℕ) → length (up_to x s) ≤ s
up_to_short x zero = omega arith
up_to_short x (suc s) =
    let i = up_to_short x s in
    let e = length-append (up_to x s) (with_spot (bit x (31 - s)) s []) in
    let w = with_short (bit x (31 - s)) s in
    omega arith

-- two words for each
length_ss : (ss : List Spot) → length (text_ss ss) ≡ 2 * length ss
length_ss [] = refl
length_ss (s ∷ ss) = let i = length_ss ss in omega arith

ss_append : (ss ts : List Spot) → text_ss (ss ++ ts) ≡ text_ss ss ++ text_ss ts
ss_append [] ts = refl
ss_append (s ∷ ss) ts = ap (λ (z : List ℕ). s.thread ∷ s.index ∷ z) (ss_append ss ts)

-- the words of positions
abbrev pub text_at : List ℕ → List ℕ
text_at ps = text_ss (map spot_of ps)

length_at : (ps : List ℕ) → length (text_at ps) ≡ 2 * length ps
length_at ps = length_ss (map spot_of ps) ∙ ap (λ (k : ℕ). 2 * k) (length-map ps spot_of)

at_append : (ps qs : List ℕ) → text_at (ps ++ qs) ≡ text_at ps ++ text_at qs
at_append ps qs = ap text_ss (map-append spot_of ps qs) ∙ ss_append (map spot_of ps) (map spot_of qs)

-- nothing written, words written after others, and one spot
wrote_nothing : (o : List ℕ) (at : ℕ) → Wrote [] o o at at
wrote_nothing o at = record { long = omega arith; written = sym (append-nil (take at o)); behind = refl }

wrote_then : (ws vs o o₁ o₂ : List ℕ) (at mid end : ℕ) → Wrote ws o o₁ at mid → Wrote vs o₁ o₂ mid end → Wrote (ws ++ vs) o o₂ at end
wrote_then ws vs o o₁ o₂ at mid end a b =
    let l = length-append ws vs in
    let p = a.long in
    let q = b.long in
    record {
      long = omega arith;
      written = b.written ∙ ap (λ (z : List ℕ). z ++ vs) a.written ∙ append_assoc (take at o) ws vs;
      behind = b.behind ∙ drop_further mid end o₁ o (omega arith) a.behind;
    }

pub wrote_no_spot : (x s : ℕ) (o : List ℕ) (at : ℕ) → x / 2 ^ (31 - s) % 2 ≡ 0 → Wrote (text_at (with_spot (bit x (31 - s)) s [])) o o at at
wrote_no_spot x s o at e =
    subst (λ (d : ℕ). Wrote (text_at (with_spot d s [])) o o at at) (sym (bit_is x (31 - s) ∙ e)) (wrote_nothing o at)

wrote_two : (a b at : ℕ) (o : List ℕ) → at + 2 ≤ length o → Wrote (a ∷ b ∷ []) o (set (set o at a) (at + 1) b) at (at + 2)
wrote_two a b at o h =
    let l = length-set o at a in
    let p : at + 2 ≡ at + 1 + 1 = omega arith in
    record {
      long = refl;
      written = ap (λ (k : ℕ). take k (set (set o at a) (at + 1) b)) p
          ∙ take_more_set (set o at a) (at + 1) b (omega arith)
          ∙ ap (λ (z : List ℕ). z ++ b ∷ []) (take_more_set o at a (omega arith))
          ∙ append_assoc (take at o) (a ∷ []) (b ∷ []);
      behind = drop-set-lt (at + 2) (set o at a) (at + 1) b (omega arith) ∙ drop-set-lt (at + 2) o at a (omega arith);
    }

pub wrote_spot : (x s : ℕ) (o : List ℕ) (at : ℕ) → at + 2 ≤ length o → (x / 2 ^ (31 - s) % 2 ≡ 0 → ⊥) → Wrote (text_at (with_spot (bit x (31 - s)) s [])) o (set (set o at (s / 8)) (at + 1) (s % 8)) at (at + 2)
wrote_spot x s o at h n =
    let i = bit_is x (31 - s) in
    let l = bit_lt x (31 - s) in
    let e : 1 ≡ bit x (31 - s) = elim (cases_eq (bit x (31 - s)) 0) [ inl z ↦ absurd (n (sym i ∙ z)) | inr p ↦ omega arith ] in
    subst (λ (d : ℕ). Wrote (text_at (with_spot d s [])) o (set (set o at (s / 8)) (at + 1) (s % 8)) at (at + 2)) e
    (wrote_two (s / 8) (s % 8) at o h)

pub spot_more : (x s : ℕ) (o o₁ o₂ : List ℕ) (at mid end : ℕ) → Wrote (text_at (up_to x s)) o o₁ at mid → Wrote (text_at (with_spot (bit x (31 - s)) s [])) o₁ o₂ mid end → Wrote (text_at (up_to x (s + 1))) o o₂ at end
spot_more x s o o₁ o₂ at mid end a b =
    let v = with_spot (bit x (31 - s)) s [] in
    subst (λ (k : ℕ). Wrote (text_at (up_to x k)) o o₂ at end) (sym (add-one s))
    (subst (λ (z : List ℕ). Wrote z o o₂ at end) (sym (at_append (up_to x s) v))
    (wrote_then (text_at (up_to x s)) (text_at v) o o₁ o₂ at mid end a b))

pub spot_room : (x s : ℕ) (o o₁ : List ℕ) (at mid : ℕ) → Wrote (text_at (up_to x s)) o o₁ at mid → mid ≤ at + 2 * s
spot_room x s o o₁ at mid a =
    let l = a.long in
    let e = length_at (up_to x s) in
    let k = up_to_short x s in
    omega arith

-- all spots written
pub record SpotsWritten (x : ℕ) (o o' : List ℕ) (at r : ℕ) : Type 0 where
  pub count : r ≡ length (spots x)
  pub few : r ≤ 32
  pub written : take (at + 2 * r) o' ≡ take at o ++ text_ss (spots x)
  pub behind : drop (at + 2 * r) o' ≡ drop (at + 2 * r) o

pub all_written : (x s : ℕ) (o o' : List ℕ) (at end : ℕ) → s ≡ 32 → x < 2 ^ 32 → Wrote (text_at (up_to x s)) o o' at end → SpotsWritten x o o' at ((end - at) / 2)
all_written x s o o' at end e h w =
    let u = up_to_all x s e h in
    let l = w.long in
    let k = length_at (up_to x s) in
    let m = up_to_short x s in
    let c = ap length u in
    let f = length-map (spots_of x) spot_of in
    let q : at + 2 * ((end - at) / 2) ≡ end = omega arith in
    record {
      count = omega arith;
      few = omega arith;
      written = ap (λ (n : ℕ). take n o') q ∙ w.written ∙ ap (λ (z : List ℕ). take at o ++ text_at z) u;
      behind = ap (λ (n : ℕ). drop n o') q ∙ w.behind ∙ ap (λ (n : ℕ). drop n o) (sym q);
    }
