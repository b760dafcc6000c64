-- Clauses and what they have in all: a set of the fewest bits that meets them has no bit outside.
use Rattle.std.proofs.Common.{◌≡◌, ℕ, zero, suc, ◌<◌, ◌≤◌, ◌⊎◌, List, [], ◌∷◌, ◌++◌, length, get_or, refl, ap, ◌∙◌, inl, inr, arith, length-append}
use Rattle.std.specs.List.{fold}
use lib.Bits.{bit_and, bit_or, and_le_r, and_self}
use lib.Count.{ones}
use Rattle.std.proofs.lemmas.List.{get_or_append_left}
use Rattle.std.proofs.lemmas.Bool.{cases_lt, cases_eq}
use Rattle.hitting.specs.Masks.{Within, Meets, Misses}
use Rattle.hitting.specs.Post.{Union, Fails}
use Rattle.hitting.proofs.Halves.{within_trans, and_within_l, and_within_r, within_ones, within_same, and_clause, or_within, within_or_l, within_or_r}

-- the first n clauses lie within u
abbrev pub Hold : List ℕ → ℕ → ℕ → Type 0
Hold cs n u = (k : ℕ) → k < n → Within (get_or cs k 0) u

pub meets_within : (cs : List ℕ) (u x : ℕ) → Hold cs (length cs) u → Meets cs x → Meets cs (bit_and x u)
meets_within cs u x w m k h = rw (and_clause x u (get_or cs k 0) (w k h)) (m k h)

pub fewest_within : (cs : List ℕ) (u n x : ℕ) → Hold cs (length cs) u → ((z : ℕ) → ones z < n → Meets cs z → ⊥) → ones x ≡ n → Meets cs x → Within x u
fewest_within cs u n x w none e m =
    let a = and_within_l x u in
    let less : ones x ≤ ones (bit_and x u) → Within x u = within_same (bit_and x u) x a in
    elim (cases_lt (ones (bit_and x u)) n) [
      | inl lt ↦ absurd (none (bit_and x u) lt (meets_within cs u x w m))
      | inr ge ↦ less (omega arith)
    ]

-- what is gathered so far stays in what all clauses give
pub fold_keeps : (cs : List ℕ) (u : ℕ) → Within u (fold bit_or u cs)
fold_keeps [] u = and_self u
fold_keeps (c ∷ cs) u = within_trans u (bit_or u c) (fold bit_or u (c ∷ cs)) (within_or_l u c) (fold_keeps cs (bit_or u c))

pub fold_holds : (cs : List ℕ) (u : ℕ) → Hold cs (length cs) (fold bit_or u cs)
fold_holds [] u k h = absurd (omega arith)
fold_holds (c ∷ cs) u zero h = within_trans c (bit_or u c) (fold bit_or u (c ∷ cs)) (within_or_r u c) (fold_keeps cs (bit_or u c))
fold_holds (c ∷ cs) u (suc k) h = fold_holds cs (bit_or u c) k (omega arith)

pub fold_least : (cs : List ℕ) (u m : ℕ) → Within u m → Hold cs (length cs) m → Within (fold bit_or u cs) m
fold_least [] u m w h = w
fold_least (c ∷ cs) u m w h = fold_least cs (bit_or u c) m (or_within u c m w (h 0 (omega arith))) (λ k l. h (suc k) (omega arith))

pub fold_is_union : (cs : List ℕ) → Union cs (fold bit_or 0 cs)
fold_is_union cs =
    record { holds = fold_holds cs 0; least = λ m. fold_least cs 0 m refl; fewest = λ n x. fewest_within cs (fold bit_or 0 cs) n x (fold_holds cs 0) }

-- a set misses a clause or meets them all
pub misses_or_meets : (cs : List ℕ) (x : ℕ) → Misses cs x ⊎ Meets cs x
misses_or_meets [] x = inr (λ k h. absurd (omega arith))
misses_or_meets (c ∷ cs) x =
    elim (cases_eq (bit_and x c) 0) [
      | inl e ↦ inl (0, omega arith, e)
      | inr n ↦
          elim (misses_or_meets cs x) [
            | inl m ↦ let (k, h, e) = m in inl (suc k, omega arith, e)
            | inr m ↦ inr (λ k. elim k as (λ k. k < length (c ∷ cs) → 0 < bit_and x (get_or (c ∷ cs) k 0)) [ zero ↦ λ h. omega arith | suc k ↦ λ h. m k (omega arith) ])
          ]
    ]

pub misses_not_meets : (cs : List ℕ) (x : ℕ) → Misses cs x → Meets cs x → ⊥
misses_not_meets cs x (k, h, e) m = let p = m k h in omega arith

-- what misses a clause still does with more of them
pub misses_more : (cs ds : List ℕ) (x : ℕ) → Misses cs x → Misses (cs ++ ds) x
misses_more cs ds x (k, h, e) =
    let l = length-append cs ds in
    (k, omega arith, ap (bit_and x) (get_or_append_left cs ds 0 k h) ∙ e)

-- If no candidate within u has fewer than n bits, no set at all with fewer meets every clause; and then what no
-- candidate within u can be, no set can be that meets every clause with n bits.
pub none_fewer : (cs : List ℕ) (u n : ℕ) → Hold cs (length cs) u → ((j z : ℕ) → j < n → z ≤ u → Fails cs u j z) → (z : ℕ) → ones z < n → Meets cs z → ⊥
none_fewer cs u n w f z h m =
    let a = within_ones (bit_and z u) z (and_within_l z u) in
    misses_not_meets cs (bit_and z u)
    (f (ones (bit_and z u)) (bit_and z u) (omega arith) (and_le_r z u) (and_within_r z u) refl)
    (meets_within cs u z w m)

pub none_anywhere : (cs : List ℕ) (u n z : ℕ) → Hold cs (length cs) u → ((y : ℕ) → ones y < n → Meets cs y → ⊥) → Fails cs u n z → ones z ≡ n → Misses cs z
none_anywhere cs u n z w none f e =
    elim (misses_or_meets cs z) [
      | inl m ↦ m
      | inr m ↦ f (fewest_within cs u n z w none e m) e
    ]
