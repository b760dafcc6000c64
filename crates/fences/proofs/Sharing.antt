-- Sharing lent words out: each state takes its words, its edges' words, and three for the table.
use Rattle.std.proofs.Common.{ℕ, ◌+◌, ◌-◌, ◌*◌, ◌/◌, ◌<◌, ◌≤◌, mul-le-mul_right, mul-le-mul_left, arith}
use Rattle.std.proofs.lemmas.Nat.{div-add-mod', le-div}
use Rattle.model.specs.Code.{Prog}
use Rattle.explore.specs.Found.{Crowded}
use Rattle.fences.specs.Sizes.{Shares}

-- so many words for each state
pub shares : (n words limit : ℕ) → n ≤ 4 → 65536 ≤ words → limit * (5 * n + 4) ≤ words - 8192 → 0 < limit → limit < 4294967296 → ((m : ℕ) → m < 4294967296 → 65536 + 128 * (m + 1) ≤ words → m ≤ limit) → Shares n words limit
shares n words limit few lent h some told most = record { some_fit = some; told = told; most = most; fits = omega arith }

fits_at_least : (n words : ℕ) → n ≤ 4 → (m : ℕ) → 65536 + 128 * (m + 1) ≤ words → m ≤ (words - 8192) / (5 * n + 4)
fits_at_least n words few m h =
    let k : 5 * n + 4 ≤ 24 = omega arith in
    let a = mul-le-mul_left m k in
    le-div m (words - 8192) (5 * n + 4) (omega arith) (omega arith)

-- as many as fit
pub shares_all : (n words : ℕ) → n ≤ 4 → 65536 ≤ words → (words - 8192) / (5 * n + 4) < 4294967295 → Shares n words ((words - 8192) / (5 * n + 4))
shares_all n words few lent h =
    let q = (words - 8192) / (5 * n + 4) in
    let a = div-add-mod' (words - 8192) (5 * n + 4) in
    let b = le-div 1 (words - 8192) (5 * n + 4) (omega arith) (omega arith) in
    shares n words q few lent (omega arith) (omega arith) (omega arith) (λ m s l. fits_at_least n words few m l)

-- where more states fit than a u32 can count, as many as it can
pub shares_most : (n words : ℕ) → n ≤ 4 → 65536 ≤ words → 4294967295 ≤ (words - 8192) / (5 * n + 4) → Shares n words 4294967295
shares_most n words few lent h =
    let q = (words - 8192) / (5 * n + 4) in
    let a = div-add-mod' (words - 8192) (5 * n + 4) in
    let b = mul-le-mul_right (5 * n + 4) h in
    shares n words 4294967295 few lent (omega arith) (omega arith) (omega arith) (λ m s l. omega arith)

-- more states than fit are more than were allowed
pub crowded_too : (p : Prog) (limit m : ℕ) → m ≤ limit → Crowded p limit → Crowded p m
crowded_too p limit m h c = let (q, a, d, l) = c in (q, a, d, omega arith)
