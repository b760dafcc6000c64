-- What callers show: that the edges of a rule lead ahead, and that a search left what reading a walk back asks for.
use Rattle.std.proofs.Common.{◌≡◌, ℕ, zero, suc, ◌+◌, ◌*◌, ◌^◌, ◌<◌, ◌≤◌, List, length, refl, arith}
use Rattle.std.proofs.lemmas.Nat.{mul-add-lt}
use Rattle.graph.specs.Rules.{kept, Keeps, later, onward, joined, Joins, Ahead}
use Rattle.graph.specs.Search.{Marked, Searched}
use Rattle.graph.specs.Back.{Traced}

pub kept_ahead : (edges : List ℕ) (width moves n : ℕ) → moves ≤ width → width * n ≤ length edges → ((i m j : ℕ) → i < n → m < moves → kept edges width i m ≡ suc j → (i < j) × (j < n)) → Ahead (Keeps edges width) (kept edges width) moves n
kept_ahead edges width moves n fits room leads =
    record {
      may = λ i m h l. let b = mul-add-lt i width m n h (omega arith) in omega arith;
      up = λ i m j h l e. (leads i m j h l e).0;
      within = λ i m j h l e. (leads i m j h l e).1;
    }

-- where both edges of a joined edge lead ahead, so does it
module _ (can : ℕ → ℕ → Type 0) (next : ℕ → ℕ → ℕ) (all moves shift n : ℕ) (fits : moves + shift ≤ all) (a : Ahead can next all n) where
  later_ahead : (i j t k : ℕ) → i < j → j < n → ((l : ℕ) → t ≡ suc l → (j < l) × (l < n)) → later (suc j) t ≡ suc k → (i < k) × (k < n)
  later_ahead i j zero k h w two e = (omega arith, omega arith)
  later_ahead i j (suc l) k h w two e = let u = (two l refl).0 in let v = (two l refl).1 in (omega arith, omega arith)

  onward_ahead : (i m t k : ℕ) → i < n → m < moves → next i m ≡ t → onward (λ j. next j (m + shift)) t ≡ suc k → (i < k) × (k < n)
  onward_ahead i m zero k h l is e = absurd (omega arith)
  onward_ahead i m (suc j) k h l is e =
      let u = a.up i m j h (omega arith) is in
      let w = a.within i m j h (omega arith) is in
      later_ahead i j (next j (m + shift)) k u w (λ x y. (a.up j (m + shift) x w (omega arith) y, a.within j (m + shift) x w (omega arith) y)) e

  pub joined_ahead : all < 2 ^ 64 → Ahead (Joins can next shift) (joined next shift) moves n
  joined_ahead small =
      record {
        may =
            λ i m h l.
            record {
              first = a.may i m h (omega arith);
              second = λ j e. a.may j (m + shift) (a.within i m j h (omega arith) e) (omega arith);
              fits = omega arith;
            };
        up = λ i m k h l e. (onward_ahead i m (next i m) k h l refl e).0;
        within = λ i m k h l e. (onward_ahead i m (next i m) k h l refl e).1;
      }

pub traced_from : (can : ℕ → ℕ → Type 0) (next : ℕ → ℕ → ℕ) (moves n : ℕ) (cost from : List ℕ) (to : ℕ) → Ahead can next moves n → n ≤ length from → Searched next moves n cost from → to < n → Marked cost to → Traced can next moves from to
traced_from can next moves n cost from to a room s h m =
    record { n = n; cost = cost; may = a.may; linked = s.linked; room = room; within = h; marked = m }
