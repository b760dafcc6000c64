-- The whole list: what is written is all outcomes, and so many states are all states.
use Rattle.std.proofs.Common.{◌≡◌, ℕ, ◌+◌, ◌*◌, ◌/◌, ◌<◌, ◌≤◌, List, length, sym, refl, ap, ◌∙◌, subst, inl, inr, mul-le-mul_left, arith, Ok, Err}
use Rattle.std.proofs.lemmas.Bool.{cases_lt}
use Rattle.std.proofs.lemmas.Nat.{div-add-mod', le-div}
use Rattle.model.specs.Code.{Prog}
use Rattle.model.specs.Machine.{St}
use Rattle.program.specs.declared.threads.Program.{Program}
use Rattle.program.specs.Meaning.{program}
use Rattle.explore.specs.Found.{Explored, Among}
use Rattle.explore.proofs.Finding.{listed, length_listed, different, come_to, listed_among}
use Rattle.fences.specs.Listing.{text}
use Rattle.fences.specs.Rows.{rows_from}
use Rattle.fences.specs.declared.refusals.Refusal.{Refusal}
use Rattle.fences.specs.declared.refusals.Refusal.TheVariants as refusal
use Rattle.fences.specs.Finding.{Admitted, FoundIn}
use Rattle.fences.specs.Says.{Listed, States, ListedFound, ListedSays, ListedPost}
use Rattle.model.specs.Code.{Reads}
use Rattle.model.proofs.Theorems.{theorems}
use Rattle.fences.proofs.RowLaws.{length_all}

pub all_states : (p : Prog) (q g : List ℕ) (n : ℕ) → Explored p q g n → States p n
all_states p q g n ex = (
  listed (length p) q n,
  come_to p q n n ex.found (omega arith),
  different p q n n ex.found (omega arith),
  (λ ms s r. let (i, h, e) = ex.all ms s r in subst (λ (z : St). Among z (listed (length p) q n)) e (listed_among (length p) q n i h)),
  sym (length_listed (length p) q n),
)

-- the rows fit, or they don't
pub rows_fit : (p : Program) (t : ℕ) → t ≡ length (program p) → (q g cost : List ℕ) (n k len : ℕ) → Explored (program p) q g n → k ≡ length (rows_from (program p) q cost 0 n) → k ≤ len / (9 + 4 * t) → length (text (rows_from (program p) q cost 0 n)) ≤ len
rows_fit p t count q g cost n k len ex e h =
    let w = 9 + 4 * t in
    let a = length_all p t count q g cost n ex in
    let b = div-add-mod' len w in
    let m = mul-le-mul_left w h in
    let r : w * length (rows_from (program p) q cost 0 n) ≡ w * k = ap (λ z. w * z) (sym e) in
    let c : w * (len / w) ≡ len / w * w = omega arith in
    omega arith

pub rows_too_long : (p : Program) (t : ℕ) → t ≡ length (program p) → (q g cost : List ℕ) (n k len : ℕ) → Explored (program p) q g n → k ≡ length (rows_from (program p) q cost 0 n) → len / (9 + 4 * t) < k → len < length (text (rows_from (program p) q cost 0 n))
rows_too_long p t count q g cost n k len ex e h =
    let w = 9 + 4 * t in
    let L = length (text (rows_from (program p) q cost 0 n)) in
    let a = length_all p t count q g cost n ex in
    let r : w * length (rows_from (program p) q cost 0 n) ≡ k * w = ap (λ z. w * z) (sym e) ∙ swap w k in
    elim_lt len L (λ l. let y = le-div k len w (omega arith) (omega arith) in omega arith)
  where
    swap : (a b : ℕ) → a * b ≡ b * a
    swap a b = omega arith

    elim_lt : (a b : ℕ) → (b ≤ a → ⊥) → a < b
    elim_lt a b f = elim (cases_lt a b) [ inl l ↦ l | inr g ↦ absurd (f g) ]

-- what is said of the program is said of the words
listed_says : (s : List ℕ) (most : ℕ) (o o' : List ℕ) (p : Prog) (r : Listed) → Reads s p → ListedFound p o o' r → ListedSays s most o o' r
listed_says s most o o' p (Ok l) h (rs, a, b, c, d, e) = (p, rs, h, a, b, c, d, e)
listed_says s most o o' p (Err refusal.OutFull) h (rs, a, b, c) = (p, rs, h, a, b, c)
listed_says s most o o' p (Err refusal.Crowded) h z = absurd z
listed_says s most o o' p (Err refusal.NoProgram) h z = absurd z
listed_says s most o o' p (Err refusal.Few) h z = absurd z

pub listed_post : (s : List ℕ) (most w : ℕ) (o o' : List ℕ) (p : Prog) (r : Listed) → Reads s p → 65536 + 128 * (most + 1) ≤ w → ListedFound p o o' r → ListedPost s most w o o' r
listed_post s most w o o' p r h l z =
    record {
      says = listed_says s most o o' p r h z;
      theorems = theorems;
      few = ((λ k. absurd (omega arith)), (λ e. absurd (subst (λ (x : Listed). ListedFound p o o' x) e z)));
    }

-- where the words are refused, or the states are too many
pub refused_post : (s : List ℕ) (most w : ℕ) (o : List ℕ) (e : Refusal) → Admitted s most w (Err e) → ListedPost s most w o o (Err e)
refused_post s most w o refusal.NoProgram h = record { says = (h.0, refl); theorems = theorems; few = ((λ k. let l = h.1 in absurd (omega arith)), (λ e. let z : ◌≡◌ {A = ℕ} 0 1 = cc in absurd (omega arith))) }
refused_post s most w o refusal.Few h = record { says = refl; theorems = theorems; few = ((λ k. refl), (λ e. h)) }
refused_post s most w o refusal.Crowded h = absurd h
refused_post s most w o refusal.OutFull h = absurd h

pub crowded_post : (s : List ℕ) (most w : ℕ) (o : List ℕ) (p : Prog) (e : Refusal) → Reads s p → most < 4294967296 → 65536 + 128 * (most + 1) ≤ w → FoundIn p w (Err e) → ListedPost s most w o o (Err e)
crowded_post s most w o p refusal.Crowded h m l f =
    record { says = (p, h, f most m l, refl); theorems = theorems; few = ((λ k. absurd (omega arith)), (λ e. let z : ◌≡◌ {A = ℕ} 0 1 = cc in absurd (omega arith))) }
crowded_post s most w o p refusal.NoProgram h m l f = absurd f
crowded_post s most w o p refusal.Few h m l f = absurd f
crowded_post s most w o p refusal.OutFull h m l f = absurd f
