-- The answer of 'look', from what is said of the program to what is said of the words.
use Rattle.std.proofs.Common.{◌≡◌, ℕ, zero, suc, ◌+◌, ◌-◌, ◌*◌, ◌<◌, ◌≤◌, List, [], ◌∷◌, ◌++◌, map, length, get_or, take, drop, sym, refl, ap, ◌∙◌, subst, arith, Ok, Err}
use Rattle.std.proofs.lemmas.List.{length-take-le, length-map}
use Rattle.report.proofs.Written.{drop_further}
use Rattle.explore.specs.Found.{move_of}
use Rattle.fences.specs.Told.{text_ms}
use Rattle.fences.specs.Looks.{AllBelow}
use Rattle.model.specs.Code.{Prog, Reads}
use Rattle.model.proofs.Theorems.{theorems}
use Rattle.fences.specs.declared.looking.Verdict.TheVariants as verdict
use Rattle.fences.specs.declared.refusals.Refusal.{Refusal}
use Rattle.fences.specs.declared.refusals.Refusal.TheVariants as refusal
use Rattle.fences.specs.Finding.{Admitted, FoundIn}
use Rattle.fences.specs.Answers.{Looked, LookedFound, LookedSays, LookedPost}

looked_says : (s : List ℕ) (most : ℕ) (o o' : List ℕ) (p : Prog) (r : Looked) → Reads s p → LookedFound p o o' r → LookedSays s most o o' r
looked_says s most o o' p (Ok verdict.Plain) h z = (p, h, z.0, z.1)
looked_says s most o o' p (Ok (verdict.Fences m k)) h z = (p, z.0, z.1, h, z.2, z.3, z.4, z.5, z.6, z.7)
looked_says s most o o' p (Err refusal.OutFull) h z = (p, z.0, h, z.1, z.2, z.3)
looked_says s most o o' p (Err refusal.Crowded) h z = absurd z
looked_says s most o o' p (Err refusal.NoProgram) h z = absurd z
looked_says s most o o' p (Err refusal.Few) h z = absurd z

pub looked_post : (s : List ℕ) (most w : ℕ) (o o' : List ℕ) (p : Prog) (r : Looked) → Reads s p → 65536 + 128 * (most + 1) ≤ w → LookedFound p o o' r → LookedPost s most w o o' r
looked_post s most w o o' p r h l z =
    record {
      says = looked_says s most o o' p r h z;
      theorems = theorems;
      few = ((λ k. absurd (omega arith)), (λ e. absurd (subst (λ (x : Looked). LookedFound p o o' x) e z)));
    }

-- where the words are refused, or the states are too many
pub refused_post : (s : List ℕ) (most w : ℕ) (o : List ℕ) (e : Refusal) → Admitted s most w (Err e) → LookedPost s most w o o (Err e)
refused_post s most w o refusal.NoProgram h = record { says = (h.0, refl); theorems = theorems; few = ((λ k. let l = h.1 in absurd (omega arith)), (λ e. let z : ◌≡◌ {A = ℕ} 0 1 = cc in absurd (omega arith))) }
refused_post s most w o refusal.Few h = record { says = refl; theorems = theorems; few = ((λ k. refl), (λ e. h)) }
refused_post s most w o refusal.Crowded h = absurd h
refused_post s most w o refusal.OutFull h = absurd h

pub crowded_post : (s : List ℕ) (most w : ℕ) (o : List ℕ) (p : Prog) (e : Refusal) → Reads s p → most < 4294967296 → 65536 + 128 * (most + 1) ≤ w → FoundIn p w (Err e) → LookedPost s most w o o (Err e)
crowded_post s most w o p refusal.Crowded h m l f =
    record { says = (let (q, a, d, n) = f most m l in (p, q, h, a, d, n, refl)); theorems = theorems; few = ((λ k. absurd (omega arith)), (λ e. let z : ◌≡◌ {A = ℕ} 0 1 = cc in absurd (omega arith))) }
crowded_post s most w o p refusal.NoProgram h m l f = absurd f
crowded_post s most w o p refusal.Few h m l f = absurd f
crowded_post s most w o p refusal.OutFull h m l f = absurd f

-- the moves of a run, as the code cuts them out
cut : (m : ℕ) (path : List ℕ) → take (m - 0) path ≡ take m path
cut m path = let e : m - 0 ≡ m = omega arith in ap (λ (k : ℕ). take k path) e

pub below_at : (n : ℕ) (xs : List ℕ) → AllBelow n xs → (k : ℕ) → k < length xs → get_or xs k 0 < n
below_at n [] h k l = absurd (omega arith)
below_at n (x ∷ xs) h zero l = h.0
below_at n (x ∷ xs) h (suc k) l = below_at n xs h.1 k (omega arith)

pub cut_below : (n n' m : ℕ) (path : List ℕ) → n ≡ n' → AllBelow n (take m path) → (k : ℕ) → k < length (take (m - 0) path) → get_or (take (m - 0) path) k 0 < n'
cut_below n n' m path e h = subst (λ (xs : List ℕ). (k : ℕ) → k < length xs → get_or xs k 0 < n') (sym (cut m path)) (subst (λ (z : ℕ). (k : ℕ) → k < length (take m path) → get_or (take m path) k 0 < z) e (below_at n (take m path) h))

pub cut_length : (m : ℕ) (path : List ℕ) → m ≤ length path → length (take (m - 0) path) ≡ m
cut_length m path h = ap length (cut m path) ∙ length-take-le m path h

pub run_length : (t m : ℕ) (path : List ℕ) → m ≤ length path → m ≡ length (map (move_of t) (take m path))
run_length t m path h = sym (length-map (take m path) (move_of t) ∙ length-take-le m path h)

-- the moves and the fences written
pub all_written : (n t m k : ℕ) (path o o₁ o₂ ws : List ℕ) → n ≡ t → m ≤ length path → take (length (take (m - 0) path)) o₁ ≡ text_ms (map (move_of n) (take (m - 0) path)) → take (m + 2 * k) o₂ ≡ take m o₁ ++ ws → take (m + 2 * k) o₂ ≡ text_ms (map (move_of t) (take m path)) ++ ws
all_written n t m k path o o₁ o₂ ws e h a b =
    let moves : take m o₁ ≡ text_ms (map (move_of t) (take m path)) =
    ap (λ (z : ℕ). take z o₁) (sym (cut_length m path h)) ∙ a ∙ ap (λ (xs : List ℕ). text_ms (map (move_of n) xs)) (cut m path) ∙ ap (λ (z : ℕ). text_ms (map (move_of z) (take m path))) e in
    b ∙ ap (λ (z : List ℕ). z ++ ws) moves

pub rest_kept : (m k : ℕ) (path o o₁ o₂ : List ℕ) → m ≤ length path → drop (length (take (m - 0) path)) o₁ ≡ drop (length (take (m - 0) path)) o → drop (m + 2 * k) o₂ ≡ drop (m + 2 * k) o₁ → drop (m + 2 * k) o₂ ≡ drop (m + 2 * k) o
rest_kept m k path o o₁ o₂ h a b = b ∙ drop_further m (m + 2 * k) o₁ o (omega arith) (subst (λ (z : ℕ). drop z o₁ ≡ drop z o) (cut_length m path h) a)
