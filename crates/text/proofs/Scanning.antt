-- A text cut into tokens, one token after another.
use Rattle.std.proofs.Common.{◌≡◌, ℕ, zero, suc, ◌<◌, Bool, true, false, List, [], ◌∷◌, ◌++◌, take, drop, sym, refl, ap, ◌∙◌, subst, append_assoc, append-nil, arith}
use mathlib.Core.Option.{Option, some, none}
use Rattle.std.proofs.lemmas.Bool.Decides.{nat_tests}
use Rattle.model.specs.Code.{opt}
use Rattle.text.specs.Bytes.{Word, letter, blank, run, Scan, ended, scan, tokens_on}
use Rattle.text.specs.Kinds.{FirstToken}
use Rattle.text.proofs.Picks.{pick_true, pick_false, opt_is}
use Rattle.text.proofs.Runs.{run_on, run_off, run_le, Stops, run_stops}

abbrev pub at : List Word → Word → Scan
at ts w = record { found = ts; begun = w }

pub step : (s t : Scan) (b : ℕ) (bs : List ℕ) → scan s b ≡ some t → tokens_on s (b ∷ bs) ≡ tokens_on t bs
step s t b bs e = opt_is none (λ (s : Scan). tokens_on s bs) e

pub scan_letter : (s : Scan) (b : ℕ) → letter b ≡ true → scan s b ≡ some (at s.found (s.begun ++ b ∷ []))
scan_letter s b e = pick_true _ _ e

pub scan_blank : (s : Scan) (b : ℕ) → letter b ≡ false → blank b ≡ true → scan s b ≡ some (at (ended s.found s.begun) [])
scan_blank s b e f = pick_false _ _ e ∙ pick_true _ _ f

blank_no_letter : (b : ℕ) → blank b ≡ true → letter b ≡ false
blank_no_letter b e = grind (arith, nat_tests)

-- blanks between tokens say nothing
pub pass_blank : (ts : List Word) (b : ℕ) (bs : List ℕ) → blank b ≡ true → tokens_on (at ts []) (b ∷ bs) ≡ tokens_on (at ts []) bs
pass_blank ts b bs e = step (at ts []) (at ts []) b bs (scan_blank (at ts []) b (blank_no_letter b e) e)

-- the letters at the front go to the word that has begun
pub take_letters : (ts : List Word) (w bs : List ℕ) → tokens_on (at ts w) bs ≡ tokens_on (at ts (w ++ take (run letter bs) bs)) (drop (run letter bs) bs)
take_letters ts w [] = ap (λ (v : Word). tokens_on (at ts v) []) (sym (append-nil w))
take_letters ts w (b ∷ bs) = go (letter b) refl (take_letters ts (w ++ b ∷ []) bs)
  where
    Goal : ℕ → Type 0
    Goal n = tokens_on (at ts w) (b ∷ bs) ≡ tokens_on (at ts (w ++ take n (b ∷ bs))) (drop n (b ∷ bs))

    go : (t : Bool) → letter b ≡ t → tokens_on (at ts (w ++ b ∷ [])) bs ≡ tokens_on (at ts ((w ++ b ∷ []) ++ take (run letter bs) bs)) (drop (run letter bs) bs) → tokens_on (at ts w) (b ∷ bs) ≡ tokens_on (at ts (w ++ take (run letter (b ∷ bs)) (b ∷ bs))) (drop (run letter (b ∷ bs)) (b ∷ bs))
    go true e ih =
        subst (λ (n : ℕ). tokens_on (at ts w) (b ∷ bs) ≡ tokens_on (at ts (w ++ take n (b ∷ bs))) (drop n (b ∷ bs))) (sym (run_on letter b bs e))
        (step (at ts w) (at ts (w ++ b ∷ [])) b bs (scan_letter (at ts w) b e) ∙ ih
        ∙ ap (λ (v : Word). tokens_on (at ts v) (drop (run letter bs) bs)) (append_assoc w (b ∷ []) (take (run letter bs) bs)))
    go false e ih =
        subst (λ (n : ℕ). tokens_on (at ts w) (b ∷ bs) ≡ tokens_on (at ts (w ++ take n (b ∷ bs))) (drop n (b ∷ bs))) (sym (run_off letter b bs e))
        (ap (λ (v : Word). tokens_on (at ts v) (b ∷ bs)) (sym (append-nil w)))

-- a word that has begun ends where no letter follows
pub end_word : (ts : List Word) (c : ℕ) (w bs : List ℕ) → Stops letter bs → tokens_on (at ts (c ∷ w)) bs ≡ tokens_on (at (ts ++ (c ∷ w) ∷ []) []) bs
end_word ts c w [] h = refl
end_word ts c w (b ∷ bs) h = ap (λ (z : Option Scan). opt z none (λ (s : Scan). tokens_on s bs)) (pick_false _ _ h ∙ sym (pick_false _ _ h))

pub first_word : (bs : List ℕ) → 0 < run letter bs → FirstToken bs (run letter bs)
first_word bs h = record {
  within = run_le letter bs;
  refused = λ z l e ts. absurd (omega arith);
  cut = λ _ ts. take_letters ts [] bs ∙ ended_by (take (run letter bs) bs) refl ts;
}
  where
    long : (b : ℕ) (cs : List ℕ) (n : ℕ) → 0 < n → take n (b ∷ cs) ≡ [] → ⊥
    long b cs zero l e = omega arith
    long b cs (suc n) l e = let z : ◌≡◌ {A = ℕ} 0 1 = cc in omega arith

    nothing : (cs : List ℕ) → 0 < run letter cs → take (run letter cs) cs ≡ [] → ⊥
    nothing [] l e = omega arith
    nothing (b ∷ cs) l e = long b cs (run letter (b ∷ cs)) l e

    ended_by : (w : List ℕ) → take (run letter bs) bs ≡ w → (ts : List Word) → tokens_on (at ts w) (drop (run letter bs) bs) ≡ tokens_on (at (ts ++ w ∷ []) []) (drop (run letter bs) bs)
    ended_by [] e ts = absurd (nothing bs h e)
    ended_by (c ∷ w) e ts = end_word ts c w (drop (run letter bs) bs) (run_stops letter bs)
