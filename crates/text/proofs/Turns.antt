-- The first piece of a text cut off.
use Rattle.std.proofs.Common.{◌≡◌, ℕ, ◌+◌, ◌<◌, ◌≤◌, ◌⊎◌, List, [], ◌∷◌, length, take, drop, Some, None, Bor, sym, ap, ◌∙◌, subst, ⊎_elim, arith}
use Rattle.std.specs.Option.{MatchOption}
use Rattle.std.specs.List.{slice_range}
use Rattle.std.specs.declared.option.Option as std
use Rattle.std.proofs.lemmas.List.{take_all, take_rest}
use Rattle.text.specs.Bytes.{run, but, pieces}
use Rattle.text.specs.Kinds.{pieces_in}
use Rattle.text.proofs.Runs.{pieces_cut, pieces_last}

-- the first piece, where the search for what stands behind it gave o
pub piece_off : (s : ℕ) (bs : List ℕ) (n : ℕ) (o : std.Option (Bor (List ℕ))) → n ≡ run (but s) bs → MatchOption o ((length bs < n + 1) ⊎ (length bs < length bs)) (λ x. (n + 1 ≤ length bs) × (length bs ≤ length bs) × (x.now ≡ slice_range bs (n + 1) (length bs)) × (length x.now + (n + 1) ≡ length bs)) → pieces s bs ≡ take n bs ∷ pieces_in s o
piece_off s bs n None e h =
    let l : length bs ≤ n = ⊎_elim (λ l. omega arith) (λ l. absurd (omega arith)) h in
    pieces_last s bs (subst (λ (m : ℕ). length bs ≤ m) e l) ∙ ap (λ (p : List ℕ). p ∷ []) (sym (take_all n bs l))
piece_off s bs n (Some x) e h =
    let l : n < length bs = omega (arith, h.0) in
    pieces_cut s bs (subst (λ (m : ℕ). m < length bs) e l)
    ∙ ap (λ (m : ℕ). take m bs ∷ pieces s (drop (m + 1) bs)) (sym e)
    ∙ ap (λ (cs : List ℕ). take n bs ∷ pieces s cs) (sym (h.2 ∙ take_rest bs (n + 1)))
