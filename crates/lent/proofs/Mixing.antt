-- The hash, one pair of words after the other.
use Rattle.std.proofs.Common.{◌≡◌, ℕ, ◌+◌, ◌-◌, ◌/◌, ◌^◌, ◌<◌, ◌≤◌, List, [], ◌∷◌, length, get_or, take, drop, ap, ◌∙◌, arith}
use Rattle.std.proofs.lemmas.List.{take_rest}
use Rattle.std.proofs.lemmas.Nat.{shr_below}
use Rattle.lent.specs.Hash.{stir, hash_from}

-- two words are stirred in, and the words behind them are left
pub hash_more : (ws : List ℕ) (h h' : ℕ) → 2 ≤ length ws → h' ≡ stir h (get_or ws 0 0) (get_or ws 1 0) → hash_from h' (take (length ws - 2) (drop 2 ws)) ≡ hash_from h ws
hash_more [] h h' l e = absurd (omega arith)
hash_more (a ∷ []) h h' l e = absurd (omega arith)
hash_more (a ∷ b ∷ ws) h h' l e = ap (hash_from h') (take_rest (a ∷ b ∷ ws) 2) ∙ ap (λ x. hash_from x ws) e

-- the highest b bits of a hash
pub high_below : (h b : ℕ) → h < 2 ^ 64 → b ≤ 64 → h / 2 ^ (64 - b) < 2 ^ b
high_below h b l m =
    let e : b + (64 - b) ≡ 64 = omega arith in
    shr_below h b (64 - b) (rw e l)
