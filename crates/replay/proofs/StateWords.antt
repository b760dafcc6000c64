-- The words of a state, which are the first of thirteen.
use Rattle.std.proofs.Common.{◌≡◌, ℕ, suc, ◌+◌, ◌-◌, ◌*◌, ◌<◌, ◌≤◌, List, ◌∷◌, length, get_or, take, sym, ap, ◌∙◌, arith}
use borrow.Rule.Slice.PartMut.{mid_of, put_mid}
use Rattle.std.proofs.lemmas.List.{length-take-le, get_or-take, get_or_past}
use Rattle.std.proofs.lemmas.Slice.{take-put_mid}
use Rattle.model.specs.Machine.{St, outcome}
use Rattle.program.specs.Meaning.{program}
use Rattle.replay.specs.declared.runs.Run.{Run}
use Rattle.replay.specs.Post.{state}

-- `&words[0..n]`
pub part_is : (n : ℕ) (ws : List ℕ) → mid_of 0 (n - 0) ws ≡ take n ws
part_is n ws = let e : n - 0 ≡ n = omega arith in ap (λ (k : ℕ). take k ws) e

pub state_is : (r : Run) (c : ℕ) → c ≡ length (program r.p) → mid_of 0 (1 + 3 * c - 0) r.words ≡ state r
state_is r c e = part_is (1 + 3 * c) r.words ∙ ap (λ (k : ℕ). take (1 + 3 * k) r.words) e

pub part_long : (c : ℕ) (ws : List ℕ) → length ws ≡ 13 → c ≤ 4 → length (take (1 + 3 * c) ws) ≡ 1 + 3 * c
part_long c ws l h = length-take-le (1 + 3 * c) ws (omega arith)

-- what was written to `&mut words[0..n]`
pub written_is : (n : ℕ) (ws ys : List ℕ) → length ys ≡ n → take n (put_mid 0 (n - 0) ws ys) ≡ ys
written_is n ws ys e = take-put_mid 0 (n - 0) ws ys n (omega arith) (omega arith)

-- an outcome, written behind one word
pub outcome_long : (c : ℕ) (o : List ℕ) (s : St) → length o ≡ 25 → c ≤ 4 → take (0 + (9 + 4 * c)) o ≡ 0 ∷ outcome s → length (outcome s) ≡ 8 + 4 * c
outcome_long c o s l h e =
    let a = ap length e in
    let b = length-take-le (0 + (9 + 4 * c)) o (omega arith) in
    omega arith

pub value_past : (c at : ℕ) (o : List ℕ) (s : St) → length o ≡ 25 → c ≤ 4 → 8 + 4 * c ≤ at → take (0 + (9 + 4 * c)) o ≡ 0 ∷ outcome s → 0 ≡ get_or (outcome s) at 0
value_past c at o s l h b e = let a = outcome_long c o s l h e in sym (get_or_past (outcome s) at 0 (omega arith))

pub value_is : (c at : ℕ) (o : List ℕ) (s : St) → at < 8 + 4 * c → take (0 + (9 + 4 * c)) o ≡ 0 ∷ outcome s → get_or o (at + 1) 0 ≡ get_or (outcome s) at 0
value_is c at o s b e =
    let g : at + 1 ≡ suc at = omega arith in
    sym (get_or-take (0 + (9 + 4 * c)) o (at + 1) 0 (omega arith)) ∙ ap (λ (z : List ℕ). get_or z (at + 1) 0) e ∙ ap (λ (k : ℕ). get_or (0 ∷ outcome s) k 0) g
