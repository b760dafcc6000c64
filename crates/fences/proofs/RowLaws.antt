-- Rows one by one: the row of state i, then those of the states behind it.
use Rattle.std.proofs.Common.{◌≡◌, ℕ, zero, suc, ◌+◌, ◌-◌, ◌*◌, ◌<◌, ◌≤◌, Bool, true, false, List, [], ◌∷◌, ◌++◌, length, take, drop, sym, refl, ap, ◌∙◌, subst, append_assoc, append-nil, mul-suc, add-one, arith, length-append}
use Rattle.std.proofs.lemmas.List.{drop-drop}
use Rattle.lent.specs.Records.{rec}
use Rattle.lent.proofs.RecordLaws.{length_rec}
use Rattle.model.specs.Code.{pick, Prog}
use Rattle.model.specs.Machine.{At, St, outcome, regs_of}
use Rattle.program.specs.declared.threads.Program.{Program}
use Rattle.program.specs.Meaning.{program}
use Rattle.model.proofs.Levels.{run_threads}
use Rattle.machine.specs.Packed.{Packs, WithinTs}
use Rattle.explore.specs.Found.{width, state, Explored}
use Rattle.explore.proofs.Edges.{words_within}
use Rattle.fences.specs.Listing.{Row, text}
use Rattle.fences.specs.Rows.{row_of, done_at, one_row, rows_from, Wrote}

-- a program's state has its words in the queue
pub words_of : (p : Program) (t : ℕ) → t ≡ length (program p) → 1 + 3 * t ≡ width (length (program p))
words_of p t e = ap (λ n. 1 + 3 * n) e

pub record_within : (p : Program) (t : ℕ) → t ≡ length (program p) → (q : List ℕ) (n i : ℕ) → i < n → n * width (length (program p)) ≤ length q → i * (1 + 3 * t) + (1 + 3 * t) ≤ length q
record_within p t count q n i h l =
    subst (λ w. i * w + w ≤ length q) (sym (words_of p t count)) (words_within i n n (width (length (program p))) (length q) h (omega arith) l)

pub record_is : (p : Program) (t : ℕ) → t ≡ length (program p) → (q r : List ℕ) (i : ℕ) → r ≡ rec q (1 + 3 * t) i → r ≡ rec q (width (length (program p))) i
record_is p t count q r i e = e ∙ ap (λ w. rec q w i) (words_of p t count)

pub record_long : (p : Program) (t : ℕ) → t ≡ length (program p) → (q r : List ℕ) (n i : ℕ) → i < n → n * width (length (program p)) ≤ length q → r ≡ rec q (1 + 3 * t) i → length r ≡ width (length (program p))
record_long p t count q r n i h l e =
    let w = width (length (program p)) in
    ap length (record_is p t count q r i e) ∙ length_rec q w i (words_within i n n w (length q) h (omega arith) l)

pub record_packs : (p : Program) (t : ℕ) → t ≡ length (program p) → (q g r : List ℕ) (n i : ℕ) → Explored (program p) q g n → i < n → r ≡ rec q (1 + 3 * t) i → Packs r (state (length (program p)) q i)
record_packs p t count q g r n i ex h e = subst (λ ws. Packs ws (state (length (program p)) q i)) (sym (record_is p t count q r i e)) (ex.found.good i h)

module _ (p : Prog) (q cost : List ℕ) where
  pub rows_step : (i n : ℕ) → i < n → rows_from p q cost i (n - i) ≡ pick (done_at p q i) (row_of p q cost i ∷ rows_from p q cost (i + 1) (n - (i + 1))) (rows_from p q cost (i + 1) (n - (i + 1)))
  rows_step i n h =
      let e : n - i ≡ suc (n - (i + 1)) = omega arith in
      ap (λ k. rows_from p q cost i k) e
      ∙ ap (λ j. pick (done_at p q i) (row_of p q cost i ∷ rows_from p q cost j (n - (i + 1))) (rows_from p q cost j (n - (i + 1)))) (sym (add-one i))

  counted : (b : Bool) (r : Row) (rs : List Row) → length (pick b (r ∷ rs) rs) ≡ pick b 1 0 + length rs
  counted true r rs = omega arith
  counted false r rs = omega arith

  pub count_more : (i n c all : ℕ) → i < n → done_at p q i ≡ true → c + length (rows_from p q cost i (n - i)) ≡ all → c + 1 + length (rows_from p q cost (i + 1) (n - (i + 1))) ≡ all
  count_more i n c all h d e =
      let a = ap length (rows_step i n h) ∙ counted (done_at p q i) (row_of p q cost i) (rows_from p q cost (i + 1) (n - (i + 1))) ∙ ap (λ (b : Bool). pick {A = ℕ} b 1 0 + length (rows_from p q cost (i + 1) (n - (i + 1)))) d in
      omega arith

  pub count_same : (i n c all : ℕ) → i < n → done_at p q i ≡ false → c + length (rows_from p q cost i (n - i)) ≡ all → c + length (rows_from p q cost (i + 1) (n - (i + 1))) ≡ all
  count_same i n c all h d e =
      let a = ap length (rows_step i n h) ∙ counted (done_at p q i) (row_of p q cost i) (rows_from p q cost (i + 1) (n - (i + 1))) ∙ ap (λ (b : Bool). pick {A = ℕ} b 1 0 + length (rows_from p q cost (i + 1) (n - (i + 1)))) d in
      omega arith

  text_pick : (b : Bool) (r : Row) (rs : List Row) → text (pick b (r ∷ rs) rs) ≡ text (pick b (r ∷ []) []) ++ text rs
  text_pick true r rs = ap (λ z. z ++ text rs) (sym (append-nil (r.once ∷ r.outcome)))
  text_pick false r rs = refl

  -- the text of the rows from i on, one state on
  pub text_step : (i n : ℕ) → i < n → text (rows_from p q cost i (n - i)) ≡ text (one_row p q cost i) ++ text (rows_from p q cost (i + 1) (n - (i + 1)))
  text_step i n h = ap text (rows_step i n h) ∙ text_pick (done_at p q i) (row_of p q cost i) (rows_from p q cost (i + 1) (n - (i + 1)))

-- how long an outcome is
length_regs : (as₁ : List At) → WithinTs as₁ → length (regs_of as₁) ≡ 4 * length as₁
length_regs [] h = refl
length_regs (a ∷ as₁) h =
    let e = length-append a.regs (regs_of as₁) in
    let f = h.0.four in
    let i = length_regs as₁ h.1 in
    omega arith

pub length_outcome : (ws : List ℕ) (s : St) → Packs ws s → length (outcome s) ≡ 8 + 4 * length s.threads
length_outcome ws s h =
    let e = length-append (regs_of s.threads) s.mem in
    let f = h.0.eight in
    let i = length_regs s.threads h.0.each in
    omega arith

-- a row that is not written, and one that is
pub wrote_none : (p : Prog) (q cost o : List ℕ) (i at : ℕ) → done_at p q i ≡ false → Wrote (text (one_row p q cost i)) o o at at
wrote_none p q cost o i at d =
    let e : text (one_row p q cost i) ≡ [] = ap (λ (b : Bool). text (pick b (row_of p q cost i ∷ []) [])) d in
    let l = ap length e in
    record { long = omega arith; written = sym (ap (λ ws. take at o ++ ws) e ∙ append-nil (take at o)); behind = refl }

pub wrote_one : (p : Prog) (q cost o o' : List ℕ) (i at end once : ℕ) → done_at p q i ≡ true → once ≡ (row_of p q cost i).once → end ≡ at + suc (length (outcome (state (length p) q i))) → take end o' ≡ take at o ++ (once ∷ outcome (state (length p) q i)) → drop end o' ≡ drop end o → Wrote (text (one_row p q cost i)) o o' at end
wrote_one p q cost o o' i at end once d b l w r =
    let e : text (one_row p q cost i) ≡ once ∷ outcome (state (length p) q i) =
    ap (λ (b : Bool). text (pick b (row_of p q cost i ∷ []) [])) d ∙ append-nil ((row_of p q cost i).once ∷ outcome (state (length p) q i)) ∙ ap (λ z. z ∷ outcome (state (length p) q i)) (sym b) in
    let k = ap length e in
    record { long = omega arith; written = w ∙ ap (λ ws. take at o ++ ws) (sym e); behind = r }

-- one row more
pub wrote_more : (p : Prog) (q cost o o₁ o₂ : List ℕ) (i n at end : ℕ) → i < n → take at o₁ ++ text (rows_from p q cost i (n - i)) ≡ text (rows_from p q cost 0 n) → Wrote (text (one_row p q cost i)) o₁ o₂ at end → take end o₂ ++ text (rows_from p q cost (i + 1) (n - (i + 1))) ≡ text (rows_from p q cost 0 n)
wrote_more p q cost o o₁ o₂ i n at end h e w =
    ap (λ z. z ++ text (rows_from p q cost (i + 1) (n - (i + 1)))) w.written
    ∙ append_assoc (take at o₁) (text (one_row p q cost i)) (text (rows_from p q cost (i + 1) (n - (i + 1))))
    ∙ ap (λ z. take at o₁ ++ z) (sym (text_step p q cost i n h))
    ∙ e

-- what lies behind all rows stays
pub behind_more : (o o₁ o₂ ws : List ℕ) (at end all : ℕ) → Wrote ws o₁ o₂ at end → end ≤ all → drop all o₁ ≡ drop all o → drop all o₂ ≡ drop all o
behind_more o o₁ o₂ ws at end all w h e =
    let s : all ≡ end + (all - end) = omega arith in
    let a : drop all o₂ ≡ drop all o₁ =
    ap (λ k. drop k o₂) s ∙ sym (drop-drop (all - end) end o₂) ∙ ap (drop (all - end)) w.behind ∙ drop-drop (all - end) end o₁ ∙ ap (λ k. drop k o₁) (sym s) in
    a ∙ e

pub length_one : (p : Prog) (q cost : List ℕ) (i : ℕ) → done_at p q i ≡ true → length (text (one_row p q cost i)) ≡ suc (length (outcome (state (length p) q i)))
length_one p q cost i d =
    ap (λ (b : Bool). length (text (pick b (row_of p q cost i ∷ []) []))) d ∙ ap length (append-nil ((row_of p q cost i).once ∷ outcome (state (length p) q i)))

-- an outcome of a state found
pub length_found : (p : Program) (t : ℕ) → t ≡ length (program p) → (q g : List ℕ) (n i : ℕ) → Explored (program p) q g n → i < n → length (outcome (state (length (program p)) q i)) ≡ 8 + 4 * t
length_found p t count q g n i ex h =
    let (ms, r) = ex.found.come i h in
    let l = run_threads (program p) ms (state (length (program p)) q i) r in
    let e = length_outcome (rec q (width (length (program p))) i) (state (length (program p)) q i) (ex.found.good i h) in
    omega arith

length_rows : (p : Program) (t : ℕ) → t ≡ length (program p) → (q g cost : List ℕ) (n k i : ℕ) → Explored (program p) q g n → i + k ≤ n → length (text (rows_from (program p) q cost i k)) ≡ (9 + 4 * t) * length (rows_from (program p) q cost i k)
length_rows p t count q g cost n zero i ex h = omega arith
length_rows p t count q g cost n (suc k) i ex h =
    let rest = length_rows p t count q g cost n k (suc i) ex (omega arith) in
    by_row (done_at (program p) q i) (row_of (program p) q cost i) (rows_from (program p) q cost (suc i) k) (length_found p t count q g n i ex (omega arith)) rest
  where
    by_row : (b : Bool) (r : Row) (rs : List Row) → length r.outcome ≡ 8 + 4 * t → length (text rs) ≡ (9 + 4 * t) * length rs → length (text (pick b (r ∷ rs) rs)) ≡ (9 + 4 * t) * length (pick b (r ∷ rs) rs)
    by_row true r rs l e = let a = length-append (r.once ∷ r.outcome) (text rs) in let m = mul-suc (9 + 4 * t) (length rs) in omega arith
    by_row false r rs l e = e

-- how many words all rows take
pub length_all : (p : Program) (t : ℕ) → t ≡ length (program p) → (q g cost : List ℕ) (n : ℕ) → Explored (program p) q g n → length (text (rows_from (program p) q cost 0 n)) ≡ (9 + 4 * t) * length (rows_from (program p) q cost 0 n)
length_all p t count q g cost n ex = length_rows p t count q g cost n n 0 ex (omega arith)
