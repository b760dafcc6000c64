-- Reading a program from the words a, of which w is the first and s are the others. Of the words s those of the threads
-- that are read are gone, and 'rest' is left; and of every program that the words a are, the threads not yet read are the
-- words that are left. So where reading a thread stops there is none, and what is read is the one.
use Rattle.std.proofs.Common.{◌≡◌, ℕ, zero, suc, ◌+◌, ◌<◌, ◌≤◌, ◌&&◌, true, T, leb, List, [], ◌∷◌, ◌++◌, map, length, drop, sym, refl, ap, ◌∙◌, subst, append_assoc, append-nil, add-one, arith, le→leb, leb→le}
use Rattle.std.proofs.lemmas.List.{drop_at, drop_all, length-map, map_push}
use Rattle.model.specs.Code.{Prog, ok, ok_t, ok_ts, row, row_t, row_ts, Reads}
use Rattle.model.specs.Code as model
use Rattle.program.specs.declared.threads.Thread.{Thread}
use Rattle.program.specs.Meaning.{thread}
use Rattle.program.specs.Post.{Begins}
use Rattle.program.proofs.Rows.{and_both, and_left, and_right, length_row_t, row_ts_push}

ok_ts_push : (p : Prog) (t : model.Thread) → T (ok_ts p) → T (leb (length t) 8) → T (ok_t t) → T (ok_ts (p ++ t ∷ []))
ok_ts_push [] t h few fine = and_both (leb (length t) 8) (ok_t t && true) few (and_both (ok_t t) true fine tt)
ok_ts_push (u ∷ p) t h few fine =
    let l = leb (length u) 8 in
    let r = and_right l (ok_t u && ok_ts p) h in
    and_both l (ok_t u && ok_ts (p ++ t ∷ [])) (and_left l (ok_t u && ok_ts p) h)
    (and_both (ok_t u) (ok_ts (p ++ t ∷ [])) (and_left (ok_t u) (ok_ts p) r) (ok_ts_push p t (and_right (ok_t u) (ok_ts p) r) few fine))

-- one more thread is read
pub row_more : (s rest behind : List ℕ) (ts : List Thread) (t : Thread) → Begins rest (thread t) behind → row_ts (map thread ts) ++ rest ≡ s → row_ts (map thread (ts ++ t ∷ [])) ++ behind ≡ s
row_more s rest behind ts t b before =
    ap (λ (p : Prog). row_ts p ++ behind) (map_push thread ts t)
    ∙ ap (λ r. r ++ behind) (row_ts_push (map thread ts) (thread t))
    ∙ append_assoc (row_ts (map thread ts)) (length (thread t) ∷ row_t (thread t)) behind
    ∙ ap (λ r. row_ts (map thread ts) ++ r) b.is
    ∙ before

pub ok_more : (rest behind : List ℕ) (ts : List Thread) (t : Thread) → Begins rest (thread t) behind → T (ok_ts (map thread ts)) → T (ok_ts (map thread (ts ++ t ∷ [])))
ok_more rest behind ts t b f =
    subst (λ (p : Prog). T (ok_ts p)) (sym (map_push thread ts t)) (ok_ts_push (map thread ts) (thread t) f (le→leb (length (thread t)) 8 b.few) b.fine)

-- the n-th thread of a program and those behind it
nth_row : (p : Prog) (n : ℕ) → n < length p → T (ok_ts p) → (t : model.Thread) × (q : Prog) × (drop n p ≡ t ∷ q) × (drop (suc n) p ≡ q) × T (leb (length t) 8) × T (ok_t t)
nth_row [] n h f = absurd (omega arith)
nth_row (t ∷ p) zero h f =
    let l = leb (length t) 8 in
    let r = and_right l (ok_t t && ok_ts p) f in
    (t, p, refl, refl, and_left l (ok_t t && ok_ts p) f, and_left (ok_t t) (ok_ts p) r)
nth_row (u ∷ p) (suc n) h f =
    let l = leb (length u) 8 in
    let r = and_right l (ok_t u && ok_ts p) f in
    nth_row p n (omega arith) (and_right (ok_t u) (ok_ts p) r)

-- of every program that the words a are, the threads from the n-th on are the words 'rest'
abbrev pub Stands : List ℕ → ℕ → List ℕ → Type 0
Stands a n rest = (p : Prog) → Reads a p → row_ts (drop n p) ≡ rest

ok_parts : (p : Prog) → T (ok p) → T (leb 1 (length p)) × T (leb (length p) 4) × T (ok_ts p)
ok_parts p f =
    let r = and_right (leb 1 (length p)) (leb (length p) 4 && ok_ts p) f in
    (and_left (leb 1 (length p)) (leb (length p) 4 && ok_ts p) f, and_left (leb (length p) 4) (ok_ts p) r, and_right (leb (length p) 4) (ok_ts p) r)

reads_count : (a : List ℕ) (w : ℕ) (s : List ℕ) (p : Prog) → a ≡ w ∷ s → Reads a p → length p ≡ w
reads_count a w s p e r = let f = r.is ∙ e in cc

pub reads_start : (a : List ℕ) (w : ℕ) (s : List ℕ) → a ≡ w ∷ s → Stands a 0 s
reads_start a w s e p r = let f = r.is ∙ e in cc

pub no_words : (a : List ℕ) → length a ≡ 0 → (p : Prog) → Reads a p → ⊥
no_words a h p r = let e = ap length r.is in absurd (omega arith)

pub too_few : (a : List ℕ) (w : ℕ) (s : List ℕ) → a ≡ w ∷ s → w < 1 → (p : Prog) → Reads a p → ⊥
too_few a w s e h p r =
    let n = reads_count a w s p e r in
    let l = leb→le 1 (length p) (ok_parts p r.fine).0 in
    absurd (omega arith)

pub too_many : (a : List ℕ) (w : ℕ) (s : List ℕ) → a ≡ w ∷ s → 4 < w → (p : Prog) → Reads a p → ⊥
too_many a w s e h p r =
    let n = reads_count a w s p e r in
    let l = leb→le (length p) 4 (ok_parts p r.fine).1 in
    absurd (omega arith)

-- the n-th thread of a program that the words are
nth_begins : (a : List ℕ) (n : ℕ) (rest : List ℕ) → Stands a n rest → (p : Prog) → Reads a p → n < length p → (t : model.Thread) × Begins rest t (row_ts (drop (suc n) p))
nth_begins a n rest stands p r h =
    let (t, q, e, e', few, fine) = nth_row p n h (ok_parts p r.fine).2 in (
      t,
      record {
        is = ap (λ w. length t ∷ (row_t t ++ row_ts w)) e' ∙ sym (ap row_ts e) ∙ stands p r;
        few = leb→le (length t) 8 few;
        fine = fine;
      },
    )

pub no_thread : (a : List ℕ) (w : ℕ) (s : List ℕ) (n : ℕ) (rest : List ℕ) → a ≡ w ∷ s → n < w → Stands a n rest → ((t : model.Thread) (b : List ℕ) → Begins rest t b → ⊥) → (p : Prog) → Reads a p → ⊥
no_thread a w s n rest e h stands no-t p r =
    let c = reads_count a w s p e r in
    let (t, b) = nth_begins a n rest stands p r (omega arith) in
    no-t t (row_ts (drop (suc n) p)) b

-- two threads at one place in the words have the same words behind them
same_rest : (s : List ℕ) (t u : model.Thread) (a b : List ℕ) → Begins s t a → Begins s u b → a ≡ b
same_rest s t u a b x y =
    let e : length t ∷ (row_t t ++ a) ≡ length u ∷ (row_t u ++ b) = x.is ∙ sym y.is in
    let n : length t ≡ length u = cc in
    let r : row_t t ++ a ≡ row_t u ++ b = cc in
    let lt = length_row_t t in
    let lu = length_row_t u in
    sym (drop_at (row_t t) a (length (row_t t)) refl) ∙ ap (drop (length (row_t t))) r ∙ drop_at (row_t u) b (length (row_t t)) (omega arith)

pub stands_more : (a : List ℕ) (w : ℕ) (s : List ℕ) (n : ℕ) (rest behind : List ℕ) (t : model.Thread) → a ≡ w ∷ s → n < w → Begins rest t behind → Stands a n rest → Stands a (n + 1) behind
stands_more a w s n rest behind t e h b stands p r =
    let c = reads_count a w s p e r in
    let (u, b') = nth_begins a n rest stands p r (omega arith) in
    ap (λ m. row_ts (drop m p)) (add-one n) ∙ same_rest rest u t (row_ts (drop (suc n) p)) behind b' b

-- words too many
pub left_over : (a : List ℕ) (w : ℕ) (s : List ℕ) (n : ℕ) (rest : List ℕ) → a ≡ w ∷ s → w ≤ n → (length rest ≡ 0 → ⊥) → Stands a n rest → (p : Prog) → Reads a p → ⊥
left_over a w s n rest e u ne stands p r =
    let c = reads_count a w s p e r in
    let d : drop n p ≡ [] = drop_all n p (omega arith) in
    ne (sym (ap length (sym (ap row_ts d) ∙ stands p r)))

-- all threads read
pub program_reads : (a : List ℕ) (w : ℕ) (s : List ℕ) (ts : List Thread) (rest : List ℕ) → a ≡ w ∷ s → length ts ≡ w → 1 ≤ w → w ≤ 4 → length rest ≡ 0 → row_ts (map thread ts) ++ rest ≡ s → T (ok_ts (map thread ts)) → Reads a (map thread ts)
program_reads a w s ts [] e n one few empty row fine =
    let l = length-map ts thread in
    let m = length (map thread ts) in
    record {
      is = ap (λ r. m ∷ r) (sym (append-nil (row_ts (map thread ts))) ∙ row) ∙ ap (λ k. k ∷ s) (l ∙ n) ∙ sym e;
      fine = and_both (leb 1 m) (leb m 4 && ok_ts (map thread ts)) (le→leb 1 m (omega arith)) (and_both (leb m 4) (ok_ts (map thread ts)) (le→leb m 4 (omega arith)) fine);
    }
program_reads a w s ts (x ∷ rest) e n one few empty row fine = absurd (omega arith)
