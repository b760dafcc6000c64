-- Rows of words: what stands where in the words of a thread and of a program. A thread's instructions take four words
-- each, so the k-th stands at 4 * k; that is all that reading needs.
use Rattle.std.proofs.Common.{◌≡◌, ℕ, zero, suc, ◌+◌, ◌*◌, ◌<◌, ◌≤◌, Bool, true, false, ◌&&◌, T, List, [], ◌∷◌, ◌++◌, length, get_or, take, drop, sym, refl, ap, ◌∙◌, append_assoc, append-nil, arith, length-append}
use Rattle.std.proofs.lemmas.List.{drop-drop, drop_more}
use Rattle.model.specs.Code.{I, sets, adds, loads, stores, fence, Thread, Prog, ok_i, ok_t, row_i, row_t, row_ts}
use Rattle.program.specs.Post.{ReadsI}

pub and_both : (a b : Bool) → T a → T b → T (a && b)
and_both true b h k = k
and_both false b h k = h

pub and_left : (a b : Bool) → T (a && b) → T a
and_left true b h = tt
and_left false b h = h

pub and_right : (a b : Bool) → T (a && b) → T b
and_right true b h = h
and_right false b h = absurd h

pub length_row_i : (i : I) → length (row_i i) ≡ 4
length_row_i (sets r n) = refl
length_row_i (adds r a b) = refl
length_row_i (loads r x) = refl
length_row_i (stores x r) = refl
length_row_i fence = refl

pub length_row_t : (t : Thread) → length (row_t t) ≡ 4 * length t
length_row_t [] = refl
length_row_t (i ∷ is) =
    let a = length-append (row_i i) (row_t is) in
    let b = length_row_i i in
    let c = length_row_t is in
    omega arith

pub row_t_append : (a b : Thread) → row_t (a ++ b) ≡ row_t a ++ row_t b
row_t_append [] b = refl
row_t_append (i ∷ a) b = ap (λ s. row_i i ++ s) (row_t_append a b) ∙ sym (append_assoc (row_i i) (row_t a) (row_t b))

pub ok_t_push : (t : Thread) (i : I) → T (ok_t t) → T (ok_i i) → T (ok_t (t ++ i ∷ []))
ok_t_push [] i h k = and_both (ok_i i) true k tt
ok_t_push (j ∷ t) i h k =
    and_both (ok_i j) (ok_t (t ++ i ∷ [])) (and_left (ok_i j) (ok_t t) h) (ok_t_push t i (and_right (ok_i j) (ok_t t) h) k)

-- behind an instruction's words stand the others
drop_row_i : (i : I) (s : List ℕ) → drop 4 (row_i i ++ s) ≡ s
drop_row_i (sets r n) s = refl
drop_row_i (adds r a b) s = refl
drop_row_i (loads r x) s = refl
drop_row_i (stores x r) s = refl
drop_row_i fence s = refl

take_row_i : (i : I) (s : List ℕ) → take 4 (row_i i ++ s) ≡ row_i i
take_row_i (sets r n) s = refl
take_row_i (adds r a b) s = refl
take_row_i (loads r x) s = refl
take_row_i (stores x r) s = refl
take_row_i fence s = refl

-- the four words of the k-th instruction
pub instruction_at : (t : Thread) (rest : List ℕ) (k : ℕ) → T (ok_t t) → k < length t → (i : I) × ReadsI (take 4 (drop (4 * k) (row_t t ++ rest))) i
instruction_at [] rest k f h = absurd (omega arith)
instruction_at (i ∷ is) rest zero f h =
    (i, (sym (ap (take 4) (append_assoc (row_i i) (row_t is) rest) ∙ take_row_i i (row_t is ++ rest)), and_left (ok_i i) (ok_t is) f))
instruction_at (i ∷ is) rest (suc k) f h =
    let (j, r) = instruction_at is rest k (and_right (ok_i i) (ok_t is) f) (omega arith) in
    let n : 4 * suc k ≡ 4 + 4 * k = omega arith in
    let d : drop (4 * suc k) (row_t (i ∷ is) ++ rest) ≡ drop (4 * k) (row_t is ++ rest) =
    ap (λ m. drop m (row_t (i ∷ is) ++ rest)) n
    ∙ sym (drop-drop (4 * k) 4 (row_t (i ∷ is) ++ rest))
    ∙ ap (λ s. drop (4 * k) (drop 4 s)) (append_assoc (row_i i) (row_t is) rest)
    ∙ ap (drop (4 * k)) (drop_row_i i (row_t is ++ rest)) in
    (j, (r.0 ∙ sym (ap (take 4) d), r.1))

-- the four words at n
pub four_at : (s : List ℕ) (n : ℕ) → n + 4 ≤ length s → drop n s ≡ get_or s n 0 ∷ get_or s (n + 1) 0 ∷ get_or s (n + 2) 0 ∷ get_or s (n + 3) 0 ∷ drop (n + 4) s
four_at s n h =
    let a : (n + 1) + 1 ≡ n + 2 = omega arith in
    let b : (n + 2) + 1 ≡ n + 3 = omega arith in
    let c : (n + 3) + 1 ≡ n + 4 = omega arith in
    drop_more s n 0 (omega arith)
    ∙ ap (λ r. get_or s n 0 ∷ r) (drop_more s (n + 1) 0 (omega arith) ∙ ap (λ m. get_or s (n + 1) 0 ∷ drop m s) a
    ∙ ap (λ r. get_or s (n + 1) 0 ∷ r) (drop_more s (n + 2) 0 (omega arith) ∙ ap (λ m. get_or s (n + 2) 0 ∷ drop m s) b
    ∙ ap (λ r. get_or s (n + 2) 0 ∷ r) (drop_more s (n + 3) 0 (omega arith) ∙ ap (λ m. get_or s (n + 3) 0 ∷ drop m s) c)))

-- one more thread
pub row_ts_push : (p : Prog) (t : Thread) → row_ts (p ++ t ∷ []) ≡ row_ts p ++ (length t ∷ row_t t)
row_ts_push [] t = ap (λ r. length t ∷ r) (append-nil (row_t t))
row_ts_push (u ∷ p) t =
    ap (λ r. length u ∷ (row_t u ++ r)) (row_ts_push p t)
    ∙ ap (λ r. length u ∷ r) (sym (append_assoc (row_t u) (row_ts p) (length t ∷ row_t t)))
