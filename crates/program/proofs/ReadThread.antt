-- Reading a thread from the words a, of which w is the first and s are the others: why there is none where reading stops,
-- and what one more instruction adds. Of the words s those of the instructions 'code' are read, and 'rest' is left.
use Rattle.std.proofs.Common.{◌≡◌, ℕ, ◌-◌, ◌*◌, ◌<◌, ◌≤◌, T, List, [], ◌∷◌, ◌++◌, map, length, get_or, take, drop, sym, refl, ap, ◌∙◌, subst, append_assoc, append-nil, arith, length-append}
use Rattle.std.proofs.lemmas.List.{drop_at, length-drop, length-map, map_push, take_all}
use Rattle.model.specs.Code.{I, Thread, ok_i, ok_t, row_i, row_t}
use Rattle.program.specs.declared.instructions.Instruction.{Instruction}
use Rattle.program.specs.Instructions.{instruction}
use Rattle.program.specs.Post.{ReadsI, Begins}
use Rattle.program.proofs.Rows.{length_row_t, row_t_append, ok_t_push, instruction_at}

pub no_words : (a : List ℕ) → length a ≡ 0 → (t : Thread) (b : List ℕ) → Begins a t b → ⊥
no_words a h t b x = let e = ap length x.is in absurd (omega arith)

-- what the first word is, and what stands behind it
count_is : (a : List ℕ) (w : ℕ) (s : List ℕ) (t : Thread) (b : List ℕ) → a ≡ w ∷ s → Begins a t b → length t ≡ w
count_is a w s t b e x = let f = x.is ∙ e in cc

row_is : (a : List ℕ) (w : ℕ) (s : List ℕ) (t : Thread) (b : List ℕ) → a ≡ w ∷ s → Begins a t b → row_t t ++ b ≡ s
row_is a w s t b e x = let f = x.is ∙ e in cc

pub too_many : (a : List ℕ) (w : ℕ) (s : List ℕ) → a ≡ w ∷ s → 8 < w → (t : Thread) (b : List ℕ) → Begins a t b → ⊥
too_many a w s e h t b x =
    let n = count_is a w s t b e x in
    let f = x.few in
    absurd (omega arith)

pub too_short : (a : List ℕ) (w : ℕ) (s : List ℕ) (code : Thread) (rest : List ℕ) → a ≡ w ∷ s → row_t code ++ rest ≡ s → length code < w → length rest < 4 → (t : Thread) (b : List ℕ) → Begins a t b → ⊥
too_short a w s code rest e r h l t b x =
    let n = count_is a w s t b e x in
    let f : length (row_t t ++ b) ≡ length (row_t code ++ rest) = ap length (row_is a w s t b e x ∙ sym r) in
    absurd (omega (arith, length-append (row_t t) b, length-append (row_t code) rest, length_row_t t, length_row_t code))

-- the four words in front
abbrev pub four : List ℕ → List ℕ
four s = get_or s 0 0 ∷ get_or s 1 0 ∷ get_or s 2 0 ∷ get_or s 3 0 ∷ []

front_four : (s : List ℕ) → 4 ≤ length s → s ≡ four s ++ drop 4 s
front_four (i ∷ j ∷ k ∷ l ∷ s) h = refl
front_four (i ∷ j ∷ k ∷ []) h = absurd (omega arith)
front_four (i ∷ j ∷ []) h = absurd (omega arith)
front_four (i ∷ []) h = absurd (omega arith)
front_four [] h = absurd (omega arith)

take_four : (s : List ℕ) → 4 ≤ length s → take 4 s ≡ four s
take_four s h = ap (take 4) (front_four s h)

pub no_instruction : (a : List ℕ) (w : ℕ) (s : List ℕ) (code : Thread) (rest : List ℕ) → a ≡ w ∷ s → row_t code ++ rest ≡ s → length code < w → 4 ≤ length rest → ((i : I) → ReadsI (four rest) i → ⊥) → (t : Thread) (b : List ℕ) → Begins a t b → ⊥
no_instruction a w s code rest e r h u no-i t b x =
    let n = count_is a w s t b e x in
    let k = length code in
    let (i, is) = instruction_at t b k x.fine (omega arith) in
    let left : drop (4 * k) s ≡ rest = ap (drop (4 * k)) (sym r) ∙ drop_at (row_t code) rest (4 * k) (length_row_t code) in
    let d : take 4 (drop (4 * k) (row_t t ++ b)) ≡ four rest = ap (λ v. take 4 (drop (4 * k) v)) (row_is a w s t b e x) ∙ ap (take 4) left ∙ take_four rest u in
    no-i i (is.0 ∙ d, is.1)

-- one more instruction
pub code_more : (is : List Instruction) (i : Instruction) → map instruction (is ++ i ∷ []) ≡ map instruction is ++ instruction i ∷ []
code_more is i = map_push instruction is i

pub row_more : (s rest : List ℕ) (is : List Instruction) (i : Instruction) → row_t (map instruction is) ++ rest ≡ s → 4 ≤ length rest → row_i (instruction i) ≡ four rest → row_t (map instruction (is ++ i ∷ [])) ++ take (length rest - 4) (drop 4 rest) ≡ s
row_more s rest is i r u e =
    let t = map instruction is in
    let j = instruction i in
    let all : take (length rest - 4) (drop 4 rest) ≡ drop 4 rest = take_all (length rest - 4) (drop 4 rest) (omega (arith, length-drop 4 rest)) in
    ap (λ w. row_t (map instruction (is ++ i ∷ [])) ++ w) all
    ∙ ap (λ (c : Thread). row_t c ++ drop 4 rest) (code_more is i)
    ∙ ap (λ w. w ++ drop 4 rest) (row_t_append t (j ∷ []) ∙ ap (λ w. row_t t ++ w) (append-nil (row_i j) ∙ e))
    ∙ append_assoc (row_t t) (four rest) (drop 4 rest)
    ∙ ap (λ w. row_t t ++ w) (sym (front_four rest u))
    ∙ r

pub ok_more : (is : List Instruction) (i : Instruction) → T (ok_t (map instruction is)) → T (ok_i (instruction i)) → T (ok_t (map instruction (is ++ i ∷ [])))
ok_more is i f g = subst (λ (t : Thread). T (ok_t t)) (sym (code_more is i)) (ok_t_push (map instruction is) (instruction i) f g)

-- all instructions read
pub thread_begins : (a : List ℕ) (w : ℕ) (s : List ℕ) (is : List Instruction) (rest : List ℕ) → a ≡ w ∷ s → length is ≡ w → w ≤ 8 → row_t (map instruction is) ++ rest ≡ s → T (ok_t (map instruction is)) → Begins a (map instruction is) rest
thread_begins a w s is rest e n few r fine =
    let l = length-map is instruction in
    record {
      is = ap (λ v. length (map instruction is) ∷ v) r ∙ ap (λ m. m ∷ s) (l ∙ n) ∙ sym e;
      few = omega arith;
      fine = fine;
    }
