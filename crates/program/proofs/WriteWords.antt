-- Writing words: one more instruction, one more thread, and that a program of the code is within the limits.
use Rattle.std.proofs.Common.{◌≡◌, ℕ, ◌+◌, ◌<◌, ◌≤◌, ◌&&◌, T, leb, List, [], ◌∷◌, ◌++◌, map, length, get_or, take, sym, ap, ◌∙◌, append_assoc, append-nil, arith, le→leb}
use Rattle.std.proofs.lemmas.List.{length-map, map_more}
use Rattle.model.specs.Code.{ok, ok_t, ok_ts, row_i, row_t, row_ts}
use Rattle.program.specs.declared.instructions.Instruction.{Instruction}
use Rattle.program.specs.declared.threads.Thread.{Thread}
use Rattle.program.specs.declared.threads.Program.{Program}
use Rattle.program.specs.Instructions.{instruction}
use Rattle.program.specs.Meaning.{thread, program}
use Rattle.program.proofs.Rows.{and_both, row_t_append, row_ts_push}

-- one more instruction behind what was there at first
pub instruction_added : (start before after w : List ℕ) (code : List Instruction) (k : ℕ) (i : Instruction) → k < length code → before ≡ start ++ row_t (map instruction (take k code)) → after ≡ before ++ w → w ≡ row_i (instruction (get_or code k i)) → after ≡ start ++ row_t (map instruction (take (k + 1) code))
instruction_added start before after w code k i h e f g =
    let t = map instruction (take k code) in
    let j = instruction (get_or code k i) in
    let more : row_t (map instruction (take (k + 1) code)) ≡ row_t t ++ row_i j =
    ap row_t (map_more instruction code k i h) ∙ row_t_append t (j ∷ []) ∙ ap (λ r. row_t t ++ r) (append-nil (row_i j)) in
    f ∙ ap (λ r. r ++ w) e ∙ append_assoc start (row_t t) w ∙ ap (λ r. start ++ (row_t t ++ r)) g ∙ ap (λ r. start ++ r) (sym more)

-- one more thread behind what was there at first
pub thread_added : (start before after : List ℕ) (ts : List Thread) (n len : ℕ) (t : Thread) → n < length ts → before ≡ start ++ row_ts (map thread (take n ts)) → t ≡ get_or ts n t → len ≡ length (thread t) → after ≡ (before ++ len ∷ []) ++ row_t (thread t) → after ≡ start ++ row_ts (map thread (take (n + 1) ts))
thread_added start before after ts n len t h e is l f =
    let p = map thread (take n ts) in
    let u = thread t in
    let more : row_ts (map thread (take (n + 1) ts)) ≡ row_ts p ++ (length u ∷ row_t u) =
    ap row_ts (map_more thread ts n t h) ∙ row_ts_push p (thread (get_or ts n t)) ∙ ap (λ v. row_ts p ++ (length (thread v) ∷ row_t (thread v))) (sym is) in
    f
    ∙ append_assoc before (len ∷ []) (row_t u)
    ∙ ap (λ r. r ++ (len ∷ row_t u)) e
    ∙ append_assoc start (row_ts p) (len ∷ row_t u)
    ∙ ap (λ m. start ++ (row_ts p ++ (m ∷ row_t u))) l
    ∙ ap (λ r. start ++ r) (sym more)

ok_all : (ts : List Thread) → T (ok_ts (map thread ts))
ok_all [] = tt
ok_all (t ∷ ts) =
    let few : length (thread t) ≤ 8 = let e = length-map t.code.items instruction in omega arith in
    and_both (leb (length (thread t)) 8) (ok_t (thread t) && ok_ts (map thread ts)) (le→leb (length (thread t)) 8 few)
    (and_both (ok_t (thread t)) (ok_ts (map thread ts)) t.fine (ok_all ts))

pub length_program : (p : Program) → length (program p) ≡ length p.threads.items
length_program p = length-map p.threads.items thread

pub few_threads : (p : Program) → length (program p) ≤ 4
few_threads p = let e = length_program p in let f = p.few in omega arith

pub program_ok : (p : Program) → T (ok (program p))
program_ok p =
    let e = length_program p in
    let n = length (program p) in
    and_both (leb 1 n) (leb n 4 && ok_ts (program p)) (le→leb 1 n (omega arith))
    (and_both (leb n 4) (ok_ts (program p)) (le→leb n 4 (omega arith)) (ok_all p.threads.items))
