-- The words of a listing: one more instruction and one more thread behind what was there at first.
use Rattle.std.proofs.Common.{◌≡◌, ℕ, ◌+◌, ◌<◌, List, [], ◌∷◌, ◌++◌, map, length, get_or, take, vec_items, sym, ap, ◌∙◌, append_assoc}
use mathlib.Core.List.{map-append}
use Rattle.std.proofs.lemmas.List.{map_more}
use Rattle.model.specs.Code.{row_t, row_ts}
use Rattle.program.proofs.Rows.{row_ts_push}
use Rattle.program.specs.declared.instructions.Instruction.{Instruction}
use Rattle.program.specs.Instructions.{instruction}
use Rattle.text.specs.declared.source.Thread.{Thread}
use Rattle.text.specs.Grammar.{Column}
use Rattle.text.specs.Meaning.{column}

-- the words of the first n threads
abbrev pub first : List Thread → ℕ → List ℕ
first ts n = row_ts (map (λ (c : Column). c.code) (map column (take n ts)))

-- the thread u, whose instructions is are, stands at n
pub thread_added : (start before after : List ℕ) (ts : List Thread) (n : ℕ) (u : Thread) (is : List Instruction) → n < length ts → u ≡ get_or ts n u → is ≡ vec_items u.code → before ≡ start ++ first ts n → after ≡ before ++ (length (map instruction is) ∷ row_t (map instruction is)) → after ≡ start ++ first ts (n + 1)
thread_added start before after ts n u is h at same e f =
    let cs = map column (take n ts) in
    let t = map instruction is in
    let code : (column (get_or ts n u)).code ≡ t = ap (λ (v : Thread). map instruction (vec_items v.code)) (sym at) ∙ ap (map instruction) (sym same) in
    let more : first ts (n + 1) ≡ first ts n ++ (length t ∷ row_t t) =
    ap (λ l. row_ts (map (λ (c : Column). c.code) l)) (map_more column ts n u h)
    ∙ ap row_ts (map-append (λ (c : Column). c.code) cs (column (get_or ts n u) ∷ []))
    ∙ row_ts_push (map (λ (c : Column). c.code) cs) (column (get_or ts n u)).code
    ∙ ap (λ i. first ts n ++ (length i ∷ row_t i)) code in
    f ∙ ap (λ r. r ++ (length t ∷ row_t t)) e ∙ append_assoc start (first ts n) (length t ∷ row_t t) ∙ ap (λ r. start ++ r) (sym more)
