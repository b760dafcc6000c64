use Rattle.std.proofs.Common.{◌≡◌, ℕ, suc, ◌+◌, ◌-◌, List, [], ◌∷◌, ◌++◌, map, string_bytes, sym, ap, ◌∙◌, append_assoc}
use Rattle.text.specs.Meaning.{words, column}
use Rattle.text.specs.Grammar.{Listing}
use Rattle.text.specs.Shows.{show_line, show_lines}
use Rattle.text.proofs.Printed.{one_line}
use Rattle.text.proofs.printing.Names.put_rows.Goals as goal

pub loop-j-preserved : goal.loop-j-preserved
loop-j-preserved c =
    let l : Listing = record { columns = map column c.args.threads.now; places = words c.args.self.places.now } in
    let j = c.loop-j.j in
    let out = string_bytes c.loop-j.out in
    let row = show_line l.places (j + 1) l.columns in
    let rest = show_lines l (suc (j + 1)) (c.args.rows - (j + 1)) in
    let put : string_bytes c.put_line.new.out ≡ out ++ row = c.in_ok-put_line.ensures in
    ap (λ (bs : List ℕ). bs ++ rest) (c.in_ok-push_str.ensures.bytes ∙ ap (λ (bs : List ℕ). bs ++ 10 ∷ []) put)
    ∙ append_assoc (out ++ row) (10 ∷ []) rest ∙ append_assoc out row (10 ∷ rest)
    ∙ ap (λ (bs : List ℕ). out ++ bs) (sym (one_line l j c.args.rows c.loop-j-test.true))
    ∙ c.loop-j.invariant
