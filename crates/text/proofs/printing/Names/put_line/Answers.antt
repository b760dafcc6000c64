use Rattle.std.proofs.Common.{ℕ, ◌+◌, eqb, List, ◌++◌, map, length, drop, string_bytes, sym, ap, ◌∙◌, append_assoc, arith}
use Rattle.std.proofs.lemmas.List.{length-map, get_or-map}
use Rattle.text.specs.Meaning.{words, column}
use Rattle.text.specs.Shows.{show_line}
use Rattle.text.specs.Parts.{part}
use Rattle.text.proofs.Printed.{lead, one_part}
use Rattle.text.proofs.printing.Names.put_line.Goals as goal

pub loop-k-preserved : goal.loop-k-preserved
loop-k-preserved c =
    let ns = words c.args.self.places.now in
    let ts = c.args.threads.now in
    let cs = map column ts in
    let j = c.args.j in
    let k = c.loop-k.k in
    let d = column c.index-threads-k.result in
    let long = length-map ts column in
    let last = eqb (k + 1) (length ts) in
    let put = part ns j k last d in
    let left = lead (k + 1) (show_line ns j (drop (k + 1) cs)) in
    let here = get_or-map column ts k c.index-threads-k.result d c.loop-k-test.true ∙ ap column (sym c.index-threads-k.is) in
    ap (λ (bs : List ℕ). bs ++ left) c.in_ok-put_part.ensures
    ∙ append_assoc (string_bytes c.loop-k.out) put left
    ∙ ap (λ (bs : List ℕ). string_bytes c.loop-k.out ++ bs) (sym (one_part ns j k cs d last (omega arith) here (ap (eqb (k + 1)) (sym long))))
    ∙ c.loop-k.invariant
