use Rattle.std.proofs.Common.{◌≡◌, ℕ, List, [], ◌∷◌, ◌++◌, map, string_bytes, ap, ◌∙◌, append_assoc}
use Rattle.text.specs.declared.source.Thread.{Thread}
use Rattle.text.specs.Grammar.{Column, Listing, program, reads}
use Rattle.text.specs.Meaning.{words, column, listing}
use Rattle.text.specs.Shows.{show_line, show_lines, height, shows}
use Rattle.text.proofs.RoundTrip.{round_trip}
use Rattle.text.proofs.printing.print.Goals as goal

pub returns : goal.returns
returns c =
    let l = listing c.args.source.now in
    let first = show_line l.places 0 l.columns in
    let rows = show_lines l 1 (height (program l)) in
    let ts = c.as_slice-threads.ensures.value in
    let same : ◌≡◌ {A = Listing} (record { columns = map column c.as_slice-threads.result.now; places = words c.as_slice.result.now }) l =
    λ i. record { columns = map column (ts i); places = words (c.as_slice.ensures.value i) } in
    let tall : c.height_of.result ≡ height (program l) = c.height_of.ensures ∙ ap (λ (us : List Thread). height (map (λ (d : Column). d.code) (map column us))) ts in
    let head : string_bytes c.put_line.new.out ≡ first =
    c.in_ok-put_line.ensures ∙ (λ i. c.new-out.ensures.bytes i ++ show_line (words (c.as_slice.ensures.value i)) 0 (map column (ts i))) in
    let text : string_bytes c.put_rows.new.out ≡ shows l =
    c.in_ok-put_rows.ensures
    ∙ (λ i. (c.in_ok-push_str.ensures.bytes ∙ ap (λ (bs : List ℕ). bs ++ 10 ∷ []) head) i ++ show_lines (same i) 1 (tall i))
    ∙ append_assoc first (10 ∷ []) rows in
    record { text = text; back = λ fine. ap reads text ∙ round_trip l fine }
