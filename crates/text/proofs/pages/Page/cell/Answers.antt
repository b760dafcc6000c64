use Rattle.std.proofs.Common.{◌≡◌, ℕ, ◌<◌, List, map, length, get_or, vec_items, sym, ap, ◌∙◌, arith}
use mathlib.Core.Option.{some}
use Rattle.std.proofs.lemmas.List.{length-map, get_or-map, map-set}
use Rattle.std.proofs.lemmas.Result.{err_from_is_err_and}
use Rattle.model.specs.Code.{nth}
use Rattle.text.specs.declared.pieces.Piece.{Piece}
use Rattle.text.specs.declared.source.Thread.{Thread}
use Rattle.text.specs.Grammar.{Column}
use Rattle.text.specs.Meaning.{token, places, column, page}
use Rattle.text.proofs.Filling.{nth_at, put_set, cell_is, cell_not}
use Rattle.text.proofs.pages.Page.cell.Goals as goal

-- the column that the call was lent
lent : (ts : List Thread) (k : ℕ) (t : Thread) → k < length ts → t ≡ get_or ts k t → nth (map column ts) k ≡ some (column t)
lent ts k t l e =
    let long = length-map ts column in
    nth_at (map column ts) k (column t) (omega arith) ∙ ap (λ (c : Column). some c) (get_or-map column ts k t (column t) l ∙ ap column (sym e))

pub returns-in_err-does : goal.returns-in_err-does
returns-in_err-does c =
    let p = err_from_is_err_and c.from_residual-in_err-does.result c.from_residual-in_err-does.ensures.1 in
    let fits = c.args.self.now.threads.ok.0 in
    let seen = c.in_ok-tokens.ensures ∙ ap (λ (ts : List Piece). some (map token ts)) (sym c.as_slice.ensures.value) in
    rw (p.1, p.2) (λ refusal.
    cell_not c.args.k (page c.args.self.now) (token c.args.piece) (column c.index_mut.result.now)
    (lent (vec_items c.args.self.now.threads) c.args.k c.index_mut.result.now (omega arith) c.index_mut.ensures.value)
    _ seen (c.in_err-does.ensures refusal))

pub returns : goal.returns
returns c =
    let fits = c.args.self.now.threads.ok.0 in
    let seen = c.in_ok-tokens.ensures ∙ ap (λ (ts : List Piece). some (map token ts)) (sym c.as_slice.ensures.value) in
    let threads = vec_items c.args.self.now.threads in
    cell_is c.args.k (page c.args.self.now) (token c.args.piece) (column c.index_mut.result.now)
    (lent threads c.args.k c.index_mut.result.now (omega arith) c.index_mut.ensures.value)
    _ (places c.does.new.named) (column c.does.new.thread) seen c.in_ok-does.ensures
    ∙ (λ i. some (record { columns = (put_set (map column threads) c.args.k (column c.does.new.thread) ∙ sym (map-set column threads c.args.k c.does.new.thread)) i; places = places c.does.new.named }))
