use Rattle.std.proofs.Common.{ℕ, ◌*◌, sym, subst, arith}
use Rattle.graph.specs.Rules.{kept, Keeps, joined, Joins, Ahead}
use Rattle.graph.specs.Search.{Searched}
use Rattle.program.specs.Meaning.{program}
use Rattle.once.proofs.Steps.{once_ahead, marks_once}
use Rattle.once.proofs.marks.mark_at_once.Goals as goal

pub search-requires : goal.search-requires
search-requires c =
    let p = program c.args.p.now in
    let g = c.args.edges.now in
    let l = sym c.count-threads.ensures.value in
    let few = c.count-threads.ensures.few in
    let x = c.requires.explored.1 in
    record {
      ahead =
          subst (λ (t : ℕ). Ahead (Joins (Keeps g (2 * t)) (kept g (2 * t)) t) (joined (kept g (2 * t)) t) t c.args.n) l
          (once_ahead p c.requires.explored.0 g c.args.n x c.requires.held (omega arith));
      some = x.found.some_found;
      in_cost = c.requires.in_cost;
      in_from = c.requires.in_from;
    }

pub returns : goal.returns
returns c =
    let p = program c.args.p.now in
    let g = c.args.edges.now in
    let l = sym c.count-threads.ensures.value in
    record {
      marks =
          λ q x.
          marks_once p q g c.args.n x c.search.new.cost c.search.new.from
          (subst (λ (t : ℕ). Searched (joined (kept g (2 * t)) t) t c.args.n c.search.new.cost c.search.new.from) (sym l) c.search.ensures.searched);
      cost_behind = c.search.ensures.cost_behind;
      from_behind = c.search.ensures.from_behind;
    }
