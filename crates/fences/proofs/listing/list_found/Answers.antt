use Rattle.std.proofs.Common.{length, refl, arith}
use Rattle.program.specs.Meaning.{program}
use Rattle.fences.specs.Rows.{rows_from}
use Rattle.fences.proofs.AllOutcomes.{lists}
use Rattle.fences.proofs.Listed.{all_states, rows_fit, rows_too_long}
use Rattle.fences.proofs.listing.list_found.Goals as goal

pub mark_at_once-requires : goal.mark_at_once-requires
mark_at_once-requires c =
    let f = c.split_at_mut-cost.ensures.front_len in
    let b = c.split_at_mut-cost.ensures.back_len in
    let r = c.requires.room in
    record { explored = (c.args.found.queue.now, c.requires.explored); held = c.requires.kept; in_cost = omega arith; in_from = omega arith }

pub count_finished-count-requires : goal.count_finished-count-requires
count_finished-count-requires c = record { explored = (c.args.found.edges.now, c.requires.explored); held = c.requires.held }

pub returns-then-count-out : goal.returns-then-count-out
returns-then-count-out c =
    let p = c.args.p.now in
    let q = c.args.found.queue.now in
    let cost = c.mark_at_once.new.cost in (
      rows_from (program p) q cost 0 c.args.found.n,
      lists (program p) q c.args.found.edges.now cost c.args.found.n c.requires.explored (c.mark_at_once.ensures.marks q c.requires.explored),
      rows_too_long p _ c.count.ensures.value q c.args.found.edges.now cost c.args.found.n c.count_finished-count.result (length c.args.out.now) c.requires.explored (c.count_finished-count.ensures.count cost) c.if-count-out.true,
      refl,
    )

pub write_rows-requires : goal.write_rows-requires
write_rows-requires c =
    let p = c.args.p.now in
    let q = c.args.found.queue.now in
    let cost = c.mark_at_once.new.cost in
    let f = c.split_at_mut-cost.ensures.front_len in
    let k = c.mark_at_once.auto.cost in
    record {
      explored = (c.args.found.edges.now, c.requires.explored);
      held = c.requires.held;
      marked = omega arith;
      room = rows_fit p _ c.count.ensures.value q c.args.found.edges.now cost c.args.found.n c.count_finished-count.result (length c.args.out.now) c.requires.explored (c.count_finished-count.ensures.count cost) c.if-count-out.false;
    }

pub returns : goal.returns
returns c =
    let p = c.args.p.now in
    let q = c.args.found.queue.now in
    let cost = c.mark_at_once.new.cost in (
      rows_from (program p) q cost 0 c.args.found.n,
      lists (program p) q c.args.found.edges.now cost c.args.found.n c.requires.explored (c.mark_at_once.ensures.marks q c.requires.explored),
      all_states (program p) q c.args.found.edges.now c.args.found.n c.requires.explored,
      c.count_finished-count.ensures.count cost,
      c.write_rows.ensures.written,
      c.write_rows.ensures.behind,
    )
