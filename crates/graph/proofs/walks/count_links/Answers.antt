use Rattle.std.proofs.Common.{◌<◌, length, arith}
use Rattle.graph.proofs.Tracing.{counted_none, counted_down, counted_room, counted_more, counted_all}
use Rattle.graph.proofs.walks.count_links.Goals as goal

pub offset_bounds-from-node : goal.offset_bounds-from-node
offset_bounds-from-node c =
    let h : c.back.node < length c.args.from.now = counted_room c.args.from.now c.args.to c.back.len c.back.node (omega arith) c.back.invariant in
    omega arith

pub bounds-from-node : goal.bounds-from-node
bounds-from-node c = counted_room c.args.from.now c.args.to c.back.len c.back.node (omega arith) c.back.invariant

pub back-init : goal.back-init
back-init c = counted_none c.args.from.now c.args.to c.requires

pub back-smaller : goal.back-smaller
back-smaller c = counted_down c.args.from.now c.args.to c.back.len c.back.node (omega arith) c.back.invariant

pub back-preserved : goal.back-preserved
back-preserved c = counted_more c.args.from.now c.args.to c.back.len c.back.node (omega arith) c.back.invariant

pub returns : goal.returns
returns c = counted_all c.args.from.now c.args.to c.back.len c.back.node (omega arith) c.back.invariant
