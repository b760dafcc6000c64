use Rattle.machine.proofs.HeldState.{held}
use Rattle.machine.proofs.MoveLaws.{stepped_holds}
use Rattle.tests.proofs.play.make.Goals as goal

pub returns-in-Next : goal.returns-in-Next
returns-in-Next c = stepped_holds _ _ _ _ c.next.result (held _ _ c.args.state.now.held) c.next.ensures

pub returns-in-Out : goal.returns-in-Out
returns-in-Out c = stepped_holds _ _ _ _ c.out.result (held _ _ c.args.state.now.held) c.out.ensures

pub returns-in-AtOnce : goal.returns-in-AtOnce
returns-in-AtOnce c = stepped_holds _ _ _ _ c.at_once.result (held _ _ c.args.state.now.held) c.at_once.ensures

pub returns-in-Guarded : goal.returns-in-Guarded
returns-in-Guarded c = stepped_holds _ _ _ _ c.guarded.result (held _ _ c.args.state.now.held) c.guarded.ensures
