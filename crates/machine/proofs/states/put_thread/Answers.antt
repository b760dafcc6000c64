use Rattle.std.proofs.Common.{arith}
use Rattle.machine.proofs.StateLaws.{put_packs, same_count}
use Rattle.machine.proofs.states.put_thread.Goals as goal

pub returns : goal.returns
returns c s h =
    let (t, k, l) = c.requires.held in
    let e = same_count c.args.state.now s t h k in
    put_packs c.args.state.now s c.args.n c.args.t.now c.pack_thread-words.result h (omega arith) c.pack_thread-words.ensures
