use Rattle.std.proofs.Common.{◌≡◌, ◌+◌, ◌*◌, ℕ, ◌<◌, length, arith}
use Rattle.program.specs.Meaning.{program}
use Rattle.machine.specs.declared.states.State.{State}
use Rattle.machine.proofs.HeldState.{held}
use Rattle.machine.proofs.MoveLaws.{count_is, missing, room, there}
use Rattle.machine.proofs.StateLaws.{thread_is}
use Rattle.machine.proofs.states.State.thread.Goals as goal

below : (st : State) (n k : ℕ) → k ≡ length (program st.p.now) → n < k → 3 + 3 * n < length st.words.now
below st n k v h = room (program st.p.now) st.words.now n (held _ _ st.held) (omega arith)

pub returns-then-n-count : goal.returns-then-n-count
returns-then-n-count c s k =
    let st = c.args.self.now in
    let v = c.count.ensures.value in
    missing (program st.p.now) st.words.now s c.args.n (held _ _ st.held) k (omega arith)

pub bounds-self-n : goal.bounds-self-n
bounds-self-n c = let r = below c.args.self.now c.args.n _ c.count.ensures.value c.if-n-count.false in omega arith

pub bounds-self-n-2 : goal.bounds-self-n-2
bounds-self-n-2 c = let r = below c.args.self.now c.args.n _ c.count.ensures.value c.if-n-count.false in omega arith

pub bounds-self-n-3 : goal.bounds-self-n-3
bounds-self-n-3 c = below c.args.self.now c.args.n _ c.count.ensures.value c.if-n-count.false

pub unpack_thread-requires : goal.unpack_thread-requires
unpack_thread-requires c =
    let st = c.args.self.now in
    let v = c.count.ensures.value in
    there (program st.p.now) st.words.now c.args.n (held _ _ st.held) (omega arith)

pub returns : goal.returns
returns c s k =
    let st = c.args.self.now in
    let v = c.count.ensures.value in
    let e = count_is (program st.p.now) st.words.now s (held _ _ st.held) k in
    thread_is st.words.now s c.args.n _ k (omega arith) c.unpack_thread.ensures
