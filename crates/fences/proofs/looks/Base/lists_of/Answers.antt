use Rattle.std.proofs.Common.{◌≡◌, ℕ, take, Some, None, subst, arith}
use lib.Bits.{bit_and}
use Rattle.hitting.specs.Post.{NextOrNone}
use Rattle.program.specs.Meaning.{program}
use Rattle.program.proofs.WriteWords.{program_ok}
use Rattle.fences.proofs.SearchLaws.{learnt_slice, after_none, after_some, found_next, go_on, go_on_none, fails_turned, kept_learnt}
use Rattle.fences.proofs.looks.Base.lists_of.Goals as goal

pub returns-in_default : goal.returns-in_default
returns-in_default c =
    let p = program c.args.self.now.p.now in
    let i = c.lists.invariant in
    let cs = take c.lists.known c.lists.clauses in
    let nx = subst (λ (z : ℕ). NextOrNone cs z c.args.bits c.lists.upto None) c.requires.among c.in_default.ensures in
    record {
      round = after_none p cs c.args.bits c.lists.upto (learnt_slice p c.lists.clauses c.lists.known i.0 i.1) i.2 nx;
      few = i.0;
      learnt = i.1;
    }

pub returns-in_default-try_list : goal.returns-in_default-try_list
returns-in_default-try_list c =
    let p = program c.args.self.now.p.now in
    let i = c.lists.invariant in
    let x = c.in-Some.x in
    let cs = take c.lists.known c.lists.clauses in
    let nx = subst (λ (z : ℕ). NextOrNone cs z c.args.bits c.lists.upto (Some x)) c.requires.among c.in-Some.ensures in
    let b = nx.below in
    let u = i.3 in
    record {
      round = found_next p cs c.args.bits c.lists.upto x (program_ok c.args.self.now.p.now) (omega arith) (learnt_slice p c.lists.clauses c.lists.known i.0 i.1) i.2 nx c.in_default-try_list.ensures;
      few = i.0;
      learnt = i.1;
    }

pub returns-then-x-eq0 : goal.returns-then-x-eq0
returns-then-x-eq0 c =
    let p = program c.args.self.now.p.now in
    let i = c.lists.invariant in
    let x = c.in-Some.x in
    let cs = take c.lists.known c.lists.clauses in
    let nx = subst (λ (z : ℕ). NextOrNone cs z c.args.bits c.lists.upto (Some x)) c.requires.among c.in-Some.ensures in
    let b = nx.below in
    let u = i.3 in
    let (ms, sh, e, miss) = c.in-Some-try_list.ensures in
    let k = kept_learnt p c.lists.clauses c.keep-known.new.clauses c.lists.known c.in-Some-try_list.clause c.keep-known.result ms c.keep-known.ensures i.0 i.1 sh e in
    let fail = fails_turned p ms x sh (omega arith) (subst (λ (z : ℕ). bit_and z x ≡ 0) e miss) in
    record {
      round = go_on_none p c.args.bits x c.if-x-eq0.true fail (after_some p cs c.args.bits c.lists.upto x (learnt_slice p c.lists.clauses c.lists.known i.0 i.1) i.2 nx);
      few = k.0;
      learnt = k.1;
    }

pub lists-preserved : goal.lists-preserved
lists-preserved c =
    let p = program c.args.self.now.p.now in
    let i = c.lists.invariant in
    let x = c.in-Some.x in
    let cs = take c.lists.known c.lists.clauses in
    let nx = subst (λ (z : ℕ). NextOrNone cs z c.args.bits c.lists.upto (Some x)) c.requires.among c.in-Some.ensures in
    let b = nx.below in
    let u = i.3 in
    let (ms, sh, e, miss) = c.in-Some-try_list.ensures in
    let k = kept_learnt p c.lists.clauses c.keep-known.new.clauses c.lists.known c.in-Some-try_list.clause c.keep-known.result ms c.keep-known.ensures i.0 i.1 sh e in
    let fail = fails_turned p ms x sh (omega arith) (subst (λ (z : ℕ). bit_and z x ≡ 0) e miss) in (
      k.0,
      k.1,
      go_on p c.args.bits x (omega arith) fail (after_some p cs c.args.bits c.lists.upto x (learnt_slice p c.lists.clauses c.lists.known i.0 i.1) i.2 nx),
      omega arith,
    )
