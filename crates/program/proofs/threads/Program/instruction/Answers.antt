use Rattle.std.proofs.Common.{◌≡◌, map, sym, ap, ◌∙◌}
use Rattle.std.proofs.Math.Option.{some}
use Rattle.model.specs.Code.{nth}
use Rattle.program.specs.Instructions.{instruction}
use Rattle.program.specs.Meaning.{thread, program}
use Rattle.program.proofs.Lookup.{nth_map, nth_map_past, no_thread, looked_up}
use Rattle.program.proofs.threads.Program.instruction.Goals as goal

pub returns-in_err-get : goal.returns-in_err-get
returns-in_err-get c =
    rw c.from_residual.ensures
    (no_thread (program c.args.self.now) c.args.n c.args.pc
    (ap (λ ts. nth (map thread ts) c.args.n) (sym c.threads.ensures) ∙ nth_map_past thread c.threads.result.now c.args.n c.in_err-get.ensures.lookup.3))

pub returns : goal.returns
returns c =
    let t = c.in_ok-get.field-0.now in
    let at = c.in_ok-get.ensures.lookup in
    rw c.copied.ensures
    (looked_up _ (program c.args.self.now) c.args.n c.args.pc (thread t) c.instructions.result.now c.get-2.result
    (ap (λ ts. nth (map thread ts) c.args.n) (sym c.threads.ensures) ∙ nth_map thread c.threads.result.now c.args.n t at.3.0 ∙ ap (λ u. some (thread u)) (sym at.1))
    (ap (map instruction) c.instructions.ensures.are) t.fine c.instructions.ensures.few c.get-2.ensures.lookup.3 c.get-2.ensures.lookup.1)
