-- All words 0 hold a state of the program, the one where every run begins.
use Rattle.std.proofs.Common.{◌≡◌, ℕ, suc, ◌+◌, ◌*◌, List, [], ◌∷◌, length, replicate, sym, refl, ap, subst}
use Rattle.model.specs.Code.{Prog}
use Rattle.model.specs.Machine.{begin, starts}
use Rattle.program.specs.declared.threads.Program.{Program}
use Rattle.program.specs.Meaning.{program}
use Rattle.machine.specs.Packed.{Packs}
use Rattle.machine.specs.Post.{Holds}
use Rattle.machine.proofs.Unpacking.{start_packs}

length_starts : (p : Prog) → length (starts p) ≡ length p
length_starts [] = refl
length_starts (t ∷ ts) = ap suc (length_starts ts)

pub holds_at_first : (p : Program) (ws : List ℕ) → ws ≡ replicate (1 + 3 * length (program p)) 0 → Holds (program p) ws
holds_at_first p ws e =
    let b = begin (program p) in
    (b, subst (λ (us : List ℕ). Packs us b) (sym e) (start_packs (program p)), length_starts (program p))
