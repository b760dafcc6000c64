-- What both calls do first: a refusal handed on is that refusal, words are read as a program, and states are found.
use Rattle.std.proofs.Common.{◌≡◌, ℕ, ◌+◌, ◌*◌, ◌≤◌, ◌<◌, List, subst, arith, ap, Some, None, Ok, Err, Option, Result}
use Rattle.std.specs.Option.{ok_or}
use Rattle.std.specs.Result.{IsErrAnd}
use Rattle.model.specs.Code.{Prog}
use Rattle.program.specs.declared.threads.Program.{Program}
use Rattle.program.specs.Post.{ProgramRead}
use Rattle.fences.specs.declared.refusals.Refusal.TheVariants as refusal
use Rattle.fences.specs.declared.refusals.Refusal.{Refusal}
use Rattle.fences.specs.Finding.{Admitted, FoundIn}
use Rattle.explore.specs.Found.{Explored}
use Rattle.explore.specs.Post.{AllExplored}
use Rattle.fences.proofs.Sharing.{crowded_too}

-- what `?` hands on
pub handed_on : {A E : Type 0} (r : Result A E) (e : E) → IsErrAnd r (λ x. x ≡ e) → r ≡ Err e
handed_on (Ok a) e h = absurd h
handed_on (Err x) e h = ap Err h

pub admitted_is : (s : List ℕ) (most w : ℕ) (r : Option Program) → ProgramRead s r → 65536 + 128 * (most + 1) ≤ w → Admitted s most w (ok_or r refusal.NoProgram)
admitted_is s most w (Some p) h l = (h, l)
admitted_is s most w None h l = (h, l)

-- exploration that ends with so many states, and one that doesn't
pub explored_ok : (p : Prog) (limit : ℕ) (q g : List ℕ) (r : Option ℕ) (n : ℕ) → AllExplored p limit q g r → ok_or r refusal.Crowded ≡ Ok n → Explored p q g n × (n ≤ limit)
explored_ok p limit q g (Some m) n h e = let f : m ≡ n = cc in subst (λ k. Explored p q g k × (k ≤ limit)) f h
explored_ok p limit q g None n h e = let z : ◌≡◌ {A = ℕ} 0 1 = cc in absurd (omega arith)

pub explored_err : (p : Prog) (limit w : ℕ) (q g : List ℕ) (r : Option ℕ) (e : Refusal) → AllExplored p limit q g r → ((m : ℕ) → m < 4294967296 → 65536 + 128 * (m + 1) ≤ w → m ≤ limit) → ok_or r refusal.Crowded ≡ Err e → FoundIn p w (Err e)
explored_err p limit w q g (Some n) e h most f = let z : ◌≡◌ {A = ℕ} 0 1 = cc in absurd (omega arith)
explored_err p limit w q g None e h most f =
    let same : refusal.Crowded ≡ e = cc in
    subst (λ (x : Refusal). FoundIn p w (Err x)) same (λ m l k. crowded_too p limit m (most m l k) h)
