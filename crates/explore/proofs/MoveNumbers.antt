-- Moves by number: below the number of threads a next instruction, from there on a store going out.
use Rattle.std.proofs.Common.{◌≡◌, ℕ, ◌-◌, ◌<◌, ◌≤◌, Bool, List, length, ap, ◌∙◌, subst}
use Rattle.std.proofs.lemmas.Bool.{lt-ltb, le-ltb}
use Rattle.model.specs.Code.{pick, Prog}
use Rattle.model.specs.Machine.{Move, next, out, move}
use Rattle.machine.specs.Meaning.{numbered}
use Rattle.machine.specs.Post.{Stepped}
use Rattle.explore.specs.Found.{move_of}

pub move_next : (n m : ℕ) → m < n → move_of n m ≡ next m
move_next n m h = ap (λ (b : Bool). pick b (next m) (out (m - n))) (lt-ltb m n h)

pub move_out : (n m : ℕ) → n ≤ m → move_of n m ≡ out (m - n)
move_out n m h = ap (λ (b : Bool). pick b (next m) (out (m - n))) (le-ltb m n h)

-- a step by a move that is told by its number
pub stepped_number : (p : Prog) (n m : ℕ) (v : Move) (ws : List ℕ) (r : Bool) (ws' : List ℕ) → v ≡ numbered n m → n ≡ length p → Stepped (λ s. move p s v) ws r ws' → Stepped (λ s. move p s (move_of (length p) m)) ws r ws'
stepped_number p n m v ws r ws' e l h = subst (λ (u : Move). Stepped (λ s. move p s u) ws r ws') (e ∙ ap (λ k. move_of k m) l) h
