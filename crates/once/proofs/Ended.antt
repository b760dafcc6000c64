-- Finished states, thread by thread, by the first word of each.
use Rattle.std.proofs.Common.{◌≡◌, ℕ, zero, suc, ◌+◌, ◌<◌, ◌≤◌, Bool, true, false, ◌&&◌, eqb, List, [], ◌∷◌, map, length, take, get_or, sym, refl, ap, ◌∙◌, subst, inl, inr, arith}
use mathlib.Core.Option.{some}
use Rattle.model.specs.Code.{nth, Thread, Prog}
use Rattle.model.specs.Machine.{At, St, empty, all_done}
use Rattle.model.proofs.Tools.{some_is, nth_below, and_both, eqb_is, eqb_same, empty_is, false_true, Ended, done_at, at_done}
use Rattle.program.specs.declared.threads.Thread as code
use Rattle.program.specs.declared.threads.Program.{Program}
use Rattle.program.specs.Meaning.{thread, program}
use Rattle.program.proofs.Lookup.{nth_map}
use Rattle.machine.specs.Packed.{Packs}
use Rattle.machine.proofs.StateLaws.{length_pack, thread_at}
use Rattle.explore.specs.Found.{width}
use Rattle.explore.proofs.Finding.{last_or}

-- the threads before n are at their end, and nothing of them waits
abbrev pub DoneBefore : Prog → List ℕ → ℕ → Type 0
DoneBefore p ws n = (s : St) → Packs ws s → (k : ℕ) (c : Thread) → k < n → nth p k ≡ some c → (a : At) × (nth s.threads k ≡ some a) × Ended c a

-- a thread is at the end of its code t, and nothing of it waits
abbrev pub has_ended : code.Thread → At → Bool
has_ended t a = eqb a.pc (length (thread t)) && empty a.waits

module _ (p : Prog) (ws : List ℕ) (long : length ws ≡ width (length p)) (n : ℕ) (t : code.Thread) (code : nth p n ≡ some (thread t)) where
  -- thread n of a state in these words
  thread_then : (s : St) → Packs ws s → (a : At) × (nth s.threads n ≡ some a)
  thread_then s h =
      let l = length_pack ws s h in
      let b = nth_below p n code in
      let (a, e, packs) = thread_at ws s n h (omega arith) in
      (a, e)

  ended : (a : At) → has_ended t a ≡ true → Ended (thread t) a
  ended a e = let (pc, row) = and_both (eqb a.pc (length (thread t))) (empty a.waits) e in (eqb_is a.pc (length (thread t)) pc, empty_is a.waits row)

  ended_is : (a : At) → Ended (thread t) a → has_ended t a ≡ true
  ended_is a (pc, row) = rw (pc, row) (ap (λ (b : Bool). b && true) (eqb_same (length (thread t))))

  pub done_more : ((s : St) (a : At) → Packs ws s → nth s.threads n ≡ some a → has_ended t a ≡ true) → DoneBefore p ws n → DoneBefore p ws (n + 1)
  done_more d before s h k b l e =
      elim (last_or k n l) [
        | inl less ↦ before s h k b less e
        | inr same ↦
            let (a, f) = thread_then s h in
            subst (λ (j : ℕ). (a : At) × (nth s.threads j ≡ some a) × Ended b a) (sym same)
            (a, f, subst (λ (c : Thread). Ended c a) (some_is (sym code ∙ sym (ap (nth p) same) ∙ e)) (ended a (d s a h f)))
      ]

  pub not_done : ((s : St) (a : At) → Packs ws s → nth s.threads n ≡ some a → has_ended t a ≡ false) → (s : St) → Packs ws s → false ≡ all_done p s.threads
  not_done never s h = go (all_done p s.threads) refl
    where
      go : (b : Bool) → all_done p s.threads ≡ b → false ≡ all_done p s.threads
      go false q = sym q
      go true q = let (a, e, end) = done_at p s.threads n q code in absurd (false_true (sym (never s a h e) ∙ ended_is a end))

pub done_all : (p : Prog) (ws : List ℕ) (n : ℕ) → length p ≤ n → DoneBefore p ws n → (s : St) → Packs ws s → true ≡ all_done p s.threads
done_all p ws n h d s k = sym (at_done p s.threads (λ i c e. let b = nth_below p i e in d s k i c (omega arith) e))

-- thread n of the code, as the n-th of those that the program has
pub code_at : (p : Program) (ts : List code.Thread) (n : ℕ) (t : code.Thread) → ts ≡ p.threads.items → n < length ts → t ≡ get_or ts n t → nth (program p) n ≡ some (thread t)
code_at p ts n t e h is = ap (λ (us : List code.Thread). nth (map thread us) n) (sym e) ∙ nth_map thread ts n t h ∙ ap (λ (z : code.Thread). some (thread z)) (sym is)
