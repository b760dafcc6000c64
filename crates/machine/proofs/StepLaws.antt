-- A step at once on words: a next instruction, and if it is a store, a store going out.
use Rattle.std.proofs.Common.{◌≡◌, ℕ, Bool, true, false, List, refl, ap, ◌∙◌}
use mathlib.Core.Option.{Option, some, none}
use Rattle.model.specs.Code.{pick, opt, nth, I, Prog}
use Rattle.model.specs.Machine.{At, St, next, out, move, instr, is_store, at_once}
use Rattle.model.proofs.Tools.{opt_is}
use Rattle.machine.specs.Packed.{Packs}
use Rattle.machine.specs.Post.{Stepped}

-- thread n of the state in the words has this for its next instruction
abbrev pub HasNext : Prog → ℕ → List ℕ → I → Type 0
HasNext p n ws i = (s : St) → Packs ws s → (a : At) × (nth s.threads n ≡ some a) × (instr p n a ≡ some i)

-- what is left of a step at once behind the next instruction i
abbrev onward : Prog → ℕ → I → Option St → Option St
onward p n i o = opt o none (λ t. pick (is_store i) (move p t (out n)) (some t))

once_by : (p : Prog) (s : St) (n : ℕ) (a : At) (i : I) (o : Option St) → nth s.threads n ≡ some a → instr p n a ≡ some i → move p s (next n) ≡ o → at_once p s n ≡ onward p n i o
once_by p s n a i o q e f = opt_is (nth s.threads n) none _ q ∙ opt_is (instr p n a) none _ e ∙ ap (onward p n i) f

-- where the thread has no next instruction
none_through : {A B C : Type 0} (o : Option A) (f : A → Option B) (g : A → B → Option C) → opt o none f ≡ none → opt o none (λ a. opt (f a) none (g a)) ≡ none
none_through none f g e = refl
none_through (some a) f g e = ap (λ z. opt z none (g a)) e

pub once_none : (p : Prog) (s : St) (n : ℕ) → opt (nth s.threads n) none (instr p n) ≡ none → at_once p s n ≡ none
once_none p s n e = none_through (nth s.threads n) (instr p n) (λ a i. onward p n i (move p s (next n))) e

-- an instruction that is no store
pub once_done : (p : Prog) (n : ℕ) (i : I) (ws us : List ℕ) → HasNext p n ws i → is_store i ≡ false → Stepped (λ s. move p s (next n)) ws true us → Stepped (λ s. at_once p s n) ws true us
once_done p n i ws us h b g = λ s x.
    let (a, q, e) = h s x in
    let (t, f, y, l) = g s x in
    (t, once_by p s n a i (some t) q e f ∙ ap (λ (b : Bool). pick b (move p t (out n)) (some t)) b, y, l)

-- a store, which then goes out
pub once_stored : (p : Prog) (n : ℕ) (i : I) (ws mid us : List ℕ) (r : Bool) → HasNext p n ws i → is_store i ≡ true → Stepped (λ s. move p s (next n)) ws true mid → Stepped (λ s. move p s (out n)) mid r us → Stepped (λ s. at_once p s n) ws r us
once_stored p n i ws mid us true h b g k = λ s x.
    let (a, q, e) = h s x in
    let (t, f, y, l) = g s x in
    let (u, d, z, m) = k t y in
    (u, once_by p s n a i (some t) q e f ∙ ap (λ (b : Bool). pick b (move p t (out n)) (some t)) b ∙ d, z, m ∙ l)
once_stored p n i ws mid us false h b g k = λ s x.
    let (a, q, e) = h s x in
    let (t, f, y, l) = g s x in
    once_by p s n a i (some t) q e f ∙ ap (λ (b : Bool). pick b (move p t (out n)) (some t)) b ∙ k t y
