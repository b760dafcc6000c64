-- A move on words is the definition's: what the threads read and did is what the definition says of the state.
use Rattle.std.proofs.Common.{◌≡◌, ℕ, ◌+◌, ◌*◌, ◌^◌, ◌<◌, ◌≤◌, Bool, true, false, List, [], ◌∷◌, length, get_or, set, sym, refl, ap, ◌∙◌, subst, arith}
use Rattle.std.proofs.Common.{Some, None}
use Rattle.std.proofs.Common as code
use mathlib.Core.Option.{Option, some, none}
use Rattle.std.proofs.lemmas.List.{length-set}
use Rattle.std.proofs.lemmas.Bool.{false≢true}
use Rattle.lent.specs.Nibbles.{nibbles, number}
use Rattle.lent.proofs.Fields.{nibbles_number, number_nibbles, nibbles_below, length_nibbles}
use Rattle.model.specs.Code.{pick, opt, nth, put, I, Prog}
use Rattle.model.specs.Guards.{Guard, free, gmove}
use Rattle.model.specs.Machine.{Wait, At, St, does, instr, move, next, out, with_thread, flushed, Move}
use Rattle.model.proofs.Tools.{nth_below}
use Rattle.program.proofs.Lookup.{nth_past}
use Rattle.machine.specs.Packed.{pack, pack_ts, PacksAt, Packs}
use Rattle.machine.specs.declared.threads.ThreadState.{ThreadState}
use Rattle.machine.specs.Meaning.{at}
use Rattle.machine.specs.Post.{Did, Holds, Stepped, ThreadAfter}
use Rattle.machine.proofs.Did.{put_set}
use Rattle.machine.proofs.StateLaws.{length_pack, same_count, thread_at}

-- memory's word
pub memory_is : (ws : List ℕ) (s : St) → Packs ws s → nibbles 8 (get_or ws 0 0) ≡ s.mem
unfolding pack
memory_is ws s h =
    ap (λ r. nibbles 8 (get_or r 0 0)) (sym h.1)
    ∙ ap (λ n. nibbles n (number s.mem)) (sym h.0.eight)
    ∙ nibbles_number s.mem h.0.mem

pub memory_put : (ws : List ℕ) (s : St) (w : ℕ) → w < 16 ^ 8 → Packs ws s → Packs (set ws 0 w) (record { mem = nibbles 8 w; threads = s.threads })
unfolding pack
memory_put ws s w b h = (
  record { eight = length_nibbles 8 w; mem = nibbles_below 8 w; each = h.0.each },
  ap (λ n. n ∷ pack_ts s.threads) (number_nibbles 8 w b) ∙ ap (λ r. set r 0 w) h.1,
)

-- a thread's next instruction
pub next_none : (p : Prog) (s : St) (n : ℕ) (a : At) → nth s.threads n ≡ some a → instr p n a ≡ none → move p s (next n) ≡ none
next_none p s n a e f =
    ap (λ (o : Option At). opt o none (λ a. opt (instr p n a) none (λ i. opt (does s.mem a i) none (λ b. some (with_thread s n b))))) e
    ∙ ap (λ (o : Option I). opt o none (λ i. opt (does s.mem a i) none (λ b. some (with_thread s n b)))) f

next_by : (p : Prog) (s : St) (n : ℕ) (a : At) (i : I) (r : Option At) → nth s.threads n ≡ some a → instr p n a ≡ some i → does s.mem a i ≡ r → move p s (next n) ≡ opt r none (λ b. some (with_thread s n b))
next_by p s n a i r e f g =
    ap (λ (o : Option At). opt o none (λ a. opt (instr p n a) none (λ i. opt (does s.mem a i) none (λ b. some (with_thread s n b))))) e
    ∙ ap (λ (o : Option I). opt o none (λ i. opt (does s.mem a i) none (λ b. some (with_thread s n b)))) f
    ∙ ap (λ (o : Option At). opt o none (λ b. some (with_thread s n b))) g

-- a thread that is not there moves nothing
pub next_missing : (p : Prog) (s : St) (n : ℕ) → nth s.threads n ≡ none → move p s (next n) ≡ none
next_missing p s n e = ap (λ (o : Option At). opt o none (λ a. opt (instr p n a) none (λ i. opt (does s.mem a i) none (λ b. some (with_thread s n b))))) e

pub out_missing : (p : Prog) (s : St) (n : ℕ) → nth s.threads n ≡ none → move p s (out n) ≡ none
out_missing p s n e = ap (λ (o : Option At). opt o none (λ a. flushed s n a a.waits)) e

pub next_some : (p : Prog) (s : St) (n : ℕ) (a b : At) (i : I) → nth s.threads n ≡ some a → instr p n a ≡ some i → does s.mem a i ≡ some b → move p s (next n) ≡ some (with_thread s n b)
next_some p s n a b i e f g = next_by p s n a i (some b) e f g

pub next_held : (p : Prog) (s : St) (n : ℕ) (a : At) (i : I) → nth s.threads n ≡ some a → instr p n a ≡ some i → does s.mem a i ≡ none → move p s (next n) ≡ none
next_held p s n a i e f g = next_by p s n a i none e f g

-- the thread with its next instruction done, where it can be done
pub after_is : (p : Prog) (s : St) (n : ℕ) (a : At) (i : I) (r : code.Option ThreadState) → nth s.threads n ≡ some a → instr p n a ≡ some i → Did s.mem a i r → ThreadAfter p s n r
after_is p s n a i (Some t) e f d = (nth_below s.threads n e, next_some p s n a (at t) i e f d)
after_is p s n a i None e f d = next_held p s n a i e f d

-- a thread's oldest store
pub out_none : (p : Prog) (s : St) (n : ℕ) (a : At) → nth s.threads n ≡ some a → a.waits ≡ [] → move p s (out n) ≡ none
out_none p s n a e f = ap (λ (o : Option At). opt o none (λ a. flushed s n a a.waits)) e ∙ ap (flushed s n a) f

pub out_some : (p : Prog) (s : St) (n : ℕ) (a : At) (w : Wait) (ws : List Wait) → nth s.threads n ≡ some a → a.waits ≡ w ∷ ws → move p s (out n) ≡ some (record { mem = put s.mem w.place w.val; threads = put s.threads n (record { pc = a.pc; regs = a.regs; waits = ws }) })
out_some p s n a w ws e f = ap (λ (o : Option At). opt o none (λ a. flushed s n a a.waits)) e ∙ ap (flushed s n a) f

-- the threads of a state that words hold
pub count_is : (p : Prog) (ws : List ℕ) (s : St) → Holds p ws → Packs ws s → length s.threads ≡ length p
count_is p ws s h k = let (t, x, e) = h in same_count ws s t k x ∙ e

pub room : (p : Prog) (ws : List ℕ) (n : ℕ) → Holds p ws → n < length p → 3 + 3 * n < length ws
room p ws n h l = let (s, k, e) = h in let w = length_pack ws s k in omega arith

-- and after a step
pub stepped_holds : (p : Prog) (step : St → Option St) (ws us : List ℕ) (r : Bool) → Holds p ws → Stepped step ws r us → r ≡ true → Holds p us
stepped_holds p step ws us true h g e = let (s, k, l) = h in let (t, f, y, m) = g s k in (t, y, m ∙ l)
stepped_holds p step ws us false h g e = absurd (false≢true e)

pub some_words : (p : Prog) (ws : List ℕ) → Holds p ws → 0 < length ws
some_words p ws h = let (s, k, e) = h in let w = length_pack ws s k in omega arith

-- what a thread put into a copy of the words needs
pub put_room : (ws us : List ℕ) (s : St) (n : ℕ) → Packs ws s → n < length s.threads → length us ≡ length ws → 3 + 3 * n < length us
put_room ws us s n k l e = let w = length_pack ws s k in omega arith

pub put_held : (ws us : List ℕ) (s : St) (n : ℕ) → Packs ws s → n < length s.threads → us ≡ ws → (t : St) × Packs us t × (n < length t.threads)
put_held ws us s n k l e = (s, subst (λ (w : List ℕ). Packs w s) (sym e) k, l)

pub missing : (p : Prog) (ws : List ℕ) (s : St) (n : ℕ) → Holds p ws → Packs ws s → length p ≤ n → nth s.threads n ≡ none
missing p ws s n h k l = let e = count_is p ws s h k in nth_past s.threads n (omega arith)

pub there : (p : Prog) (ws : List ℕ) (n : ℕ) → Holds p ws → n < length p → (a : At) × PacksAt (get_or ws (1 + 3 * n) 0) (get_or ws (2 + 3 * n) 0) (get_or ws (3 + 3 * n) 0) a
there p ws n h l = let (s, k, e) = h in let (a, f, x) = thread_at ws s n k (omega arith) in (a, x)

pub length_put : {A : Type 0} (xs : List A) (n : ℕ) (v : A) → length (put xs n v) ≡ length xs
length_put xs n v = ap length (put_set xs n v) ∙ length-set xs n v

-- a store gone to memory: its thread put in, and memory's word written
pub out_packs : (ws ws' : List ℕ) (s : St) (n : ℕ) (b : At) (x v m : ℕ) → Packs ws s → Packs ws' (with_thread s n b) → m < 16 ^ 8 → nibbles 8 m ≡ set (nibbles 8 (get_or ws 0 0)) x v → Packs (set ws' 0 m) (record { mem = put s.mem x v; threads = put s.threads n b })
out_packs ws ws' s n b x v m h k l e =
    let f : nibbles 8 m ≡ put s.mem x v = e ∙ ap (λ r. set r x v) (memory_is ws s h) ∙ sym (put_set s.mem x v) in
    subst (λ r. Packs (set ws' 0 m) (record { mem = r; threads = put s.threads n b })) f (memory_put ws' (with_thread s n b) m l k)

pub same_first : (w w' : Wait) (ws us us' : List Wait) → ws ≡ w ∷ us → ws ≡ w' ∷ us' → ws ≡ w ∷ us'
same_first w w' ws us us' e f = let g : w ≡ w' = cc in cc

-- nor under guards
pub guarded_missing : (g : Guard) (p : Prog) (s : St) (n : ℕ) → nth s.threads n ≡ none → gmove g p s (next n) ≡ none
guarded_missing g p s n e = ap (λ m. pick (free g s (next n)) m none) (next_missing p s n e) ∙ either (free g s (next n))
  where
    either : (b : Bool) → pick {A = Option St} b none none ≡ none
    either true = refl
    either false = refl
