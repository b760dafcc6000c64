-- Fields written one after another, and the registers of threads as the fields of their words.
use Rattle.std.proofs.Common.{◌≡◌, ℕ, zero, suc, ◌+◌, ◌-◌, ◌*◌, ◌/◌, ◌%◌, ◌<◌, ◌≤◌, List, [], ◌∷◌, ◌++◌, length, get_or, take, drop, set, sym, refl, ap, ◌∙◌, add-one, arith, length-set, length-take, length-drop}
use mathlib.Core.Option.{some}
use Rattle.std.proofs.lemmas.List.{append_assoc, append-nil, take_more_set, take_all, drop-drop}
use Rattle.lent.specs.Nibbles.{nibbles}
use Rattle.model.specs.Code.{nth}
use Rattle.model.specs.Machine.{At, St, regs_of, outcome}
use Rattle.machine.specs.Packed.{Packs}
use Rattle.machine.proofs.PackLaws.{word_parts}
use Rattle.machine.proofs.StateLaws.{thread_at, length_pack}
use Rattle.machine.proofs.MoveLaws.{memory_is}

-- one field more
nibbles_suc : (j w : ℕ) → nibbles (suc j) w ≡ nibbles j w ++ get_or (nibbles (suc j) w) j 0 ∷ []
unfolding nibbles
nibbles_suc zero w = refl
nibbles_suc (suc j) w = ap (λ (l : List ℕ). w % 16 ∷ l) (nibbles_suc j (w / 16))

pub fields_none : (o : List ℕ) (w : ℕ) → take 0 o ≡ nibbles 0 w
unfolding nibbles
fields_none o w = refl

pub field_more : (o : List ℕ) (j w v : ℕ) → j < length o → take j o ≡ nibbles j w → v ≡ get_or (nibbles (suc j) w) j 0 → take (j + 1) (set o j v) ≡ nibbles (j + 1) w
field_more o j w v l h e =
    take_more_set o j v l
    ∙ ap (λ (z : List ℕ). z ++ v ∷ []) h
    ∙ ap (λ (x : ℕ). nibbles j w ++ x ∷ []) e
    ∙ sym (nibbles_suc j w)
    ∙ ap (λ (n : ℕ). nibbles n w) (sym (add-one j))

pub fields_all : (o : List ℕ) (j k w : ℕ) → j ≡ k → length o ≡ k → take j o ≡ nibbles j w → o ≡ nibbles k w
fields_all o j k w e l h = sym (take_all j o (omega arith)) ∙ h ∙ ap (λ (n : ℕ). nibbles n w) e

-- for crates above: what is kept from one place on is kept from a later one on
pub drop_further : (m n : ℕ) (a b : List ℕ) → m ≤ n → drop m a ≡ drop m b → drop n a ≡ drop n b
drop_further m n a b l e =
    let (d, p) = gap m n l in
    ap (λ (k : ℕ). drop k a) p ∙ sym (drop-drop d m a) ∙ ap (λ (z : List ℕ). drop d z) e ∙ drop-drop d m b ∙ ap (λ (k : ℕ). drop k b) (sym p)
  where
    gap : (m n : ℕ) → m ≤ n → (d : ℕ) × (n ≡ m + d)
    gap zero n l = (n, omega arith)
    gap (suc m) zero l = absurd (omega arith)
    gap (suc m) (suc n) l = let (d, p) = gap m n (omega arith) in (d, omega arith)

-- the register fields of the first n threads' words
abbrev pub reg_fields : ℕ → List ℕ → List ℕ
reg_fields zero ws = []
reg_fields (suc n) ws = reg_fields n ws ++ nibbles 4 (get_or ws (1 + 3 * n) 0)

regs_more : (as₁ : List At) (n : ℕ) (a : At) → nth as₁ n ≡ some a → regs_of (take (suc n) as₁) ≡ regs_of (take n as₁) ++ a.regs
regs_more [] n a e = let z : ◌≡◌ {A = ℕ} 0 1 = cc in absurd (omega arith)
regs_more (b ∷ as₁) zero a e = let f : b ≡ a = cc in append-nil b.regs ∙ ap (λ (z : At). z.regs) f
regs_more (b ∷ as₁) (suc n) a e = ap (λ (z : List ℕ). b.regs ++ z) (regs_more as₁ n a e) ∙ sym (append_assoc b.regs (regs_of (take n as₁)) a.regs)

fields_are : (ws : List ℕ) (s : St) (n : ℕ) → Packs ws s → n ≤ length s.threads → reg_fields n ws ≡ regs_of (take n s.threads)
fields_are ws s zero h l = refl
fields_are ws s (suc n) h l =
    let (a, e, p) = thread_at ws s n h (omega arith) in
    let (f, g, r) = word_parts (get_or ws (1 + 3 * n) 0) (get_or ws (2 + 3 * n) 0) (get_or ws (3 + 3 * n) 0) a p in
    ap (λ (z : List ℕ). z ++ nibbles 4 (get_or ws (1 + 3 * n) 0)) (fields_are ws s n h (omega arith))
    ∙ ap (λ (z : List ℕ). regs_of (take n s.threads) ++ z) r
    ∙ sym (regs_more s.threads n a e)

-- once, and the registers of the first n threads, are written
abbrev pub Written : List ℕ → List ℕ → ℕ → ℕ → Type 0
Written row ws once n = take (1 + 4 * n) row ≡ once ∷ reg_fields n ws

pub written_none : (row ws : List ℕ) (once : ℕ) → 0 < length row → Written (set row 0 once) ws once 0
written_none row ws once l = take_more_set row 0 once l

pub written_more : (row got new ws : List ℕ) (once n k : ℕ) → Written row ws once n → got ≡ take (1 + 4 * n) row ++ new → new ≡ nibbles k (get_or ws (1 + 3 * n) 0) → k ≡ 4 → got ≡ once ∷ reg_fields (n + 1) ws
written_more row got new ws once n k h e f l =
    e
    ∙ ap (λ (z : List ℕ). z ++ new) h
    ∙ ap (λ (z : List ℕ). once ∷ (reg_fields n ws ++ z)) (f ∙ ap (λ (j : ℕ). nibbles j (get_or ws (1 + 3 * n) 0)) l)
    ∙ ap (λ (j : ℕ). once ∷ reg_fields j ws) (sym (add-one n))

pub written_all : (row got new ws : List ℕ) (once n k m : ℕ) (s : St) → Packs ws s → length ws ≡ 1 + 3 * n → m ≡ n → Written row ws once m → got ≡ take (1 + 4 * n) row ++ new → new ≡ nibbles k (get_or ws 0 0) → k ≡ 8 → got ≡ once ∷ outcome s
written_all row got new ws once n k m s p l q h e f u =
    let c = length_pack ws s p in
    let r : reg_fields m ws ≡ regs_of s.threads = fields_are ws s m p (omega arith) ∙ ap regs_of (take_all m s.threads (omega arith)) in
    e
    ∙ ap (λ (j : ℕ). take (1 + 4 * j) row ++ new) (sym q)
    ∙ ap (λ (z : List ℕ). z ++ new) h
    ∙ ap (λ (z : List ℕ). once ∷ (z ++ new)) r
    ∙ ap (λ (z : List ℕ). once ∷ (regs_of s.threads ++ z)) (f ∙ ap (λ (j : ℕ). nibbles j (get_or ws 0 0)) u ∙ memory_is ws s p)

-- how long the row is that stands at a place of `out`
pub row_long : (out : List ℕ) (at w once : ℕ) → at + w ≤ length out → length (set (take (at + w - at) (drop at out)) 0 once) ≡ w
row_long out at w once h = omega (arith, length-set (take (at + w - at) (drop at out)) 0 once, length-take (at + w - at) (drop at out), length-drop at out)
