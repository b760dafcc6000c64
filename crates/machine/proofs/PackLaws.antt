-- States as words and back: a number by its fields, a row by two numbers, a thread by three.
use Rattle.std.proofs.Common.{◌≡◌, ℕ, zero, suc, ◌+◌, ◌*◌, ◌/◌, ◌%◌, ◌^◌, ◌<◌, ◌≤◌, List, [], ◌∷◌, ◌++◌, map, length, get_or, take, drop, set, sym, refl, ap, ◌∙◌, mul-le-mul_left, add-one, arith}
use lib.Bits.{bit_and, bit_or, or_shifted_r}
use Rattle.std.proofs.lemmas.Nat.{pow-add, and_mask, shl_whole}
use Rattle.std.proofs.lemmas.List.{length-drop, length-take-le, length-map, map_more, map_push}
use Rattle.lent.specs.Nibbles.{nibbles, number, AllBelow}
use Rattle.model.specs.Machine.{Wait, At}
use Rattle.machine.specs.declared.stores.Store.{Store}
use Rattle.machine.specs.Stores.{wait, row}
use Rattle.lent.proofs.Fields.{nibbles_add, nibbles_number, number_below, number_nibbles}
use Rattle.machine.specs.Packed.{values, places, pairs, first_word, unpack_at, PacksAt}
use Rattle.machine.proofs.RowLaws.{row_pushed}

-- one more store read off the two words
pairs_last : (k v x : ℕ) → pairs (suc k) v x ≡ pairs k v x ++ record { place = get_or (nibbles (suc k) x) k 0 % 8; val = get_or (nibbles (suc k) v) k 0 } ∷ []
unfolding nibbles
pairs_last zero v x = refl
pairs_last (suc k) v x = ap (λ ws. record { place = x % 16 % 8; val = v % 16 } ∷ ws) (pairs_last k (v / 16) (x / 16))

pub unpacked_more : (items : List Store) (k v x : ℕ) (s : Store) → k < length items → s.place.0 ≡ get_or (nibbles (suc k) x) k 0 % 8 → s.value ≡ get_or (nibbles (suc k) v) k 0 → row items 0 k ≡ pairs k v x → row (set items k s) 0 (k + 1) ≡ pairs (k + 1) v x
unpacked_more items k v x s h p q e =
    let z : 0 + k ≡ k = omega arith in
    let w : wait s ≡ record { place = get_or (nibbles (suc k) x) k 0 % 8; val = get_or (nibbles (suc k) v) k 0 } = cc in
    ap (λ i. row (set items i s) 0 (k + 1)) (sym z)
    ∙ row_pushed items 0 k s (omega arith)
    ∙ ap (λ r. r ++ wait s ∷ []) e
    ∙ ap (λ (u : Wait). pairs k v x ++ u ∷ []) w
    ∙ sym (pairs_last k v x)
    ∙ ap (λ n. pairs n v x) (sym (add-one k))

-- a number by its fields, one more at the top
number_push : (ds : List ℕ) (d : ℕ) → number (ds ++ d ∷ []) ≡ number ds + 2 ^ (4 * length ds) * d
unfolding number
number_push [] d = omega arith
number_push (e ∷ ds) d =
    let i = number_push ds d in
    let n : 4 * suc (length ds) ≡ 4 * length ds + 4 = omega arith in
    let w : 2 ^ (4 * suc (length ds)) ≡ 2 ^ (4 * length ds) * 16 = ap (λ m. 2 ^ m) n ∙ pow-add 2 (4 * length ds) 4 in
    ap (λ z. e + 16 * z) i ∙ regroup e (number ds) (2 ^ (4 * length ds)) d ∙ ap (λ z. e + 16 * number ds + z * d) (sym w)
  where
    regroup : (a b p d : ℕ) → a + 16 * (b + p * d) ≡ a + 16 * b + p * 16 * d
    regroup a b p d = omega arith

-- put in by a shift
pub shifted_or : (k v d : ℕ) → k < 8 → v < 2 ^ (4 * k) → d < 16 → bit_or v (d * 2 ^ (4 * k) % 2 ^ 32) ≡ v + 2 ^ (4 * k) * d
shifted_or k v d h b c =
    ap (bit_or v) (shl_whole d 4 (4 * k) 32 c (omega arith)) ∙ or_shifted_r d (4 * k) v b ∙ regroup d (2 ^ (4 * k)) v
  where
    regroup : (d p v : ℕ) → d * p + v ≡ v + p * d
    regroup d p v = omega arith

pub pushed_below : (k v d : ℕ) → v < 2 ^ (4 * k) → d < 16 → v + 2 ^ (4 * k) * d < 2 ^ (4 * (k + 1))
pushed_below k v d b c =
    let n : 4 * (k + 1) ≡ 4 * k + 4 = omega arith in
    let w : 2 ^ (4 * (k + 1)) ≡ 2 ^ (4 * k) * 16 = ap (λ m. 2 ^ m) n ∙ pow-add 2 (4 * k) 4 in
    let l = mul-le-mul_left (2 ^ (4 * k)) (le_pred d c) in
    omega arith
  where
    le_pred : (d : ℕ) → d < 16 → d ≤ 15
    le_pred d h = omega arith

pub length_row : (items : List Store) (begin k : ℕ) → begin + k ≤ length items → length (row items begin k) ≡ k
length_row items begin k h =
    let l = length-drop begin items in
    length-map (take k (drop begin items)) wait ∙ length-take-le k (drop begin items) (omega arith)

-- one more store packed, its number or its place
pub packed_more : (f : Wait → ℕ) (ss : List Store) (k v : ℕ) (s : Store) → k < length ss → k < 8 → f (wait (get_or ss k s)) < 16 → v < 2 ^ (4 * k) → v ≡ number (map f (map wait (take k ss))) → bit_or v (f (wait (get_or ss k s)) * 2 ^ (4 * k) % 2 ^ 32) ≡ number (map f (map wait (take (k + 1) ss)))
packed_more f ss k v s h few small b e =
    let d = f (wait (get_or ss k s)) in
    let ws = map wait (take k ss) in
    let l : length (map f ws) ≡ k = length-map ws f ∙ length-map (take k ss) wait ∙ length-take-le k ss (omega arith) in
    shifted_or k v d few b small
    ∙ ap (λ z. z + 2 ^ (4 * k) * d) e
    ∙ ap (λ n. number (map f ws) + 2 ^ (4 * n) * d) (sym l)
    ∙ sym (ap number (ap (map f) (map_more wait ss k s h) ∙ map_push f ws (wait (get_or ss k s))) ∙ number_push (map f ws) d)

-- the first word of a thread
pub word_is : (regs pc len : ℕ) → regs < 65536 → pc ≤ 8 → len ≤ 8 → bit_or (bit_or regs (pc * 65536 % 2 ^ 32)) (len * 1048576 % 2 ^ 32) ≡ number (nibbles 4 regs) + 65536 * pc + 1048576 * len
word_is regs pc len r p l =
    let n = number_nibbles 4 regs r in
    let a : pc * 65536 % 2 ^ 32 ≡ pc * 65536 = omega arith in
    let b : len * 1048576 % 2 ^ 32 ≡ len * 1048576 = omega arith in
    let c : bit_or regs (pc * 65536) ≡ pc * 65536 + regs = or_shifted_r pc 16 regs r in
    let d : bit_or (pc * 65536 + regs) (len * 1048576) ≡ len * 1048576 + (pc * 65536 + regs) = or_shifted_r len 20 (pc * 65536 + regs) (omega arith) in
    ap (λ z. bit_or (bit_or regs z) (len * 1048576 % 2 ^ 32)) a
    ∙ ap (λ z. bit_or (bit_or regs (pc * 65536)) z) b
    ∙ ap (λ z. bit_or z (len * 1048576)) c
    ∙ d
    ∙ omega arith

-- the parts of a thread's first word
pub word_parts : (w v x : ℕ) (a : At) → PacksAt w v x a → (w / 65536 % 16 ≡ a.pc) × (w / 1048576 ≡ length a.waits) × (nibbles 4 w ≡ a.regs)
word_parts w v x a h =
    let i = h.0 in
    let few = i.few in
    let held = i.held in
    let e : first_word a ≡ w = let z = h.1 in cc in
    let p : 16 ^ length a.regs ≡ 65536 = ap (λ n. 16 ^ n) i.four in
    let r = number_below a.regs i.regs in
    let g : first_word a ≡ number a.regs + 16 ^ 4 * (a.pc + 16 * length a.waits) = omega arith in (
      omega arith,
      omega arith,
      ap (nibbles 4) (sym e ∙ g)
          ∙ nibbles_add 4 (number a.regs) (a.pc + 16 * length a.waits)
          ∙ ap (λ n. nibbles n (number a.regs)) (sym i.four)
          ∙ nibbles_number a.regs i.regs,
    )

pairs_packed : (ws : List Wait) → AllBelow 16 (values ws) → AllBelow 8 (places ws) → pairs (length ws) (number (values ws)) (number (places ws)) ≡ ws
unfolding number
pairs_packed [] h k = refl
pairs_packed (w ∷ ws) h k =
    let n = number (values ws) in
    let m = number (places ws) in
    let a = h.0 in
    let b = k.0 in
    let e1 : (w.place + 16 * m) % 16 % 8 ≡ w.place = omega arith in
    let e2 : (w.val + 16 * n) % 16 ≡ w.val = omega arith in
    let e3 : (w.val + 16 * n) / 16 ≡ n = omega arith in
    let e4 : (w.place + 16 * m) / 16 ≡ m = omega arith in
    let i = pairs_packed ws h.1 k.1 in
    ap (λ z. record { place = (w.place + 16 * m) % 16 % 8; val = (w.val + 16 * n) % 16 } ∷ pairs (length ws) z ((w.place + 16 * m) / 16)) e3
    ∙ ap (λ z. record { place = (w.place + 16 * m) % 16 % 8; val = (w.val + 16 * n) % 16 } ∷ pairs (length ws) n z) e4
    ∙ ap (λ (z : List Wait). record { place = (w.place + 16 * m) % 16 % 8; val = (w.val + 16 * n) % 16 } ∷ z) i
    ∙ ap (λ z. record { place = z; val = (w.val + 16 * n) % 16 } ∷ ws) e1
    ∙ ap (λ z. record { place = w.place; val = z } ∷ ws) e2

-- the words of a thread are that thread's alone
pub unpacked : (w v x : ℕ) (a : At) → PacksAt w v x a → unpack_at w v x ≡ a
unpacked w v x a h =
    let (e, f, g) = word_parts w v x a h in
    let z = h.1 in
    let ev : number (values a.waits) ≡ v = cc in
    let ex : number (places a.waits) ≡ x = cc in
    let r : pairs (w / 1048576) v x ≡ a.waits =
    ap (λ n. pairs n v x) f
    ∙ ap (λ n. pairs (length a.waits) n x) (sym ev)
    ∙ ap (λ n. pairs (length a.waits) (number (values a.waits)) n) (sym ex)
    ∙ pairs_packed a.waits h.0.values h.0.places in
    ap (λ n. record { pc = n; regs = nibbles 4 w; waits = pairs (w / 1048576) v x }) e
    ∙ ap (λ rs. record { pc = a.pc; regs = rs; waits = pairs (w / 1048576) v x }) g
    ∙ ap (λ ws. record { pc = a.pc; regs = a.regs; waits = ws }) r

pub three_words : (a b c a' b' c' : ℕ) → a ≡ a' → b ≡ b' → c ≡ c' → a ∷ b ∷ c ∷ [] ≡ a' ∷ b' ∷ c' ∷ []
three_words a b c a' b' c' e f g = cc

pub low_registers : (w : ℕ) → nibbles 4 (bit_and w 65535) ≡ nibbles 4 w
low_registers w =
    let m : bit_and w 65535 ≡ w % 65536 = and_mask w 16 in
    let e : w % 65536 + 16 ^ 4 * (w / 65536) ≡ w = omega arith in
    ap (nibbles 4) m ∙ sym (nibbles_add 4 (w % 65536) (w / 65536)) ∙ ap (nibbles 4) e

-- a thread by its parts
pub same_at : (pc pc' : ℕ) (rs rs' : List ℕ) (ws ws' : List Wait) → pc ≡ pc' → rs ≡ rs' → ws ≡ ws' → ◌≡◌ {A = At} (record { pc = pc; regs = rs; waits = ws }) (record { pc = pc'; regs = rs'; waits = ws' })
same_at pc pc' rs rs' ws ws' e f g = cc
