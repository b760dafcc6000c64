-- The words of a state: those of its n-th thread stand from 1 + 3 * n on, and a thread put in changes just these.
use Rattle.std.proofs.Common.{◌≡◌, ℕ, zero, suc, ◌+◌, ◌*◌, ◌<◌, List, [], ◌∷◌, ◌++◌, map, length, get_or, set, sym, refl, ap, ◌∙◌, subst, arith}
use mathlib.Core.Option.{some}
use Rattle.lent.specs.Nibbles.{number, AllBelow}
use Rattle.lent.proofs.Fields.{nibbles_below, length_nibbles}
use Rattle.model.specs.Code.{nth, put}
use Rattle.model.specs.Machine.{Wait, At, St, with_thread}
use Rattle.machine.specs.declared.stores.Store.{Store}
use Rattle.machine.specs.declared.threads.ThreadState.{ThreadState}
use Rattle.machine.specs.Stores.{wait, row}
use Rattle.machine.specs.Meaning.{at}
use Rattle.machine.specs.Packed.{pack_at, pack_ts, pack, unpack_at, WithinAt, WithinTs, PacksAt, Packs}
use Rattle.machine.proofs.PackLaws.{unpacked, length_row}

-- the words of the n-th thread, from k on
length_ts : (as₁ : List At) → length (pack_ts as₁) ≡ 3 * length as₁
length_ts [] = refl
length_ts (a ∷ as₁) = let i = length_ts as₁ in omega arith

thread_words : (as₁ : List At) (n : ℕ) (a : At) → nth as₁ n ≡ some a → (get_or (pack_ts as₁) (3 * n) 0 ∷ get_or (pack_ts as₁) (1 + 3 * n) 0 ∷ get_or (pack_ts as₁) (2 + 3 * n) 0 ∷ [] ≡ pack_at a)
thread_words [] n a e = let z : ◌≡◌ {A = ℕ} 0 1 = cc in absurd (omega arith)
thread_words (b ∷ as₁) zero a e = let f : b ≡ a = cc in ap pack_at f
thread_words (b ∷ as₁) (suc n) a e =
    let e0 : 3 * suc n ≡ suc (suc (suc (3 * n))) = omega arith in
    let e1 : 1 + 3 * suc n ≡ suc (suc (suc (1 + 3 * n))) = omega arith in
    let e2 : 2 + 3 * suc n ≡ suc (suc (suc (2 + 3 * n))) = omega arith in
    let w = pack_ts (b ∷ as₁) in
    ap (λ k. get_or w k 0 ∷ get_or w (1 + 3 * suc n) 0 ∷ get_or w (2 + 3 * suc n) 0 ∷ []) e0
    ∙ ap (λ k. get_or (pack_ts as₁) (3 * n) 0 ∷ get_or w k 0 ∷ get_or w (2 + 3 * suc n) 0 ∷ []) e1
    ∙ ap (λ k. get_or (pack_ts as₁) (3 * n) 0 ∷ get_or (pack_ts as₁) (1 + 3 * n) 0 ∷ get_or w k 0 ∷ []) e2
    ∙ thread_words as₁ n a e

thread_put : (as₁ : List At) (n : ℕ) (a : At) (w v x : ℕ) → pack_at a ≡ w ∷ v ∷ x ∷ [] → n < length as₁ → set (set (set (pack_ts as₁) (3 * n) w) (1 + 3 * n) v) (2 + 3 * n) x ≡ pack_ts (put as₁ n a)
thread_put [] n a w v x e h = absurd (omega arith)
thread_put (b ∷ as₁) zero a w v x e h = ap (λ r. r ++ pack_ts as₁) (sym e)
thread_put (b ∷ as₁) (suc n) a w v x e h =
    let e0 : 3 * suc n ≡ suc (suc (suc (3 * n))) = omega arith in
    let e1 : 1 + 3 * suc n ≡ suc (suc (suc (1 + 3 * n))) = omega arith in
    let e2 : 2 + 3 * suc n ≡ suc (suc (suc (2 + 3 * n))) = omega arith in
    let ws = pack_ts (b ∷ as₁) in
    ap (λ k. set (set (set ws k w) (1 + 3 * suc n) v) (2 + 3 * suc n) x) e0
    ∙ ap (λ k. set (set (set ws (suc (suc (suc (3 * n)))) w) k v) (2 + 3 * suc n) x) e1
    ∙ ap (λ k. set (set (set ws (suc (suc (suc (3 * n)))) w) (suc (suc (suc (1 + 3 * n)))) v) k x) e2
    ∙ ap (λ r. pack_at b ++ r) (thread_put as₁ n a w v x e (omega arith))

pub within_nth : (as₁ : List At) (n : ℕ) (a : At) → WithinTs as₁ → nth as₁ n ≡ some a → WithinAt a
within_nth [] n a h e = let z : ◌≡◌ {A = ℕ} 0 1 = cc in absurd (omega arith)
within_nth (b ∷ as₁) zero a h e = let f : b ≡ a = cc in subst WithinAt f h.0
within_nth (b ∷ as₁) (suc n) a h e = within_nth as₁ n a h.1 e

pub within_put : (as₁ : List At) (n : ℕ) (a : At) → WithinTs as₁ → WithinAt a → WithinTs (put as₁ n a)
within_put [] n a h i = tt
within_put (b ∷ as₁) zero a h i = (i, h.1)
within_put (b ∷ as₁) (suc n) a h i = (h.0, within_put as₁ n a h.1 i)

nth_below : (as₁ : List At) (n : ℕ) → n < length as₁ → (a : At) × (nth as₁ n ≡ some a)
nth_below [] n h = absurd (omega arith)
nth_below (a ∷ as₁) zero h = (a, refl)
nth_below (a ∷ as₁) (suc n) h = nth_below as₁ n (omega arith)

-- how many words a state has
pub length_pack : (ws : List ℕ) (s : St) → Packs ws s → length ws ≡ 1 + 3 * length s.threads
unfolding pack
length_pack ws s h = let e = ap length h.1 in let l = length_ts s.threads in omega arith

-- the thread that stands at 1 + 3 * n
abbrev pub AtWords : List ℕ → ℕ → At → Type 0
AtWords ws n a = PacksAt (get_or ws (1 + 3 * n) 0) (get_or ws (2 + 3 * n) 0) (get_or ws (3 + 3 * n) 0) a

pub thread_at : (ws : List ℕ) (s : St) (n : ℕ) → Packs ws s → n < length s.threads → (a : At) × (nth s.threads n ≡ some a) × AtWords ws n a
unfolding pack
thread_at ws s n h l =
    let (a, e) = nth_below s.threads n l in
    let t = thread_words s.threads n a e in
    let g : (k : ℕ) → get_or ws (suc k) 0 ≡ get_or (pack_ts s.threads) k 0 = λ k. ap (λ r. get_or r (suc k) 0) (sym h.1) in
    let e1 : 1 + 3 * n ≡ suc (3 * n) = omega arith in
    let e2 : 2 + 3 * n ≡ suc (1 + 3 * n) = omega arith in
    let e3 : 3 + 3 * n ≡ suc (2 + 3 * n) = omega arith in
    let g1 = ap (λ k. get_or ws k 0) e1 ∙ g (3 * n) in
    let g2 = ap (λ k. get_or ws k 0) e2 ∙ g (1 + 3 * n) in
    let g3 = ap (λ k. get_or ws k 0) e3 ∙ g (2 + 3 * n) in
    (a, e, (within_nth s.threads n a h.0.each e, cc))

-- and it alone
pub thread_is : (ws : List ℕ) (s : St) (n : ℕ) (b : At) → Packs ws s → n < length s.threads → b ≡ unpack_at (get_or ws (1 + 3 * n) 0) (get_or ws (2 + 3 * n) 0) (get_or ws (3 + 3 * n) 0) → nth s.threads n ≡ some b
thread_is ws s n b h l f =
    let (a, e, p) = thread_at ws s n h l in
    let u = unpacked (get_or ws (1 + 3 * n) 0) (get_or ws (2 + 3 * n) 0) (get_or ws (3 + 3 * n) 0) a p in
    e ∙ ap some (sym (f ∙ u))

-- what a thread of the code holds fits its words
all_small : (f : Wait → ℕ) (b : ℕ) (items : List Store) → ((k : ℕ) (s : Store) → k < length items → f (wait (get_or items k s)) < b) → (begin len : ℕ) → AllBelow b (map f (row items begin len))
all_small f b items small begin zero = tt
all_small f b [] small zero (suc len) = tt
all_small f b [] small (suc begin) (suc len) = tt
all_small f b (s ∷ items) small zero (suc len) = (small 0 s (omega arith), all_small f b items (λ k d l. small (suc k) d (omega arith)) zero len)
all_small f b (s ∷ items) small (suc begin) (suc len) = all_small f b items (λ k d l. small (suc k) d (omega arith)) begin (suc len)

pub within_of : (t : ThreadState) → WithinAt (at t)
within_of t =
    let q = t.row in
    let e = q.eight in
    let r = q.room in
    let h = t.held in
    let l = length_row q.items q.begin q.len (omega arith) in
    record {
      four = length_nibbles 4 t.regs;
      regs = nibbles_below 4 t.regs;
      few = t.few;
      held = omega arith;
      values = all_small (λ (w : Wait). w.val) 16 q.items (λ k s l. (q.small k s l).1) q.begin q.len;
      places = all_small (λ (w : Wait). w.place) 8 q.items (λ k s l. (q.small k s l).0) q.begin q.len;
    }

-- a thread put in
pub put_packs : (ws : List ℕ) (s : St) (n : ℕ) (t : ThreadState) (tw : List ℕ) → Packs ws s → n < length s.threads → tw ≡ pack_at (at t) → Packs (set (set (set ws (1 + 3 * n) (get_or tw 0 0)) (2 + 3 * n) (get_or tw 1 0)) (3 + 3 * n) (get_or tw 2 0)) (with_thread s n (at t))
unfolding pack
put_packs ws s n t tw h l e =
    let e1 : 1 + 3 * n ≡ suc (3 * n) = omega arith in
    let e2 : 2 + 3 * n ≡ suc (1 + 3 * n) = omega arith in
    let e3 : 3 + 3 * n ≡ suc (2 + 3 * n) = omega arith in
    let w = get_or tw 0 0 in
    let v = get_or tw 1 0 in
    let x = get_or tw 2 0 in
    let p : pack_at (at t) ≡ w ∷ v ∷ x ∷ [] = three tw e in (
      record { eight = h.0.eight; mem = h.0.mem; each = within_put s.threads n (at t) h.0.each (within_of t) },
      ap (λ r. number s.mem ∷ r) (sym (thread_put s.threads n (at t) w v x p l))
          ∙ ap (λ k. set (set (set (pack s) k w) (suc (1 + 3 * n)) v) (suc (2 + 3 * n)) x) (sym e1)
          ∙ ap (λ k. set (set (set (pack s) (1 + 3 * n) w) k v) (suc (2 + 3 * n)) x) (sym e2)
          ∙ ap (λ k. set (set (set (pack s) (1 + 3 * n) w) (2 + 3 * n) v) k x) (sym e3)
          ∙ ap (λ r. set (set (set r (1 + 3 * n) w) (2 + 3 * n) v) (3 + 3 * n) x) h.1,
    )
  where
    three : (r : List ℕ) → r ≡ pack_at (at t) → pack_at (at t) ≡ get_or r 0 0 ∷ get_or r 1 0 ∷ get_or r 2 0 ∷ []
    three r e = sym (ap (λ z. get_or z 0 0 ∷ get_or z 1 0 ∷ get_or z 2 0 ∷ []) e)

-- two states in the same words have as many threads
pub same_count : (ws : List ℕ) (s t : St) → Packs ws s → Packs ws t → length s.threads ≡ length t.threads
same_count ws s t h k = let a = length_pack ws s h in let b = length_pack ws t k in omega arith
