-- What a move passes, read off the words of a state: the first word of its thread says all.
use Rattle.std.proofs.Common.{◌≡◌, ℕ, zero, suc, ◌+◌, ◌*◌, ◌/◌, ◌%◌, ◌<◌, ◌≤◌, List, [], ◌∷◌, length, get_or, refl, ap, ◌∙◌, arith}
use mathlib.Core.Option.{some}
use lib.Bits.{or_zero_r}
use Rattle.lent.specs.Records.{rec}
use Rattle.lent.proofs.RecordLaws.{length_rec, slice_index_rec}
use Rattle.model.specs.Code.{nth}
use Rattle.model.specs.Machine.{St, next}
use Rattle.model.specs.Guards.{hit}
use Rattle.model.proofs.Tools.{opt_is}
use Rattle.machine.specs.Packed.{unpack_at, unpack_ts, unpack}
use Rattle.explore.specs.Found.{width, state}
use Rattle.explore.proofs.MoveNumbers.{move_next, move_out}
use Rattle.guard.specs.Masks.{bit_of, mask}
use Rattle.guard.specs.Rules.{word_bit, hit_bits}

-- the thread that three words are, of all the words
thread_of : (t n : ℕ) (ws : List ℕ) → n < t → 3 * t ≤ length ws → nth (unpack_ts t ws) n ≡ some (unpack_at (get_or ws (3 * n) 0) (get_or ws (1 + 3 * n) 0) (get_or ws (2 + 3 * n) 0))
thread_of zero n ws h l = absurd (omega arith)
thread_of (suc t) n [] h l = absurd (omega arith)
thread_of (suc t) n (w ∷ []) h l = absurd (omega arith)
thread_of (suc t) n (w ∷ v ∷ []) h l = absurd (omega arith)
thread_of (suc t) zero (w ∷ v ∷ x ∷ ws) h l = refl
thread_of (suc t) (suc n) (w ∷ v ∷ x ∷ ws) h l =
    let us = w ∷ v ∷ x ∷ ws in
    let e0 : suc (suc (suc (3 * n))) ≡ 3 * suc n = omega arith in
    let e1 : suc (suc (suc (1 + 3 * n))) ≡ 1 + 3 * suc n = omega arith in
    let e2 : suc (suc (suc (2 + 3 * n))) ≡ 2 + 3 * suc n = omega arith in
    thread_of t n ws (omega arith) (omega arith)
    ∙ ap (λ k. some (unpack_at (get_or us k 0) (get_or us (suc (suc (suc (1 + 3 * n)))) 0) (get_or us (suc (suc (suc (2 + 3 * n)))) 0))) e0
    ∙ ap (λ k. some (unpack_at (get_or us (3 * suc n) 0) (get_or us k 0) (get_or us (suc (suc (suc (2 + 3 * n)))) 0))) e1
    ∙ ap (λ k. some (unpack_at (get_or us (3 * suc n) 0) (get_or us (1 + 3 * suc n) 0) (get_or us k 0))) e2

-- the thread's first word among the state's words, and any two behind it
first_word_of : (t n : ℕ) (ws : List ℕ) → n < t → 1 + 3 * t ≤ length ws → (v x : ℕ) × (nth (unpack t ws).threads n ≡ some (unpack_at (get_or ws (1 + 3 * n) 0) v x))
unfolding unpack
first_word_of t n [] h l = absurd (omega arith)
first_word_of t n (m ∷ ws) h l =
    let e : suc (3 * n) ≡ 1 + 3 * n = omega arith in
    let v = get_or ws (1 + 3 * n) 0 in
    let x = get_or ws (2 + 3 * n) 0 in
    (v, x, thread_of t n ws h (omega arith) ∙ ap (λ k. some (unpack_at (get_or (m ∷ ws) k 0) v x)) e)

pub state_word : (t : ℕ) (q : List ℕ) (i n : ℕ) → n < t → i * width t + width t ≤ length q → (v x : ℕ) × (nth (state t q i).threads n ≡ some (unpack_at (get_or q (i * width t + (1 + 3 * n)) 0) v x))
unfolding state
state_word t q i n h l =
    let len = length_rec q (width t) i l in
    let (v, x, e) = first_word_of t n (rec q (width t) i) h (omega arith) in
    (v, x, e ∙ ap (λ w. some (unpack_at w v x)) (slice_index_rec q (width t) i (1 + 3 * n) 0 (omega arith)))

-- what a thread passes that so many stores wait for
passes : (s : St) (n w v x c : ℕ) → w / 1048576 ≡ c → nth s.threads n ≡ some (unpack_at w v x) → mask (hit s (next n)) ≡ word_bit n (w / 65536 % 16) c
passes s n w v x zero z e = ap mask (opt_is (nth s.threads n) [] _ e) ∙ rw z
passes s n w v x (suc c) z e = ap mask (opt_is (nth s.threads n) [] _ e) ∙ rw z (or_zero_r (bit_of n (w / 65536 % 16)))

-- some store waits
pub some_wait : (n pc c : ℕ) → 0 < c → word_bit n pc c ≡ bit_of n pc
some_wait n pc zero h = absurd (omega arith)
some_wait n pc (suc c) h = refl

pub hit_next : (t : ℕ) (q : List ℕ) (i m : ℕ) → m < t → i * width t + width t ≤ length q → hit_bits t q i m ≡ word_bit m (get_or q (i * width t + (1 + 3 * m)) 0 / 65536 % 16) (get_or q (i * width t + (1 + 3 * m)) 0 / 1048576)
unfolding hit_bits
hit_next t q i m h l =
    let (v, x, e) = state_word t q i m h l in
    let w = get_or q (i * width t + (1 + 3 * m)) 0 in
    ap (λ a. mask (hit (state t q i) a)) (move_next t m h) ∙ passes (state t q i) m w v x (w / 1048576) refl e

pub hit_out : (t : ℕ) (q : List ℕ) (i m : ℕ) → t ≤ m → hit_bits t q i m ≡ 0
unfolding hit_bits
hit_out t q i m h = ap (λ a. mask (hit (state t q i) a)) (move_out t m h)
