-- The words of a state give it back: no other state has them, and it has no other words. The words of the state where
-- every run begins are all 0.
use Rattle.std.proofs.Common.{◌≡◌, ℕ, zero, suc, ◌+◌, ◌*◌, ◌<◌, List, [], ◌∷◌, length, replicate, sym, refl, ap, ◌∙◌, arith}
use Rattle.lent.specs.Nibbles.{number, AllBelow}
use Rattle.model.specs.Code.{Prog}
use Rattle.model.specs.Machine.{At, St, starts, begin}
use Rattle.machine.specs.Packed.{first_word, values, places, pack_ts, pack, unpack_ts, unpack, WithinTs, Packs}
use Rattle.machine.proofs.PackLaws.{unpacked}
use Rattle.machine.proofs.StateLaws.{same_count}
use Rattle.machine.proofs.MoveLaws.{memory_is}

-- There and back

threads_back : (as₁ : List At) → WithinTs as₁ → unpack_ts (length as₁) (pack_ts as₁) ≡ as₁
threads_back [] h = refl
threads_back (a ∷ as₁) h =
    let w = first_word a in
    let v = number (values a.waits) in
    let x = number (places a.waits) in
    ap (λ (z : At). z ∷ unpack_ts (length as₁) (pack_ts as₁)) (unpacked w v x a (h.0, refl)) ∙ ap (λ (z : List At). a ∷ z) (threads_back as₁ h.1)

pub unpack_packs : (ws : List ℕ) (s : St) → Packs ws s → unpack (length s.threads) ws ≡ s
unfolding pack unpack
unpack_packs ws s h =
    ap (unpack (length s.threads)) (sym h.1)
    ∙ ap (λ (z : List ℕ). record { mem = z; threads = unpack_ts (length s.threads) (pack_ts s.threads) }) (memory_is (pack s) s (h.0, refl))
    ∙ ap (λ (z : List At). record { mem = s.mem; threads = z }) (threads_back s.threads h.0.each)

-- one state for the words
pub pack_one : (ws : List ℕ) (s t : St) → Packs ws s → Packs ws t → s ≡ t
pack_one ws s t h k = sym (unpack_packs ws s h) ∙ ap (λ n. unpack n ws) (same_count ws s t h k) ∙ unpack_packs ws t k

-- one list of words for the state
pub words_one : (ws us : List ℕ) (s : St) → Packs ws s → Packs us s → ws ≡ us
words_one ws us s h k = sym h.1 ∙ k.1

-- Where every run begins

pub zeros_below : (b k : ℕ) → 0 < b → AllBelow b (replicate k 0)
zeros_below b zero h = tt
zeros_below b (suc k) h = (h, zeros_below b k h)

pub within_starts : (p : Prog) → WithinTs (starts p)
within_starts [] = tt
within_starts (t ∷ ts) = (record { four = refl; regs = zeros_below 16 4 (omega arith); few = omega arith; held = omega arith; values = tt; places = tt }, within_starts ts)

zeros : (k : ℕ) → number (replicate k 0) ≡ 0
unfolding number
zeros zero = refl
zeros (suc k) = let i = zeros k in omega arith

starts_words : (p : Prog) → pack_ts (starts p) ≡ replicate (3 * length p) 0
unfolding number
starts_words [] = refl
starts_words (t ∷ ts) =
    let e : 3 * suc (length ts) ≡ suc (suc (suc (3 * length ts))) = omega arith in
    ap (λ (z : List ℕ). 0 ∷ 0 ∷ 0 ∷ z) (starts_words ts) ∙ sym (ap (λ k. replicate k 0) e)

pub start_packs : (p : Prog) → Packs (replicate (1 + 3 * length p) 0) (begin p)
unfolding pack
start_packs p =
    let e : 1 + 3 * length p ≡ suc (3 * length p) = omega arith in (
      record { eight = refl; mem = zeros_below 16 8 (omega arith); each = within_starts p },
      ap (λ n. n ∷ pack_ts (starts p)) (zeros 8) ∙ ap (λ r. 0 ∷ r) (starts_words p) ∙ sym (ap (λ k. replicate k 0) e),
    )
