-- A printed instruction is read as that instruction.
use Rattle.std.proofs.Common.{◌≡◌, ℕ, ◌<◌, ◌≤◌, true, false, not, ◌&&◌, ltb, ◌⊎◌, List, [], ◌∷◌, ◌++◌, length, codes, decimal, sym, refl, ◌∙◌, subst}
use mathlib.Core.Option.{some, none}
use Rattle.std.proofs.lemmas.Bool.{and_parts, and_left, ltb-true}
use Rattle.model.specs.Code.{opt, I, sets, adds, loads, stores, fence, ok_i}
use Rattle.text.specs.Bytes.{Word, blank, letter, all, empty, word, same, tokens}
use Rattle.text.specs.Grammar.{Places, register, number, place, instruction}
use Rattle.text.specs.Shows.{show_register, show_place, show_i}
use Rattle.text.specs.Fine.{seen_i}
use Rattle.text.proofs.Forms.{is_load, is_store}
use Rattle.text.proofs.Ordering.{Proper, Known, counts, count, Placed, placed}
use Rattle.text.proofs.Picks.{opt_is}
use Rattle.text.proofs.Spelling.{spell_word, spell_last, word_no_sign, number_word, number_read, register_word, register_read}
use Rattle.text.proofs.Tidy.{tidy, all_append, word_tidy}

word_letters : (w : Word) → word w ≡ true → all letter w ≡ true
word_letters w e = (and_parts (not (empty w)) (all letter w) e).1

abbrev eq : Word
eq = codes "="

-- what is promised of a printed instruction: its tokens, how they are read, and that it is tidy
pub record Said (ns : List Word) (ps : Places) (i : I) (m : ℕ) : Type 0 where
  pub first : Word
  pub more : List Word
  pub spelt : tokens (show_i ns i) ≡ some (first ∷ more)
  pub after : Places
  pub read : instruction ps (first ∷ more) ≡ some (after, i)
  pub known : Known ns m after
  pub tidied : all tidy (show_i ns i) ≡ true

-- no printed instruction is blank
pub dark : (ns : List Word) (i : I) → all blank (show_i ns i) ≡ false
dark ns (sets r n) = refl
dark ns (adds r a b) = refl
dark ns (loads r x) = refl
dark ns (stores x r) = refl
dark ns fence = refl

-- an instruction without a place leaves the count as it is
still : (ns : List Word) (n m : ℕ) (i : I) → ((k : ℕ) → seen_i k i ≡ some k) → counts ns n i ≡ some m → m ≡ n
still [] n m i h e = cc
still (w ∷ ws) n m i h e = let f = h n in cc

load_count : (ns : List Word) (n r x : ℕ) → counts ns n (loads r x) ≡ count ns n x
load_count [] n r x = refl
load_count (w ∷ ws) n r x = refl

store_count : (ns : List Word) (n x r : ℕ) → counts ns n (stores x r) ≡ count ns n x
store_count [] n x r = refl
store_count (w ∷ ws) n x r = refl

module _ (ns : List Word) (ps : Places) (n m : ℕ) (proper : Proper ns) (known : Known ns n ps) (fits : (length ns ≡ 0) ⊎ (m ≤ length ns)) where
  as_before : m ≡ n → Known ns m ps
  as_before e = subst (λ (k : ℕ). Known ns k ps) (sym e) known

  tidy_register : (r : ℕ) → r < 4 → all tidy (show_register r) ≡ true
  tidy_register r l = word_tidy (show_register r) (word_letters (show_register r) (register_word r l))

  tidy_place : (x : ℕ) → Placed ns ps x m → all tidy (show_place ns x) ≡ true
  tidy_place x p = word_tidy (show_place ns x) (word_letters (show_place ns x) p.is_word)

  say_set : (r v : ℕ) → r < 4 → v < 16 → m ≡ n → Said ns ps (sets r v) m
  say_set r v l k e = record {
    first = show_register r;
    more = eq ∷ decimal v ∷ [];
    spelt = spell_word [] (show_register r) (codes " = " ++ decimal v) (register_word r l) refl ∙ spell_last (show_register r ∷ eq ∷ []) (decimal v) (number_word v k);
    after = ps;
    read = opt_is none (λ (r : ℕ). opt (number (decimal v)) none (λ (v : ℕ). some (ps, sets r v))) (register_read r l) ∙ opt_is none (λ (v : ℕ). some (ps, sets r v)) (number_read v k);
    known = as_before e;
    tidied = all_append tidy (show_register r) (codes " = " ++ decimal v) (tidy_register r l) (word_tidy (decimal v) (word_letters (decimal v) (number_word v k)));
  }

  say_add : (r a b : ℕ) → r < 4 → a < 4 → b < 4 → m ≡ n → Said ns ps (adds r a b) m
  say_add r a b l j k e = record {
    first = show_register r;
    more = eq ∷ show_register a ∷ codes "+" ∷ show_register b ∷ [];
    spelt =
        spell_word [] (show_register r) (codes " = " ++ (show_register a ++ (codes " + " ++ show_register b))) (register_word r l) refl
        ∙ spell_word (show_register r ∷ eq ∷ []) (show_register a) (codes " + " ++ show_register b) (register_word a j) refl
        ∙ spell_last (show_register r ∷ eq ∷ show_register a ∷ codes "+" ∷ []) (show_register b) (register_word b k);
    after = ps;
    read =
        opt_is none (λ (r : ℕ). opt (register (show_register a)) none (λ (a : ℕ). opt (register (show_register b)) none (λ (b : ℕ). some (ps, adds r a b)))) (register_read r l)
        ∙ opt_is none (λ (a : ℕ). opt (register (show_register b)) none (λ (b : ℕ). some (ps, adds r a b))) (register_read a j)
        ∙ opt_is none (λ (b : ℕ). some (ps, adds r a b)) (register_read b k);
    known = as_before e;
    tidied =
        all_append tidy (show_register r) (codes " = " ++ (show_register a ++ (codes " + " ++ show_register b))) (tidy_register r l)
        (all_append tidy (show_register a) (codes " + " ++ show_register b) (tidy_register a j) (tidy_register b k));
  }

  say_load : (r x : ℕ) → r < 4 → Placed ns ps x m → Said ns ps (loads r x) m
  say_load r x l p = record {
    first = show_register r;
    more = eq ∷ codes "[" ∷ show_place ns x ∷ codes "]" ∷ [];
    spelt =
        spell_word [] (show_register r) (codes " = [" ++ (show_place ns x ++ codes "]")) (register_word r l) refl
        ∙ spell_word (show_register r ∷ eq ∷ codes "[" ∷ []) (show_place ns x) (codes "]") p.is_word refl;
    after = p.after;
    read =
        is_load ps (show_register r) eq (codes "[") (show_place ns x) (codes "]") (word_no_sign (show_place ns x) 43 p.is_word refl) refl
        ∙ opt_is none (λ (r : ℕ). opt (place ps (show_place ns x)) none (λ (q : Places × ℕ). some (q.0, loads r q.1))) (register_read r l)
        ∙ opt_is none (λ (q : Places × ℕ). some (q.0, loads r q.1)) p.read;
    known = p.known;
    tidied =
        all_append tidy (show_register r) (codes " = [" ++ (show_place ns x ++ codes "]")) (tidy_register r l)
        (all_append tidy (show_place ns x) (codes "]") (tidy_place x p) refl);
  }

  say_store : (x r : ℕ) → r < 4 → Placed ns ps x m → Said ns ps (stores x r) m
  say_store x r l p = record {
    first = codes "[";
    more = show_place ns x ∷ codes "]" ∷ eq ∷ show_register r ∷ [];
    spelt =
        spell_word (codes "[" ∷ []) (show_place ns x) (codes "] = " ++ show_register r) p.is_word refl
        ∙ spell_last (codes "[" ∷ show_place ns x ∷ codes "]" ∷ eq ∷ []) (show_register r) (register_word r l);
    after = p.after;
    read =
        is_store ps (codes "[") (show_place ns x) (codes "]") eq (show_register r)
        (and_left (same (show_place ns x) eq) _ (word_no_sign (show_place ns x) 61 p.is_word refl))
        (and_left (same (show_place ns x) eq) _ (word_no_sign (show_place ns x) 61 p.is_word refl))
        refl
        ∙ opt_is none (λ (q : Places × ℕ). opt (register (show_register r)) none (λ (r : ℕ). some (q.0, stores q.1 r))) p.read
        ∙ opt_is none (λ (r : ℕ). some (p.after, stores x r)) (register_read r l);
    known = p.known;
    tidied = all_append tidy (show_place ns x) (codes "] = " ++ show_register r) (tidy_place x p) (tidy_register r l);
  }

  pub said : (i : I) → ok_i i ≡ true → counts ns n i ≡ some m → Said ns ps i m
  said (sets r v) ok e =
      let p = and_parts (ltb r 4) (ltb v 16) ok in
      say_set r v (ltb-true r 4 p.0) (ltb-true v 16 p.1) (still ns n m (sets r v) (λ k. refl) e)
  said (adds r a b) ok e =
      let p = and_parts (ltb r 4) (ltb a 4 && ltb b 4) ok in
      let q = and_parts (ltb a 4) (ltb b 4) p.1 in
      say_add r a b (ltb-true r 4 p.0) (ltb-true a 4 q.0) (ltb-true b 4 q.1) (still ns n m (adds r a b) (λ k. refl) e)
  said (loads r x) ok e =
      let p = and_parts (ltb r 4) (ltb x 8) ok in
      say_load r x (ltb-true r 4 p.0) (placed ns ps n x m proper known (ltb-true x 8 p.1) (sym (load_count ns n r x) ∙ e) fits)
  said (stores x r) ok e =
      let p = and_parts (ltb x 8) (ltb r 4) ok in
      say_store x r (ltb-true r 4 p.1) (placed ns ps n x m proper known (ltb-true x 8 p.0) (sym (store_count ns n x r) ∙ e) fits)
  said fence ok e = record {
    first = codes "fence";
    more = [];
    spelt = refl;
    after = ps;
    read = refl;
    known = as_before (still ns n m fence (λ k. refl) e);
    tidied = refl;
  }
