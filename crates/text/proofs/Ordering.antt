-- Places numbered in the order in which they first come: a printed place is read as its number.
use Rattle.std.proofs.Common.{◌≡◌, ℕ, zero, suc, ◌<◌, ◌≤◌, true, false, not, ◌&&◌, ◌⊎◌, List, [], ◌∷◌, ◌++◌, length, take, decimal, sym, refl, ap, ◌∙◌, subst, inl, inr, ⊎_elim, arith}
use mathlib.Core.Option.{Option, some, none}
use Rattle.std.proofs.lemmas.Bool.{and_parts, not-true, lt-ltb, le-ltb, eq-eqb, ne_eqb, cases_lt, cases_eq, or_parts}
use Rattle.std.proofs.lemmas.List.{length-take-le}
use Rattle.std.proofs.lemmas.Bool.Decides.{same_from_decides, Decides-like}
use Rattle.model.specs.Code.{opt, nth, I}
use Rattle.text.specs.Bytes.{Word, digit, all, empty, word, same, index_of, has}
use Rattle.text.specs.Grammar.{Places, place, by_word}
use Rattle.text.specs.Shows.{show_place}
use Rattle.text.specs.Fine.{apart, no_numerals, see, seen_i}
use Rattle.text.proofs.Lookup.{same_decides}
use Rattle.text.proofs.Picks.{pick_true, pick_false, opt_is}
use Rattle.text.proofs.PlaceNames.{numeral_is, new}
use Rattle.text.proofs.Spelling.{number_word, numeral_digits, numeral_read}

pub same_sym : (v w : Word) → same v w ≡ same w v
same_sym v w = same_from_decides (same v w) (same w v) (same_decides v w) (Decides-like (same w v) (λ (e : w ≡ v). sym e) (λ (e : v ≡ w). sym e) (same_decides w v))

pub same_refl : (w : Word) → same w w ≡ true
same_refl w = (same_decides w w).1 refl

-- a word that is not among others is none of them
pub other : (v w : Word) (vs : List Word) (k : ℕ) → has v vs ≡ false → nth vs k ≡ some w → same w v ≡ false
other v w [] k h e = absurd (let z : ◌≡◌ {A = ℕ} 0 1 = cc in omega arith)
other v w (u ∷ vs) zero h e =
    let is : u ≡ w = cc in
    same_sym w v ∙ ap (same v) (sym is) ∙ (or_parts (same v u) (has v vs) h).0
other v w (u ∷ vs) (suc k) h e = other v w vs k (or_parts (same v u) (has v vs) h).1 e

pub record Parts (w : Word) (ws : List Word) : Type 0 where
  pub is_word : word w ≡ true
  pub once : has w ws ≡ false
  pub rest : apart ws ≡ true

pub parts : (w : Word) (ws : List Word) → apart (w ∷ ws) ≡ true → Parts w ws
parts w ws e =
    let p = and_parts (word w) (not (has w ws) && apart ws) e in
    let q = and_parts (not (has w ws)) (apart ws) p.1 in
    record { is_word = p.0; once = not-true (has w ws) q.0; rest = q.1 }

pub apart_word : (ns : List Word) (x : ℕ) (w : Word) → apart ns ≡ true → nth ns x ≡ some w → word w ≡ true
apart_word [] x w a e = absurd (let z : ◌≡◌ {A = ℕ} 0 1 = cc in omega arith)
apart_word (v ∷ vs) zero w a e = let is : v ≡ w = cc in ap word (sym is) ∙ (parts v vs a).is_word
apart_word (v ∷ vs) (suc x) w a e = apart_word vs x w (parts v vs a).rest e

no_numeral_at : (ns : List Word) (x : ℕ) (w : Word) → no_numerals ns ≡ true → nth ns x ≡ some w → all digit w ≡ false
no_numeral_at [] x w a e = absurd (let z : ◌≡◌ {A = ℕ} 0 1 = cc in omega arith)
no_numeral_at (v ∷ vs) zero w a e =
    let is : v ≡ w = cc in
    ap (all digit) (sym is) ∙ not-true (all digit v) (and_parts (not (all digit v)) (no_numerals vs) a).0
no_numeral_at (v ∷ vs) (suc x) w a e = no_numeral_at vs x w (and_parts (not (all digit v)) (no_numerals vs) a).1 e

-- a word that came before has its number, and a new one none
came : (ns : List Word) (n x : ℕ) (w : Word) → apart ns ≡ true → x < n → nth ns x ≡ some w → index_of w (take n ns) ≡ some x
came [] n x w a l e = absurd (let z : ◌≡◌ {A = ℕ} 0 1 = cc in omega arith)
came (v ∷ vs) zero x w a l e = absurd (omega arith)
came (v ∷ vs) (suc n) zero w a l e = let is : v ≡ w = cc in pick_true _ _ (ap (same w) is ∙ same_refl w)
came (v ∷ vs) (suc n) (suc x) w a l e =
    pick_false _ _ (other v w vs x (parts v vs a).once e) ∙ ap (λ (o : Option ℕ). opt o none (λ (k : ℕ). some (suc k))) (came vs n x w (parts v vs a).rest (omega arith) e)

is_new : (ns : List Word) (n : ℕ) (w : Word) → apart ns ≡ true → nth ns n ≡ some w → index_of w (take n ns) ≡ none
is_new [] n w a e = absurd (let z : ◌≡◌ {A = ℕ} 0 1 = cc in omega arith)
is_new (v ∷ vs) zero w a e = refl
is_new (v ∷ vs) (suc n) w a e =
    pick_false _ _ (other v w vs n (parts v vs a).once e) ∙ ap (λ (o : Option ℕ). opt o none (λ (k : ℕ). some (suc k))) (is_new vs n w (parts v vs a).rest e)

pub take_one_more : {A : Type 0} (xs : List A) (n : ℕ) (x : A) → nth xs n ≡ some x → take n xs ++ x ∷ [] ≡ take (suc n) xs
take_one_more [] n x e = absurd (let z : ◌≡◌ {A = ℕ} 0 1 = cc in omega arith)
take_one_more (y ∷ xs) zero x e = let is : y ≡ x = cc in ap (λ (u : _). u ∷ []) (sym is)
take_one_more (y ∷ xs) (suc n) x e = ap (λ (us : List _). y ∷ us) (take_one_more xs n x e)

pub nth_some : {A : Type 0} (xs : List A) (k : ℕ) → k < length xs → (x : A) × (nth xs k ≡ some x)
nth_some [] k l = absurd (omega arith)
nth_some (x ∷ xs) zero l = (x, refl)
nth_some (x ∷ xs) (suc k) l = nth_some xs k (omega arith)

-- the places named so far, where n of the words ns have come
abbrev pub Known : List Word → ℕ → Places → Type 0
Known [] n ps = ps.words ≡ []
Known (w ∷ ws) n ps = (ps.numerals ≡ false) × (ps.words ≡ take n (w ∷ ws))

-- how the count goes on: with numerals there is none
abbrev pub counts : List Word → ℕ → I → Option ℕ
counts [] n i = some n
counts (w ∷ ws) n i = seen_i n i

abbrev pub count : List Word → ℕ → ℕ → Option ℕ
count [] n x = some n
count (w ∷ ws) n x = see n x

-- what holds of the words
abbrev pub Proper : List Word → Type 0
Proper [] = Unit {0}
Proper (w ∷ ws) = (apart (w ∷ ws) ≡ true) × (no_numerals (w ∷ ws) ≡ true) × (length (w ∷ ws) ≤ 8)

see_cases : (n x m : ℕ) → see n x ≡ some m → ((x < n) × (m ≡ n)) ⊎ ((x ≡ n) × (m ≡ suc n))
see_cases n x m e =
    ⊎_elim
    (λ l. let f : some n ≡ some m = sym (pick_true _ _ (lt-ltb x n l)) ∙ e in let g : m ≡ n = cc in inl (l, g))
    (λ l. let f = sym (pick_false _ _ (le-ltb x n l)) ∙ e in
    ⊎_elim
    (λ q. let g : some (suc n) ≡ some m = sym (pick_true _ _ (eq-eqb x n q)) ∙ f in let h : m ≡ suc n = cc in inr (q, h))
    (λ q. let g : none ≡ some m = sym (pick_false _ _ (ne_eqb x n q)) ∙ f in absurd (let z : ◌≡◌ {A = ℕ} 0 1 = cc in omega arith))
    (cases_eq x n))
    (cases_lt x n)

pub see_more : (n x m : ℕ) → see n x ≡ some m → n ≤ m
see_more n x m e = ⊎_elim (λ p. let f = p.1 in omega arith) (λ p. let f = p.1 in omega arith) (see_cases n x m e)

-- the word that is printed of a place is a word, and is read as the place
pub record Placed (ns : List Word) (ps : Places) (x m : ℕ) : Type 0 where
  pub is_word : word (show_place ns x) ≡ true
  pub after : Places
  pub read : place ps (show_place ns x) ≡ some (after, x)
  pub known : Known ns m after

module _ (v : Word) (vs : List Word) (ps : Places) (n x m : ℕ) (proper : Proper (v ∷ vs)) (known : Known (v ∷ vs) n ps) (within : m ≤ length (v ∷ vs)) (w : Word) (at : nth (v ∷ vs) x ≡ some w) where
  shown : show_place (v ∷ vs) x ≡ w
  shown = ap (λ (o : Option Word). opt o (decimal x) (λ (w : Word). w)) at

  a_word : word w ≡ true
  a_word = apart_word (v ∷ vs) x w proper.0 at

  by : place ps w ≡ by_word ps w
  by = pick_true _ _ a_word ∙ pick_false _ _ (no_numeral_at (v ∷ vs) x w proper.1 at)

  again : x < n → m ≡ n → Placed (v ∷ vs) ps x m
  again l q = record {
    is_word = ap word shown ∙ a_word;
    after = ps;
    read = ap (place ps) shown ∙ by ∙ pick_false _ _ known.0 ∙ opt_is _ _ (ap (index_of w) known.1 ∙ came (v ∷ vs) n x w proper.0 l at);
    known = subst (λ (k : ℕ). Known (v ∷ vs) k ps) (sym q) known;
  }

  first : x ≡ n → m ≡ suc n → Placed (v ∷ vs) ps x m
  first q r =
      let at_n : nth (v ∷ vs) n ≡ some w = ap (nth (v ∷ vs)) (sym q) ∙ at in
      let long : length ps.words ≡ n = ap length known.1 ∙ length-take-le n (v ∷ vs) (omega arith) in
      let small_enough : length ps.words < 8 = omega (arith, proper.2) in
      record {
        is_word = ap word shown ∙ a_word;
        after = record { numerals = false; words = ps.words ++ w ∷ [] };
        read = ap (place ps) shown ∙ by ∙ new ps w known.0 (ap (index_of w) known.1 ∙ is_new (v ∷ vs) n w proper.0 at_n) small_enough ∙ ap (λ (k : ℕ). some (record { numerals = false; words = ps.words ++ w ∷ [] }, k)) (long ∙ sym q);
        known = subst (λ (k : ℕ). Known (v ∷ vs) k (record { numerals = false; words = ps.words ++ w ∷ [] })) (sym r) (refl, ap (λ (us : List Word). us ++ w ∷ []) known.1 ∙ take_one_more (v ∷ vs) n w at_n);
      }

pub placed : (ns : List Word) (ps : Places) (n x m : ℕ) → Proper ns → Known ns n ps → x < 8 → count ns n x ≡ some m → ((length ns ≡ 0) ⊎ (m ≤ length ns)) → Placed ns ps x m
placed [] ps n x m proper known small e fits = record {
  is_word = number_word x (omega arith);
  after = record { numerals = true; words = ps.words };
  read = pick_true _ _ (number_word x (omega arith)) ∙ pick_true _ _ (numeral_digits x small) ∙ numeral_is ps (decimal x) x (ap empty known) (numeral_read x small);
  known = known;
}
placed (v ∷ vs) ps n x m proper known small e fits =
    ⊎_elim
    (λ p. let more = p.1 in let lt = p.0 in let l : x < length (v ∷ vs) = omega arith in let (w, at) = nth_some (v ∷ vs) x l in again v vs ps n x m proper known within w at p.0 p.1)
    (λ p. let more = p.1 in let eq = p.0 in let l : x < length (v ∷ vs) = omega arith in let (w, at) = nth_some (v ∷ vs) x l in first v vs ps n x m proper known within w at p.0 p.1)
    (see_cases n x m e)
  where
    within : m ≤ length (v ∷ vs)
    within = ⊎_elim (λ z. absurd (omega arith)) (λ l. l) fits
