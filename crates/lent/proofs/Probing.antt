-- Probing: what a probe has seen on its way, and that a record entered where a probe found a free place is found again.
use Rattle.std.proofs.Common.{◌≡◌, ℕ, ◌+◌, ◌-◌, ◌*◌, ◌<◌, ◌≤◌, ◌≢◌, ◌⊎◌, List, length, get_or, take, drop, set, Some, None, Bool, true, false, cond, nat_eq, sym, refl, ap, ◌∙◌, subst, inl, inr, arith}
use borrow.Rule.Slice.PartMut.{put_mid}
use Rattle.std.proofs.lemmas.List.{get_or-drop, length-append, length-take, length-drop, length-set, get_or-set_same, get_or-set_other, drop-set-lt}
use Rattle.std.proofs.lemmas.Slice.{take-put_mid_below, drop-put_mid}
use Rattle.std.proofs.lemmas.Bool.{cases_eq, cases_lt, cases_order, lt-ltb, eqb-true}
use Rattle.std.proofs.lemmas.Bool.Decides.{nat_tests}
use Rattle.std.proofs.lemmas.List.Sums.{fails_before_first, passes_at_first}
use Rattle.std.specs.List.{position, position_or_len}
use Rattle.lent.specs.declared.shape.Shape.{Shape}
use Rattle.lent.specs.Records.{rec}
use Rattle.lent.specs.Table.{homes, places, home, Full, Placed, Probed, Free, Stop, Inserted, SomeFree, FirstFree}
use Rattle.lent.proofs.RecordLaws.{rec_kept, rec_put, more_words, ends_within}

-- every place up to `at` is full, and what it holds is not the key
pub record Looked (s : Shape) (q t : List ℕ) (n : ℕ) (key : List ℕ) (at : ℕ) : Type 0 where
  pub behind : home s key ≤ at
  pub within : at ≤ homes s + n
  pub full : Full t (home s key) at
  pub past : (k : ℕ) → home s key ≤ k → k < at → rec q s.width (get_or t k 0 - 1) ≡ key → ⊥

pub full_more : (t : List ℕ) (a b : ℕ) → Full t a b → 0 < get_or t b 0 → Full t a (b + 1)
full_more t a b f h k l m = elim (cases_eq k b) [ inl e ↦ rw e h | inr ne ↦ f k l (omega arith) ]

module _ (s : Shape) (q t : List ℕ) (n : ℕ) (key : List ℕ) (at : ℕ) (probed : Probed s q t n) (room : n < s.room) (looked : Looked s q t n key at) where
  pub looked_more : 0 < get_or t at 0 → (rec q s.width (get_or t at 0 - 1) ≡ key → ⊥) → Looked s q t n key (at + 1)
  looked_more h other =
      let lt : at < homes s + n = probed.reach at (omega arith) h in
      record {
        behind = omega arith;
        within = omega arith;
        full = full_more t (home s key) at looked.full h;
        past = λ k a b same. elim (cases_eq k at) [ inl e ↦ other (rw e at same) | inr ne ↦ looked.past k a (omega arith) same ];
      }

  pub looked_known : 0 < get_or t at 0 → rec q s.width (get_or t at 0 - 1) ≡ key → Stop s q t n key at
  looked_known h same =
      record {
        inside = omega arith;
        known = λ _. record { below = probed.entries at (omega arith); same = same };
        free = λ e. absurd (omega arith);
      }

  -- the probe for a record that is the key would have come to that record's place
  not_there : get_or t at 0 ≡ 0 → (i : ℕ) → rec q s.width i ≡ key → Placed s q t n i → ⊥
  not_there e i same p =
      let start : home s (rec q s.width i) ≡ home s key = ap (home s) same in
      let entry = p.entry in
      elim (cases_order p.place at) [
        | inl here ↦ omega (arith, ap (λ k. get_or t k 0) here)
        | inr (inl before) ↦
            let i_is : get_or t p.place 0 - 1 ≡ i = omega arith in
            looked.past p.place (omega (arith, p.behind)) before (ap (rec q s.width) i_is ∙ same)
        | inr (inr after) ↦ omega (arith, p.full at (omega (arith, looked.behind)) after)
      ]

  pub looked_free : get_or t at 0 ≡ 0 → Stop s q t n key at
  looked_free e =
      record {
        inside = omega arith;
        known = λ h. absurd (omega arith);
        free = λ _.
            record {
              empty = e;
              behind = looked.behind;
              within = looked.within;
              full = looked.full;
              new = λ i h same. not_there e i same (probed.placed i h);
            };
      }

-- a walk through full places is not yet past a free one
pub not_past : (t : List ℕ) (a b p : ℕ) → Full t a b → a ≤ p → get_or t p 0 ≡ 0 → b ≤ p
not_past t a b p f h e = elim (cases_lt p b) [ inl l ↦ absurd (omega (arith, f p h l)) | inr l ↦ l ]

-- behind the homes there is a free place
pub free_behind : (s : Shape) (q t : List ℕ) (n : ℕ) → Probed s q t n → n < s.room → get_or t (homes s + n) 0 ≡ 0
free_behind s q t n probed room =
    elim (cases_eq (get_or t (homes s + n) 0) 0) [
      | inl e ↦ e
      | inr ne ↦ absurd (let h : homes s + n < homes s + n = probed.reach (homes s + n) (omega arith) (omega arith) in omega arith)
    ]

pub some_free : (s : Shape) (q t : List ℕ) (n a : ℕ) → Probed s q t n → n < s.room → a < homes s → SomeFree t a
some_free s q t n a probed room h =
    let f = probed.fits in
    record { place = homes s + n; behind = omega arith; inside = omega arith; empty = free_behind s q t n probed room }

-- the first free place from `a` on, looked for by its position behind `a`
module _ (t : List ℕ) (a : ℕ) (free : SomeFree t a) where
  before_end : position_or_len (λ (x : ℕ). nat_eq x 0) (drop a t) < length (drop a t)
  before_end =
      let behind = free.behind in
      let inside = free.inside in
      elim (cases_lt (position_or_len (λ (x : ℕ). nat_eq x 0) (drop a t)) (length (drop a t))) [
        | inl l ↦ l
        | inr g ↦
            let k : free.place - a < position_or_len (λ (x : ℕ). nat_eq x 0) (drop a t) = omega (arith, length-drop a t) in
            let there : a + (free.place - a) ≡ free.place = omega arith in
            let e : get_or (drop a t) (free.place - a) 0 ≡ 0 = get_or-drop a t (free.place - a) 0 ∙ ap (λ k. get_or t k 0) there ∙ free.empty in
            let z : true ≡ false = sym (ap (λ x. nat_eq x 0) e) ∙ fails_before_first (λ (x : ℕ). nat_eq x 0) (drop a t) (free.place - a) 0 k in
            absurd cc
      ]

  pub first_position : position (λ (x : ℕ). nat_eq x 0) (drop a t) ≡ Some (position_or_len (λ (x : ℕ). nat_eq x 0) (drop a t))
  first_position = ap (λ (b : Bool). cond b (Some (position_or_len (λ (x : ℕ). nat_eq x 0) (drop a t))) None) (lt-ltb (position_or_len (λ (x : ℕ). nat_eq x 0) (drop a t)) (length (drop a t)) before_end)

  pub first_free : (b : ℕ) → position (λ (x : ℕ). nat_eq x 0) (drop a t) ≡ Some b → FirstFree t a (a + b)
  first_free b e =
      let at : position_or_len (λ (x : ℕ). nat_eq x 0) (drop a t) ≡ b = (let z = sym first_position ∙ e in cc) in
      let here = before_end in
      let l = length-drop a t in
      let passes = passes_at_first (λ (x : ℕ). nat_eq x 0) (drop a t) 0 here in
      record {
        behind = omega arith;
        inside = omega arith;
        empty = sym (get_or-drop a t b 0) ∙ ap (λ k. get_or (drop a t) k 0) (sym at) ∙ eqb-true _ 0 passes;
        full = λ k g h.
            let before : k - a < position_or_len (λ (x : ℕ). nat_eq x 0) (drop a t) = omega arith in
            let there : a + (k - a) ≡ k = omega arith in
            let fails : nat_eq (get_or t k 0) 0 ≡ false = ap (λ j. nat_eq (get_or t j 0) 0) (sym there) ∙ ap (λ x. nat_eq x 0) (sym (get_or-drop a t (k - a) 0)) ∙ fails_before_first (λ (x : ℕ). nat_eq x 0) (drop a t) (k - a) 0 before in
            grind (arith, nat_tests);
      }

-- the words of a record that a place tells
pub told_words : (s : Shape) (q t : List ℕ) (n p : ℕ) → Probed s q t n → p < places s → 0 < get_or t p 0 → (get_or t p 0 - 1 + 1) * s.width ≤ length q
told_words s q t n p probed h l =
    let e = probed.entries p h in
    let held = probed.held in
    omega (arith, more_words (get_or t p 0 - 1) s.width, ends_within s.width n (get_or t p 0 - 1) (omega arith))

-- a table where all is free
pub probed_none : (s : Shape) (q t : List ℕ) → places s ≤ length t → ((p : ℕ) → p < places s → get_or t p 0 ≡ 0) → Probed s q t 0
probed_none s q t fits free =
    record {
      few = omega arith;
      held = omega arith;
      fits = fits;
      entries = λ p h. omega (arith, free p h);
      reach = λ p h l. absurd (omega (arith, free p h));
      placed = λ i h. absurd (omega arith);
    }

-- what leaves the words of the n records leaves the table as it is
pub probed_kept : (s : Shape) (q q' t : List ℕ) (n : ℕ) → Probed s q t n → n * s.width ≤ length q' → take (n * s.width) q' ≡ take (n * s.width) q → Probed s q' t n
probed_kept s q q' t n probed held kept =
    record {
      few = probed.few;
      held = held;
      fits = probed.fits;
      entries = probed.entries;
      reach = probed.reach;
      placed = λ i h. placed_kept i h (probed.placed i h);
    }
  where
    placed_kept : (i : ℕ) → i < n → Placed s q t n i → Placed s q' t n i
    placed_kept i h p =
        let start : home s (rec q' s.width i) ≡ home s (rec q s.width i) = ap (home s) (rec_kept q q' s.width n i kept h) in
        record {
          place = p.place;
          behind = omega (arith, p.behind);
          within = p.within;
          entry = p.entry;
          full = λ k a b. p.full k (omega arith) b;
        }

-- one place written
set_cases : (t : List ℕ) (at v k : ℕ) → at < length t → ((k ≡ at) × (get_or (set t at v) k 0 ≡ v)) ⊎ ((k ≢ at) × (get_or (set t at v) k 0 ≡ get_or t k 0))
set_cases t at v k h =
    elim (cases_eq k at) [
      | inl e ↦ inl (e, ap (λ j. get_or (set t at v) j 0) e ∙ get_or-set_same t at v 0 h)
      | inr ne ↦ inr (ne, get_or-set_other t at k v 0 ne)
    ]

full_set : (t : List ℕ) (at v a b : ℕ) → at < length t → 0 < v → Full t a b → Full (set t at v) a b
full_set t at v a b h pos f k l m =
    elim (set_cases t at v k h) [ inl c ↦ omega (arith, c.1) | inr c ↦ omega (arith, c.1, f k l m) ]

-- record n, entered where its probe found a free place
module _ (s : Shape) (q q' t : List ℕ) (n at : ℕ) (probed : Probed s q t n) (room : n < s.room)
    (ends : (n + 1) * s.width ≤ length q') (kept : take (n * s.width) q' ≡ take (n * s.width) q)
    (empty : get_or t at 0 ≡ 0) (behind : home s (rec q' s.width n) ≤ at) (within : at ≤ homes s + n)
    (full : Full t (home s (rec q' s.width n)) at) where
  inside : at < length t
  inside = let f = probed.fits in omega arith

  placed_new : Placed s q' (set t at (n + 1)) (n + 1) n
  placed_new =
      record {
        place = at;
        behind = behind;
        within = omega arith;
        entry = get_or-set_same t at (n + 1) 0 inside;
        full = full_set t at (n + 1) (home s (rec q' s.width n)) at inside (omega arith) full;
      }

  placed_old : (i : ℕ) → i < n → Placed s q t n i → Placed s q' (set t at (n + 1)) (n + 1) i
  placed_old i h p =
      let entry = p.entry in
      let start : home s (rec q' s.width i) ≡ home s (rec q s.width i) = ap (home s) (rec_kept q q' s.width n i kept h) in
      let ne : p.place ≢ at = λ e. let z = ap (λ k. get_or t k 0) e in omega arith in
      record {
        place = p.place;
        behind = omega (arith, p.behind);
        within = omega (arith, p.within);
        entry = get_or-set_other t at p.place (n + 1) 0 ne ∙ entry;
        full = full_set t at (n + 1) (home s (rec q' s.width i)) p.place inside (omega arith) (λ k a b. p.full k (omega arith) b);
      }

  pub entered : Probed s q' (set t at (n + 1)) (n + 1)
  entered =
      record {
        few = omega arith;
        held = ends;
        fits = let f = probed.fits in omega (arith, length-set t at (n + 1));
        entries = λ p h. elim (set_cases t at (n + 1) p inside) [ inl c ↦ omega (arith, c.1) | inr c ↦ omega (arith, c.1, probed.entries p h) ];
        reach = λ p h l. elim (set_cases t at (n + 1) p inside) [ inl c ↦ omega (arith, c.0) | inr c ↦ let r : p < homes s + n = probed.reach p h (omega (arith, c.1)) in omega arith ];
        placed = λ i h. elim (cases_eq i n) [ inl e ↦ subst (Placed s q' (set t at (n + 1)) (n + 1)) (sym e) placed_new | inr ne ↦ let l : i < n = omega arith in placed_old i l (probed.placed i l) ];
      }

-- record n stands in the queue already
pub entered_here : (s : Shape) (q t : List ℕ) (n from at : ℕ) → Probed s q t n → n < s.room → (n + 1) * s.width ≤ length q → from ≡ home s (rec q s.width n) → from < homes s → FirstFree t from at → Probed s q (set t at (n + 1)) (n + 1) × (drop (places s) (set t at (n + 1)) ≡ drop (places s) t)
entered_here s q t n from at probed room ends e h free =
    let within : at ≤ homes s + n = not_past t from at (homes s + n) free.full (omega arith) (free_behind s q t n probed room) in (
      entered s q q t n at probed room ends refl free.empty (omega (arith, free.behind)) within (λ k a b. free.full k (omega arith) b),
      drop-set-lt (places s) t at (n + 1) (omega arith),
    )

-- the key is written behind the n records
pub written : (s : Shape) (q t : List ℕ) (n : ℕ) (key : List ℕ) (at : ℕ) (part : List ℕ) → Probed s q t n → n < s.room → (n + 1) * s.width ≤ length q → length key ≡ s.width → Free s q t n key at → part ≡ key → Inserted s q t n key at (put_mid (n * s.width) (n * s.width + s.width - n * s.width) q part) (set t at (n + 1))
written s q t n key at part probed room ends whole free e =
    let w = s.width in
    let more = more_words n w in
    let long : length part ≡ w = ap length e ∙ whole in
    let q' = put_mid (n * w) (n * w + w - n * w) q part in
    let here : rec q' w n ≡ key = rec_put q part w n (omega arith) long ∙ e in
    let kept : take (n * w) q' ≡ take (n * w) q = take-put_mid_below (n * w) (n * w + w - n * w) q part (n * w) (omega arith) (omega arith) in
    let rest : drop ((n + 1) * w) q' ≡ drop ((n + 1) * w) q = drop-put_mid (n * w) (n * w + w - n * w) q part ((n + 1) * w) (omega arith) (omega arith) (omega arith) in
    let fits : (n + 1) * w ≤ length q' = simp (length-append, length-take, length-drop) (omega arith) in
    let start : home s (rec q' w n) ≡ home s key = ap (home s) here in
    record {
      probed = entered s q q' t n at probed room fits kept free.empty (omega (arith, free.behind)) free.within (λ k a b. free.full k (omega arith) b);
      here = here;
      kept = kept;
      rest = rest;
      entered = refl;
    }
