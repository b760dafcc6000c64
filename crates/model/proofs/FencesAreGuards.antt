-- Fences put in are guards, and at once they change nothing.
-- A state of the program with fences is near a state of the program itself: memory, registers and rows are equal, and
-- each thread stands before the same instruction, with i of its fences done; if any is done, its row is empty.
-- A move of the program with fences is a move of the program or one fence more; a move of the program is the rest of the
-- fences and then that move. Both hold of one instruction done (Next) and of one store that goes out (Out), so they
-- serve the machine in which stores wait and the machine at once.
use mathlib.Core.Path.{◌≡◌, refl, sym, ap, ◌∙◌, subst}
use mathlib.Core.Logic.{◌⊎◌, inl, inr}
use mathlib.Core.List.{List, [], ◌∷◌, ◌++◌}
use mathlib.Core.Option.{some, none}
use mathlib.Core.Bool.{Bool, true, false, ◌||◌, not}
use Prim.Native.Nat.{ℕ, zero, suc, ◌+◌, ◌-◌, ◌≤◌, ◌<◌}
use native.Mathlib.Omega.{arith}
use lib.ListN.{length, replicate}
use Rattle.model.specs.Code.{pick, nth, put, I, sets, adds, loads, stores, fence, Thread, Prog}
use Rattle.model.specs.Machine.{Wait, At, St, Move, next, out, move, moves, starts, begin, does, empty, all_done, regs_of, outcome, at_once, all_at_once, is_store, with_thread}
use Rattle.model.specs.Fences.{Spot, with_fences}
use Rattle.model.specs.Guards.{Guard, guards, free, gmove, gmoves, Guarded}
use Rattle.model.specs.Outcomes.{Waiting, AtOnce}
use Rattle.model.specs.Theorems.{FencesAreGuards, FencesAtOnce, MoreFences}
use Rattle.model.proofs.Tools.{none_some, some_is, false_true, nil_cons, opt_some, opt_is, pick_some, same_or, nth_below, nth_put_same, put_put, put_same, Next, next_of, of_next, Out, out_of, of_out, Ends, Once, once_of, of_once, rest_of, gone, stored, store_or, does_waits, does_pc, once_plain, Each, each_at, each_both, each_back, each_make, each_put, each_right, each_length, each_map, moves_then, all_then, fresh, starts_each, starts_fresh, starts_length, done_at, at_done, empty_is, Ended}
use Rattle.model.proofs.RunsUnderGuards.{gmove_move, move_gmove, gmoves_less, on_guards, guards_on}
use Rattle.model.proofs.AlsoWaiting.{all_moves}
use Rattle.model.proofs.Blocks.{blocks, start, start_suc, start_below, length_blocks, block_fence, block_own, counts, with_fences_blocks, counts_guards, guards_counts}

-- a thread that stands elsewhere in its code
abbrev moved : At → ℕ → At
moved a l = record { pc = l; regs = a.regs; waits = a.waits }

-- an instruction does the same wherever it stands
does_moved : (m : List ℕ) (a b : At) (l : ℕ) (i : I) → does m a i ≡ some b → does m (moved a l) i ≡ some (moved b (suc l))
does_moved m a b l (sets r n) e = ap (λ (z : At). some (moved z (suc l))) (some_is e)
does_moved m a b l (adds r x y) e = ap (λ (z : At). some (moved z (suc l))) (some_is e)
does_moved m a b l (loads r x) e = ap (λ (z : At). some (moved z (suc l))) (some_is e)
does_moved m a b l (stores x r) e = ap (λ (z : At). some (moved z (suc l))) (some_is e)
does_moved m a b l fence e =
    let (q, f) = pick_some (empty a.waits) _ e in
    rw q (ap (λ (z : At). some (moved z (suc l))) (some_is f))

-- a is a thread of the program, b the same thread of the program with fences
record Near (p : Prog) (c : ℕ → ℕ → ℕ) (n : ℕ) (a b : At) : Type 0 where
  code : Thread
  of : nth p n ≡ some code
  i : ℕ
  within : a.pc ≤ length code
  most : i ≤ c n a.pc
  quiet : 0 < i → (a.waits ≡ []) × (a.pc < length code)
  is : b ≡ moved a (start (c n) a.pc + i)

abbrev NearAll : (ℕ → ℕ → ℕ) → Prog → St → St → Type 0
NearAll c p s u = (s.mem ≡ u.mem) × Each (Near p c) s.threads u.threads

-- a run of the program from s, under guards or at once, to a state near v
abbrev GuardedNear : (ℕ → ℕ → ℕ) → Guard → Prog → St → St → Type 0
GuardedNear c g p s v = (ns : List Move) × (t : St) × (gmoves g p s ns ≡ some t) × NearAll c p t v

abbrev PlainNear : (ℕ → ℕ → ℕ) → Prog → St → St → Type 0
PlainNear c p s v = (ns : List ℕ) × (t : St) × (all_at_once p s ns ≡ some t) × NearAll c p t v

-- a run of the program with fences from u, where stores wait or at once, to a state that t is near
abbrev WaitingNear : (ℕ → ℕ → ℕ) → Prog → Prog → St → St → Type 0
WaitingNear c p q t u = (ns : List Move) × (v : St) × (moves q u ns ≡ some v) × NearAll c p t v

abbrev FencedNear : (ℕ → ℕ → ℕ) → Prog → Prog → St → St → Type 0
FencedNear c p q t u = (ns : List ℕ) × (v : St) × (all_at_once q u ns ≡ some v) × NearAll c p t v

-- the program does what the program with fences did
record Same (c : ℕ → ℕ → ℕ) (p q : Prog) (s u v : St) (n : ℕ) (x : Next q u n v) : Type 0 where
  to : St
  step : Next p s n to
  same : step.i ≡ x.i
  near : NearAll c p to v
  calm : 0 < c n step.was.pc → step.was.waits ≡ []

-- the program with fences comes to do what the program did
record After (c : ℕ → ℕ → ℕ) (p q : Prog) (s t u : St) (n : ℕ) (y : Next p s n t) : Type 0 where
  ns : List ℕ
  mid : St
  run : all_at_once q u ns ≡ some mid
  to : St
  step : Next q mid n to
  same : step.i ≡ y.i
  near : NearAll c p t to

-- a guard lets pass exactly what finds an empty row
calm_free : (b : Bool) (ws : List Wait) → (b ≡ true → ws ≡ []) → not b || empty ws ≡ true
calm_free true ws f = ap empty (f refl)
calm_free false ws f = refl

free_calm : (b : Bool) (ws : List Wait) → not b || empty ws ≡ true → b ≡ true → ws ≡ []
free_calm true ws f e = empty_is ws f
free_calm false ws f e = absurd (false_true e)

regs_same : (as₁ bs : List At) → Each (λ n a b. a.regs ≡ b.regs) as₁ bs → regs_of as₁ ≡ regs_of bs
regs_same [] [] h = refl
regs_same [] (b ∷ bs) h = absurd (h 0)
regs_same (a ∷ as₁) [] h = absurd (h 0)
regs_same (a ∷ as₁) (b ∷ bs) h = let e : a.regs ≡ b.regs = h 0 in let f = regs_same as₁ bs (λ n. h (suc n)) in cc

-- at once nothing waits
abbrev Quiet : St → Type 0
Quiet s = (n : ℕ) (a : At) → nth s.threads n ≡ some a → a.waits ≡ []

begin_quiet : (p : Prog) → Quiet (begin p)
begin_quiet p n a e = ap (λ (z : At). z.waits) (starts_fresh p n e)

quiet_put : (as₁ : List At) (n : ℕ) (b : At) → ((m : ℕ) (a : At) → nth as₁ m ≡ some a → a.waits ≡ []) → b.waits ≡ [] → (m : ℕ) (a : At) → nth (put as₁ n b) m ≡ some a → a.waits ≡ []
quiet_put [] n b h e m a q = absurd (none_some q)
quiet_put (x ∷ as₁) zero b h e zero a q = ap (λ (z : At). z.waits) (sym (some_is q)) ∙ e
quiet_put (x ∷ as₁) zero b h e (suc m) a q = h (suc m) a q
quiet_put (x ∷ as₁) (suc n) b h e zero a q = h zero a q
quiet_put (x ∷ as₁) (suc n) b h e (suc m) a q = quiet_put as₁ n b (λ k. h (suc k)) e m a q

store_row : (m : List ℕ) (a b : At) (i : I) → is_store i ≡ true → does m a i ≡ some b → a.waits ≡ [] → (w : Wait) × (b.waits ≡ w ∷ [])
store_row m a b i q e h = elim (store_or i) [ inl st ↦ (stored a st.0 st.1, ap (λ (z : At). z.waits) (sym (some_is (subst (λ (z : I). does m a z ≡ some b) st.2 e))) ∙ ap (λ (z : List Wait). z ++ (stored a st.0 st.1 ∷ [])) h) | inr f ↦ absurd (false_true (sym f ∙ q)) ]

once_quiet : (p : Prog) (s t : St) (n : ℕ) → Quiet s → Once p s n t → Quiet t
once_quiet p s t n h x = elim x.then [ inl st ↦ stored_quiet st.0 st.1 | inr st ↦ subst Quiet (sym (st.1 ∙ f.gives)) (quiet_put s.threads n f.now h (does_waits s.mem f.was f.now f.i st.0 f.did ∙ before)) ]
  where
    f : Next p s n x.mid
    f = x.first

    before : f.was.waits ≡ []
    before = h n f.was f.stands

    stored_quiet : is_store f.i ≡ true → Out x.mid n t → Quiet t
    stored_quiet q o =
        let (w, ew) = store_row s.mem f.was f.now f.i q f.did before in
        let here : nth x.mid.threads n ≡ some f.now = ap (λ (z : St). nth z.threads n) f.gives ∙ nth_put_same s.threads n f.now f.stands in
        let line : o.w ∷ o.ws ≡ w ∷ [] = sym o.line ∙ (ap (λ (z : At). z.waits) (some_is (sym o.stands ∙ here)) ∙ ew) in
        let gone_all : o.ws ≡ [] = cc in
        let a : At = rest_of o.was o.ws in
        let threads : t.threads ≡ put s.threads n a = ap (λ (z : St). z.threads) o.gives ∙ (ap (λ (z : St). put z.threads n a) f.gives ∙ put_put s.threads n f.now a) in
        λ m b e. quiet_put s.threads n a h gone_all m b (ap (λ (z : List At). nth z m) (sym threads) ∙ e)

-- an instruction done under guards found an empty row if it is guarded
guarded_calm : (g : Guard) (p : Prog) (s t : St) (n : ℕ) → gmove g p s (next n) ≡ some t → (y : Next p s n t) × (g n y.was.pc ≡ true → y.was.waits ≡ [])
guarded_calm g p s t n e =
    let (may, em) = gmove_move g p s t (next n) e in
    let y = next_of p s n t em in
    (y, free_calm (g n y.was.pc) y.was.waits (sym (opt_is (nth s.threads n) true (λ a. not (g n a.pc) || empty a.waits) y.stands) ∙ may))

module _ (c : ℕ → ℕ → ℕ) (p q : Prog) (made : Each (λ n t u. u ≡ blocks (c n) t) p q) where
  near_begin : NearAll c p (begin p) (begin q)
  near_begin = (refl, each_make (Near p c) (starts p) (starts q) (starts_length p ∙ (each_length (λ n t u. u ≡ blocks (c n) t) p q made ∙ sym (starts_length q))) at)
    where
      first : (n : ℕ) (code : Thread) (b : At) → nth p n ≡ some code → b ≡ fresh → Near p c n fresh b
      first n code b e f = record { code = code; of = e; i = 0; within = omega arith; most = omega arith; quiet = λ h. absurd (omega arith); is = f }

      at : (n : ℕ) (a b : At) → nth (starts p) n ≡ some a → nth (starts q) n ≡ some b → Near p c n a b
      at n a b ea eb =
          let (code, e, u) = each_back (λ m d z. Unit {0}) p (starts p) n (starts_each (λ m d z. Unit {0}) p (λ m d z. tt)) ea in
          subst (λ (z : At). Near p c n z b) (sym (starts_fresh p n ea)) (first n code b e (starts_fresh q n eb))

  fenced_next : (s u v : St) (n : ℕ) → NearAll c p s u → (x : Next q u n v) → ((x.i ≡ fence) × NearAll c p s v) ⊎ Same c p q s u v n x
  fenced_next s u v n (em, hs) x =
      let (a, ea, h) = each_back (Near p c) s.threads u.threads n hs x.stands in
      let code : x.code ≡ blocks (c n) h.code = each_both (λ k t z. z ≡ blocks (c k) t) p q n made h.of x.of in
      let pc : x.was.pc ≡ start (c n) a.pc + h.i = ap (λ (z : At). z.pc) h.is in
      let at : nth (blocks (c n) h.code) x.was.pc ≡ some x.i = subst (λ (z : Thread). nth z x.was.pc ≡ some x.i) code x.at in
      let below = nth_below (blocks (c n) h.code) x.was.pc at in
      let long = length_blocks (c n) h.code in
      let within = h.within in
      let inside : a.pc < length h.code = elim (same_or a.pc (length h.code)) [ inl e ↦ absurd (let f = ap (start (c n)) e in omega arith) | inr d ↦ omega arith ] in
      elim (same_or h.i (c n a.pc)) [ inl e ↦ inr (own a ea h pc at inside e) | inr d ↦ inl (by_fence a ea h pc at inside (let most = h.most in omega arith)) ]
    where
      by_fence : (a : At) → nth s.threads n ≡ some a → (h : Near p c n a x.was) → x.was.pc ≡ start (c n) a.pc + h.i → nth (blocks (c n) h.code) x.was.pc ≡ some x.i → a.pc < length h.code → h.i < c n a.pc → (x.i ≡ fence) × NearAll c p s v
      by_fence a ea h pc at inside less =
          let is_fence : x.i ≡ fence = some_is (sym at ∙ block_fence (c n) h.code a.pc h.i x.was.pc inside less pc) in
          let (row, now) = pick_some (empty x.was.waits) _ (subst (λ (z : I). does u.mem x.was z ≡ some x.now) is_fence x.did) in
          let waits : a.waits ≡ [] = ap (λ (z : At). z.waits) (sym h.is) ∙ empty_is x.was.waits row in
          let l : suc x.was.pc ≡ start (c n) a.pc + suc h.i = omega arith in
          let is : x.now ≡ moved a (start (c n) a.pc + suc h.i) = sym (some_is now) ∙ (ap (λ (z : At). moved z (suc x.was.pc)) h.is ∙ ap (moved a) l) in
          let near : Near p c n a x.now = record { code = h.code; of = h.of; i = suc h.i; within = h.within; most = less; quiet = λ z. (waits, inside); is = is } in
          (is_fence, subst (NearAll c p s) (sym x.gives) (em, each_right (Near p c) s.threads u.threads n x.now hs ea near))

      own : (a : At) → nth s.threads n ≡ some a → (h : Near p c n a x.was) → x.was.pc ≡ start (c n) a.pc + h.i → nth (blocks (c n) h.code) x.was.pc ≡ some x.i → a.pc < length h.code → h.i ≡ c n a.pc → Same c p q s u v n x
      own a ea h pc at inside all =
          let l : x.was.pc ≡ start (c n) a.pc + c n a.pc = omega arith in
          let here : nth h.code a.pc ≡ some x.i = sym (block_own (c n) h.code a.pc x.was.pc inside l) ∙ at in
          let b : At = moved x.now (suc a.pc) in
          let back : moved x.was a.pc ≡ a = ap (λ (z : At). moved z a.pc) h.is in
          let did : does s.mem a x.i ≡ some b = subst (λ (z : List ℕ). does z a x.i ≡ some b) (sym em) (subst (λ (z : At). does u.mem z x.i ≡ some b) back (does_moved u.mem x.was x.now a.pc x.i x.did)) in
          let l2 : x.now.pc ≡ start (c n) (suc a.pc) + 0 = let d = does_pc u.mem x.was x.now x.i x.did in let e = start_suc (c n) a.pc in omega arith in
          let near : Near p c n b x.now = record { code = h.code; of = h.of; i = 0; within = inside; most = omega arith; quiet = λ z. absurd (omega arith); is = ap (moved x.now) l2 } in
          record { to = with_thread s n b; step = record { was = a; stands = ea; code = h.code; of = h.of; i = x.i; at = here; now = b; did = did; gives = refl }; same = refl; near = subst (NearAll c p (with_thread s n b)) (sym x.gives) (em, each_put (Near p c) s.threads u.threads n b x.now hs near); calm = λ z. (h.quiet (subst (λ (y : ℕ). 0 < y) (sym all) z)).0 }

  -- the fences before an instruction that are still to do, one after the other
  run_block : (a : At) (code : Thread) (n j i : ℕ) (u : St) (b : At) → nth p n ≡ some code → a.pc < length code → nth u.threads n ≡ some b → b ≡ moved a (start (c n) a.pc + i) → i + j ≡ c n a.pc → (0 < c n a.pc → a.waits ≡ []) → all_at_once q u (replicate j n) ≡ some (with_thread u n (moved a (start (c n) a.pc + c n a.pc)))
  run_block a code n zero i u b ec inside eb is sum calm =
      let l : start (c n) a.pc + i ≡ start (c n) a.pc + c n a.pc = omega arith in
      ap (λ (z : List At). some (record { mem = u.mem; threads = z })) (sym (put_same u.threads n (eb ∙ ap some (is ∙ ap (moved a) l))))
  run_block a code n (suc j) i u b ec inside eb is sum calm =
      let (d, ed, made-d) = each_at (λ k t z. z ≡ blocks (c k) t) p q n made ec in
      let pc : b.pc ≡ start (c n) a.pc + i = ap (λ (z : At). z.pc) is in
      let at : nth d b.pc ≡ some fence = ap (λ (z : Thread). nth z b.pc) made-d ∙ block_fence (c n) code a.pc i b.pc inside (omega arith) pc in
      let row : b.waits ≡ [] = ap (λ (z : At). z.waits) is ∙ calm (omega arith) in
      let e : At = moved b (suc b.pc) in
      let did : does u.mem b fence ≡ some e = ap (λ (z : List Wait). pick (empty z) (some e) none) row in
      let step = once_plain q u n b e d fence eb ed at refl did in
      let l : suc b.pc ≡ start (c n) a.pc + suc i = omega arith in
      let e_is : e ≡ moved a (start (c n) a.pc + suc i) = ap (λ (z : At). moved z (suc b.pc)) is ∙ ap (moved a) l in
      let more = run_block a code n j (suc i) (with_thread u n e) e ec inside (nth_put_same u.threads n e eb) e_is (omega arith) calm in
      opt_is (at_once q u n) none (λ t. all_at_once q t (replicate j n)) step ∙ (more ∙ ap (λ (z : List At). some (record { mem = u.mem; threads = z })) (put_put u.threads n e _))

  guarded_next : (s t u : St) (n : ℕ) → NearAll c p s u → (y : Next p s n t) → (0 < c n y.was.pc → y.was.waits ≡ []) → After c p q s t u n y
  guarded_next s t u n (em, hs) y calm =
      let (b, eb, h) = each_at (Near p c) s.threads u.threads n hs y.stands in
      let (d, ed, made-d) = each_at (λ k t z. z ≡ blocks (c k) t) p q n made y.of in
      let a : At = y.was in
      let inside : a.pc < length y.code = nth_below y.code a.pc y.at in
      let most = h.most in
      let l : ℕ = start (c n) a.pc + c n a.pc in
      let e : At = moved a l in
      let run = run_block a y.code n (c n a.pc - h.i) h.i u b y.of inside eb h.is (omega arith) calm in
      let mid : St = with_thread u n e in
      let at : nth d l ≡ some y.i = ap (λ (z : Thread). nth z l) made-d ∙ (block_own (c n) y.code a.pc l inside refl ∙ y.at) in
      let f : At = moved y.now (suc l) in
      let did : does u.mem e y.i ≡ some f = does_moved u.mem a y.now l y.i (subst (λ (z : List ℕ). does z a y.i ≡ some y.now) em y.did) in
      let pc : y.now.pc ≡ suc a.pc = does_pc s.mem a y.now y.i y.did in
      let l2 : suc l ≡ start (c n) y.now.pc + 0 = let g = start_suc (c n) a.pc in let k = ap (start (c n)) pc in omega arith in
      let near : Near p c n y.now f = record { code = y.code; of = y.of; i = 0; within = omega arith; most = omega arith; quiet = λ z. absurd (omega arith); is = ap (moved y.now) l2 } in
      let all : Each (Near p c) (put s.threads n y.now) (put (put u.threads n e) n f) = subst (Each (Near p c) (put s.threads n y.now)) (sym (put_put u.threads n e f)) (each_put (Near p c) s.threads u.threads n y.now f hs near) in
      record { ns = replicate (c n a.pc - h.i) n; mid = mid; run = run; to = with_thread mid n f; step = record { was = e; stands = nth_put_same u.threads n e eb; code = d; of = ed; i = y.i; at = at; now = f; did = did; gives = refl }; same = refl; near = subst (λ (z : St). NearAll c p z (with_thread mid n f)) (sym y.gives) (em, all) }

  -- a store goes out in both
  near_gone : (s u : St) (n : ℕ) (a b : At) (w : Wait) (ws : List Wait) → NearAll c p s u → Near p c n a b → a.waits ≡ w ∷ ws → NearAll c p (gone s n w (rest_of a ws)) (gone u n w (rest_of b ws))
  near_gone s u n a b w ws (em, hs) h line =
      let near : Near p c n (rest_of a ws) (rest_of b ws) = record { code = h.code; of = h.of; i = h.i; within = h.within; most = h.most; quiet = λ z. absurd (nil_cons (sym (h.quiet z).0 ∙ line)); is = ap (λ (z : At). rest_of z ws) h.is } in
      (ap (λ (z : List ℕ). put z w.place w.val) em, each_put (Near p c) s.threads u.threads n (rest_of a ws) (rest_of b ws) hs near)

  fenced_out : (s u v : St) (n : ℕ) → NearAll c p s u → Out u n v → (t : St) × Out s n t × NearAll c p t v
  fenced_out s u v n hs x =
      let (a, ea, h) = each_back (Near p c) s.threads u.threads n hs.1 x.stands in
      let line : a.waits ≡ x.w ∷ x.ws = ap (λ (z : At). z.waits) (sym h.is) ∙ x.line in
      let t : St = gone s n x.w (rest_of a x.ws) in
      (t, record { was = a; stands = ea; w = x.w; ws = x.ws; line = line; gives = refl }, subst (NearAll c p t) (sym x.gives) (near_gone s u n a x.was x.w x.ws hs h line))

  guarded_out : (s t u : St) (n : ℕ) → NearAll c p s u → Out s n t → (v : St) × Out u n v × NearAll c p t v
  guarded_out s t u n hs x =
      let (b, eb, h) = each_at (Near p c) s.threads u.threads n hs.1 x.stands in
      let line : b.waits ≡ x.w ∷ x.ws = ap (λ (z : At). z.waits) h.is ∙ x.line in
      let v : St = gone u n x.w (rest_of b x.ws) in
      (v, record { was = b; stands = eb; w = x.w; ws = x.ws; line = line; gives = refl }, subst (λ (z : St). NearAll c p z v) (sym x.gives) (near_gone s u n x.was b x.w x.ws hs h x.line))

  -- both are finished together, with the same outcome
  fenced_done : (s u : St) → NearAll c p s u → all_done q u.threads ≡ true → all_done p s.threads ≡ true
  fenced_done s u (em, hs) d = at_done p s.threads at
    where
      at : (n : ℕ) (code : Thread) → nth p n ≡ some code → (a : At) × (nth s.threads n ≡ some a) × Ended code a
      at n code ec =
          let (f, ef, made-f) = each_at (λ k t z. z ≡ blocks (c k) t) p q n made ec in
          let (b, eb, (pc, row)) = done_at q u.threads n d ef in
          let (a, ea, h) = each_back (Near p c) s.threads u.threads n hs eb in
          let same : h.code ≡ code = some_is (sym h.of ∙ ec) in
          let long : b.pc ≡ start (c n) (length code) = pc ∙ (ap length made-f ∙ length_blocks (c n) code) in
          let b_pc : b.pc ≡ start (c n) a.pc + h.i = ap (λ (z : At). z.pc) h.is in
          let within : a.pc ≤ length code = subst (λ (z : Thread). a.pc ≤ length z) same h.within in
          let most = h.most in
          let end : a.pc ≡ length code = elim (same_or a.pc (length code)) [ inl e ↦ e | inr k ↦ absurd (let g = start_below (c n) a.pc (length code) (omega arith) in omega arith) ] in
          (a, ea, (end, ap (λ (z : At). z.waits) (sym h.is) ∙ row))

  guarded_done : (s u : St) → NearAll c p s u → all_done p s.threads ≡ true → all_done q u.threads ≡ true
  guarded_done s u (em, hs) d = at_done q u.threads at
    where
      at : (n : ℕ) (f : Thread) → nth q n ≡ some f → (b : At) × (nth u.threads n ≡ some b) × Ended f b
      at n f ef =
          let (code, ec, made-f) = each_back (λ k t z. z ≡ blocks (c k) t) p q n made ef in
          let (a, ea, (pc, row)) = done_at p s.threads n d ec in
          let (b, eb, h) = each_at (Near p c) s.threads u.threads n hs ea in
          let same : length h.code ≡ length code = ap length (some_is (sym h.of ∙ ec)) in
          let b_pc : b.pc ≡ start (c n) a.pc + h.i = ap (λ (z : At). z.pc) h.is in
          let none_done : h.i ≡ 0 = elim (same_or h.i 0) [ inl e ↦ e | inr k ↦ absurd (let g = (h.quiet (omega arith)).1 in omega arith) ] in
          let at_end : start (c n) a.pc ≡ start (c n) (length code) = ap (start (c n)) pc in
          let long : length f ≡ start (c n) (length code) = ap length made-f ∙ length_blocks (c n) code in
          (b, eb, (omega arith, ap (λ (z : At). z.waits) h.is ∙ row))

  near_outcome : (s u : St) → NearAll c p s u → outcome s ≡ outcome u
  near_outcome s u (em, hs) = ap (λ (z : List ℕ). z ++ s.mem) (regs_same s.threads u.threads (each_map (Near p c) (λ n a b. a.regs ≡ b.regs) s.threads u.threads (λ n a b h. ap (λ (z : At). z.regs) (sym h.is)) hs)) ∙ ap (λ (z : List ℕ). regs_of u.threads ++ z) em

  -- where stores wait: a run of the program with fences is a run under guards
  fenced_runs : (g : Guard) → ((n k : ℕ) → g n k ≡ true → 0 < c n k) → (s u v : St) (ms : List Move) → NearAll c p s u → moves q u ms ≡ some v → GuardedNear c g p s v
  fenced_runs g counted s u v [] h e = ([], s, refl, subst (NearAll c p s) (some_is e) h)
  fenced_runs g counted s u v (next n ∷ ms) h e =
      let (w, ew, e1) = opt_some (move q u (next n)) _ e in
      elim (fenced_next s u w n h (next_of q u n w ew)) [ inl st ↦ fenced_runs g counted s w v ms st.1 e1 | inr x ↦ first x (fenced_runs g counted x.to w v ms x.near e1) ]
    where
      first : {w : St} {y : Next q u n w} (x : Same c p q s u w n y) → GuardedNear c g p x.to v → GuardedNear c g p s v
      first x (ns, t, en, k) =
          let a : At = x.step.was in
          let may : free g s (next n) ≡ true = opt_is (nth s.threads n) true _ x.step.stands ∙ calm_free (g n a.pc) a.waits (λ z. x.calm (counted n a.pc z)) in
          (next n ∷ ns, t, opt_is (gmove g p s (next n)) none (λ z. gmoves g p z ns) (move_gmove g p s x.to (next n) may (of_next p s n x.to x.step)) ∙ en, k)
  fenced_runs g counted s u v (out n ∷ ms) h e =
      let (w, ew, e1) = opt_some (move q u (out n)) _ e in
      let (t, x, k) = fenced_out s u w n h (out_of q u n w ew) in
      let (ns, z, en, l) = fenced_runs g counted t w v ms k e1 in
      (out n ∷ ns, z, opt_is (gmove g p s (out n)) none (λ y. gmoves g p y ns) (of_out p s n t x) ∙ en, l)

  -- and the other way
  after_runs : (s t u v : St) (n : ℕ) (y : Next p s n t) (x : After c p q s t u n y) (ns : List Move) → moves q x.to ns ≡ some v → (ks : List Move) × (moves q u ks ≡ some v)
  after_runs s t u v n y x ns e =
      let (bs, eb) = all_moves q u x.mid x.ns x.run in
      (bs ++ (next n ∷ ns), moves_then q u x.mid v bs (next n ∷ ns) eb (opt_is (move q x.mid (next n)) none (λ z. moves q z ns) (of_next q x.mid n x.to x.step) ∙ e))

  guarded_runs : (g : Guard) → ((n k : ℕ) → 0 < c n k → g n k ≡ true) → (s t u : St) (ms : List Move) → NearAll c p s u → gmoves g p s ms ≡ some t → WaitingNear c p q t u
  guarded_runs g counted s t u [] h e = ([], u, refl, subst (λ (z : St). NearAll c p z u) (some_is e) h)
  guarded_runs g counted s t u (next n ∷ ms) h e =
      let (w, ew, e1) = opt_some (gmove g p s (next n)) _ e in
      let (y, calm) = guarded_calm g p s w n ew in
      let x = guarded_next s w u n h y (λ z. calm (counted n y.was.pc z)) in
      let (ns, v, en, k) = guarded_runs g counted w t x.to ms x.near e1 in
      let (ks, ek) = after_runs s w u v n y x ns en in
      (ks, v, ek, k)
  guarded_runs g counted s t u (out n ∷ ms) h e =
      let (w, ew, e1) = opt_some (move p s (out n)) _ e in
      let (v, x, k) = guarded_out s w u n h (out_of p s n w ew) in
      let (ns, z, en, l) = guarded_runs g counted w t v ms k e1 in
      (out n ∷ ns, z, opt_is (move q u (out n)) none (λ y. moves q y ns) (of_out q u n v x) ∙ en, l)

  -- at once: a step of the program with fences is a step of the program, or a fence
  fenced_once : (s u v : St) (n : ℕ) → NearAll c p s u → Once q u n v → PlainNear c p s v
  fenced_once s u v n h x = elim (fenced_next s u x.mid n h x.first) [ inl st ↦ a_fence st.0 st.1 x.then | inr y ↦ a_step y x.then ]
    where
      a_fence : x.first.i ≡ fence → NearAll c p s x.mid → Ends x.first.i x.mid n v → PlainNear c p s v
      a_fence f k (inl st) = absurd (false_true (sym (ap is_store f) ∙ st.0))
      a_fence f k (inr st) = ([], s, refl, subst (NearAll c p s) (sym st.1) k)

      a_step : Same c p q s u x.mid n x.first → Ends x.first.i x.mid n v → PlainNear c p s v
      a_step y (inl st) =
          let (t, o, k) = fenced_out y.to x.mid v n y.near st.1 in
          (n ∷ [], t, opt_is (at_once p s n) none _ (of_once p s n t (record { mid = y.to; first = y.step; then = inl (ap is_store y.same ∙ st.0, o) })), k)
      a_step y (inr st) =
          (n ∷ [], y.to, opt_is (at_once p s n) none _ (of_once p s n y.to (record { mid = y.to; first = y.step; then = inr (ap is_store y.same ∙ st.0, refl) })), subst (NearAll c p y.to) (sym st.1) y.near)

  fenced_at_once : (s u v : St) (ms : List ℕ) → NearAll c p s u → all_at_once q u ms ≡ some v → PlainNear c p s v
  fenced_at_once s u v [] h e = ([], s, refl, subst (NearAll c p s) (some_is e) h)
  fenced_at_once s u v (n ∷ ms) h e =
      let (w, ew, e1) = opt_some (at_once q u n) _ e in
      let (ns, t, en, k) = fenced_once s u w n h (once_of q u n w ew) in
      let (ks, z, ez, l) = fenced_at_once t w v ms k e1 in
      (ns ++ ks, z, all_then p s t z ns ks en ez, l)

  -- a step of the program is the fences before it and then that step; at once nothing ever waits
  plain_once : (s t u : St) (n : ℕ) → NearAll c p s u → Quiet s → Once p s n t → FencedNear c p q t u
  plain_once s t u n h quiet x = last (guarded_next s x.mid u n h x.first (λ z. quiet n x.first.was x.first.stands)) x.then
    where
      ends : (y : After c p q s x.mid u n x.first) (v : St) → at_once q y.mid n ≡ some v → NearAll c p t v → FencedNear c p q t u
      ends y v e k = (y.ns ++ (n ∷ []), v, all_then q u y.mid v y.ns (n ∷ []) y.run (opt_is (at_once q y.mid n) none _ e), k)

      last : (y : After c p q s x.mid u n x.first) → Ends x.first.i x.mid n t → FencedNear c p q t u
      last y (inl st) =
          let (v, o, k) = guarded_out x.mid t y.to n y.near st.1 in
          ends y v (of_once q y.mid n v (record { mid = y.to; first = y.step; then = inl (ap is_store y.same ∙ st.0, o) })) k
      last y (inr st) =
          ends y y.to (of_once q y.mid n y.to (record { mid = y.to; first = y.step; then = inr (ap is_store y.same ∙ st.0, refl) })) (subst (λ (z : St). NearAll c p z y.to) (sym st.1) y.near)

  plain_at_once : (s t u : St) (ms : List ℕ) → NearAll c p s u → Quiet s → all_at_once p s ms ≡ some t → FencedNear c p q t u
  plain_at_once s t u [] h quiet e = ([], u, refl, subst (λ (z : St). NearAll c p z u) (some_is e) h)
  plain_at_once s t u (n ∷ ms) h quiet e =
      let (w, ew, e1) = opt_some (at_once p s n) _ e in
      let x = once_of p s n w ew in
      let (ns, v, en, k) = plain_once s w u n h quiet x in
      let (ks, z, ez, l) = plain_at_once w t v ms k (once_quiet p s w n quiet x) e1 in
      (ns ++ ks, z, all_then q u v z ns ks en ez, l)

module _ (ss : List Spot) (p : Prog) (o : List ℕ) where
  made_of : Each (λ n t u. u ≡ blocks (counts ss n) t) p (with_fences ss p)
  made_of = with_fences_blocks ss p

  waits_guarded : Waiting (with_fences ss p) o → Guarded (guards ss) p o
  waits_guarded (ms, u, e, d, w) =
      let (ns, s, en, h) = fenced_runs (counts ss) p (with_fences ss p) made_of (guards ss) (guards_counts ss) (begin p) (begin (with_fences ss p)) u ms (near_begin (counts ss) p (with_fences ss p) made_of) e in
      (ns, s, en, fenced_done (counts ss) p (with_fences ss p) made_of s u h d, near_outcome (counts ss) p (with_fences ss p) made_of s u h ∙ w)

  guarded_waits : Guarded (guards ss) p o → Waiting (with_fences ss p) o
  guarded_waits (ms, s, e, d, w) =
      let (ns, u, en, h) = guarded_runs (counts ss) p (with_fences ss p) made_of (guards ss) (counts_guards ss) (begin p) s (begin (with_fences ss p)) ms (near_begin (counts ss) p (with_fences ss p) made_of) e in
      (ns, u, en, guarded_done (counts ss) p (with_fences ss p) made_of s u h d, sym (near_outcome (counts ss) p (with_fences ss p) made_of s u h) ∙ w)

  fenced_plain : AtOnce (with_fences ss p) o → AtOnce p o
  fenced_plain (ms, u, e, d, w) =
      let (ns, s, en, h) = fenced_at_once (counts ss) p (with_fences ss p) made_of (begin p) (begin (with_fences ss p)) u ms (near_begin (counts ss) p (with_fences ss p) made_of) e in
      (ns, s, en, fenced_done (counts ss) p (with_fences ss p) made_of s u h d, near_outcome (counts ss) p (with_fences ss p) made_of s u h ∙ w)

  plain_fenced : AtOnce p o → AtOnce (with_fences ss p) o
  plain_fenced (ms, s, e, d, w) =
      let (ns, u, en, h) = plain_at_once (counts ss) p (with_fences ss p) made_of (begin p) s (begin (with_fences ss p)) ms (near_begin (counts ss) p (with_fences ss p) made_of) (begin_quiet p) e in
      (ns, u, en, guarded_done (counts ss) p (with_fences ss p) made_of s u h d, sym (near_outcome (counts ss) p (with_fences ss p) made_of s u h) ∙ w)

pub fences_are_guards : FencesAreGuards
fences_are_guards ss p o = (waits_guarded ss p o, guarded_waits ss p o)

pub fences_at_once : FencesAtOnce
fences_at_once ss p o = (fenced_plain ss p o, plain_fenced ss p o)

-- more fences are more guards
pub more_fences : MoreFences
more_fences ss ts p o sub w =
    let (ms, s, e, d, q) = waits_guarded ts p o w in
    guarded_waits ss p o (ms, s, gmoves_less (guards ss) (guards ts) p (begin p) s ms (λ n k g. on_guards (record { thread = n; index = k }) ts (sub _ (guards_on n k ss g))) e, d, q)
