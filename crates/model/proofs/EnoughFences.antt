-- Where nothing can be done behind a store while it waits, nothing new comes out: each run is a run at once.
-- The store is done at once where it goes out; until then the machine at once stands before it (Held). What forbids the
-- instruction behind a store is a parameter (Never): a fence, or a guard. So one induction serves programs with a fence
-- behind every store and programs with guards enough.
use mathlib.Core.Path.{◌≡◌, refl, sym, ap, ◌∙◌, subst}
use mathlib.Core.Logic.{◌⊎◌, inl, inr}
use mathlib.Core.List.{List, [], ◌∷◌, ◌++◌}
use mathlib.Core.Option.{some, none}
use mathlib.Core.Bool.{Bool, true, false, ◌||◌, not}
use Prim.Native.Nat.{ℕ, zero, suc}
use native.Mathlib.Omega.{arith}
use Rattle.model.specs.Code.{nth, put, I, stores, fence, Thread, Prog}
use Rattle.model.specs.Machine.{Wait, At, St, Move, next, out, begin, reg, done, does, empty, all_done, at_once, all_at_once, is_store, with_thread}
use Rattle.model.specs.Guards.{Guard, free, gmove, gmoves}
use Rattle.model.specs.Theorems.{Enough, AllFenced, none_left, fenced, other}
use Rattle.model.proofs.Tools.{none_some, some_is, false_true, nil_cons, opt_some, opt_is, pick_some, Next, next_of, Out, out_of, rest_of, gone, stored, store_or, does_waits, once_plain, once_store, Each, each_at, each_put, each_left, each_same, each_make, each_both, each_length, all_then, done_at, starts_fresh}
use Rattle.model.proofs.RunsUnderGuards.{gmove_move, unguarded, moves_gmoves}

-- a is b with its next instruction, a store, done and waiting
pub record Stored (p : Prog) (n : ℕ) (a b : At) : Type 0 where
  pub code : Thread
  pub x : ℕ
  pub r : ℕ
  pub of : nth p n ≡ some code
  pub at : nth code b.pc ≡ some (stores x r)
  pub is : a ≡ done b b.regs (stored b x r ∷ [])

abbrev Held : Prog → ℕ → At → At → Type 0
Held p n a b = (b.waits ≡ []) × ((a ≡ b) ⊎ Stored p n a b)

abbrev HeldAll : Prog → St → St → Type 0
HeldAll p s u = (s.mem ≡ u.mem) × Each (Held p) s.threads u.threads

-- the instruction behind a store is a fence or guarded
abbrev pub Never : Guard → Prog → Type 0
Never g p = (n k x r : ℕ) (c : Thread) (i : I) → nth p n ≡ some c → nth c k ≡ some (stores x r) → nth c (suc k) ≡ some i → (i ≡ fence) ⊎ (g n (suc k) ≡ true)

-- the machine at once comes along
abbrev Along : Prog → St → St → Type 0
Along p u t = (ns : List ℕ) × (v : St) × (all_at_once p u ns ≡ some v) × HeldAll p t v

module _ (g : Guard) (p : Prog) (never : Never g p) where
  -- both stand alike, and the instruction is no store: both do it
  plain_along : (s t u : St) (n : ℕ) (b : At) (x : Next p s n t) → HeldAll p s u → nth u.threads n ≡ some b → b.waits ≡ [] → x.was ≡ b → is_store x.i ≡ false → Along p u t
  plain_along s t u n b x (em, h) eb hb e q =
      let at : nth x.code b.pc ≡ some x.i = subst (λ (z : At). nth x.code z.pc ≡ some x.i) e x.at in
      let did : does u.mem b x.i ≡ some x.now = subst (λ (z : At). does u.mem z x.i ≡ some x.now) e (subst (λ (z : List ℕ). does z x.was x.i ≡ some x.now) em x.did) in
      let row : x.now.waits ≡ [] = does_waits u.mem b x.now x.i q did ∙ hb in
      let step = once_plain p u n b x.now x.code x.i eb x.of at q did in
      subst (Along p u) (sym x.gives) (n ∷ [], with_thread u n x.now, opt_is (at_once p u n) none _ step, (em, each_put (Held p) s.threads u.threads n x.now x.now h (row, inl refl)))

  -- both stand alike, and the instruction is a store: the machine at once stays before it
  store_along : (s t u : St) (n : ℕ) (b : At) (x : Next p s n t) (y r : ℕ) → HeldAll p s u → nth u.threads n ≡ some b → b.waits ≡ [] → x.was ≡ b → x.i ≡ stores y r → Along p u t
  store_along s t u n b x y r (em, h) eb hb e q =
      let at : nth x.code b.pc ≡ some (stores y r) = subst (λ (z : At). nth x.code z.pc ≡ some x.i) e x.at ∙ ap some q in
      let did : does s.mem b (stores y r) ≡ some x.now = subst (λ (z : At). does s.mem z (stores y r) ≡ some x.now) e (subst (λ (z : I). does s.mem x.was z ≡ some x.now) q x.did) in
      let is : x.now ≡ done b b.regs (stored b y r ∷ []) = sym (some_is did) ∙ ap (λ (z : List Wait). done b b.regs (z ++ (stored b y r ∷ []))) hb in
      subst (Along p u) (sym x.gives) ([], u, refl, (em, each_left (Held p) s.threads u.threads n x.now h eb (hb, inr (record { code = x.code; x = y; r = r; of = x.of; at = at; is = is }))))

  -- a store waits: what stands behind it can't be done
  behind_never : (s t u : St) (n : ℕ) (b : At) (x : Next p s n t) → free g s (next n) ≡ true → Stored p n x.was b → ⊥
  behind_never s t u n b x f h =
      let same : h.code ≡ x.code = some_is (sym h.of ∙ x.of) in
      let pc : x.was.pc ≡ suc b.pc = ap (λ (z : At). z.pc) h.is in
      let at : nth h.code (suc b.pc) ≡ some x.i = subst (λ (z : ℕ). nth h.code z ≡ some x.i) pc (subst (λ (z : Thread). nth z x.was.pc ≡ some x.i) (sym same) x.at) in
      let row : empty x.was.waits ≡ false = ap (λ (z : At). empty z.waits) h.is in
      false_true (sym row ∙ elim (never n b.pc h.x h.r h.code x.i h.of h.at at) [ inl e ↦ by_fence x.i e x.did | inr k ↦ by_guard k pc ])
    where
      by_fence : (i : I) → i ≡ fence → does s.mem x.was i ≡ some x.now → empty x.was.waits ≡ true
      by_fence i e d = (pick_some (empty x.was.waits) _ (subst (λ (z : I). does s.mem x.was z ≡ some x.now) e d)).0

      by_guard : g n (suc b.pc) ≡ true → x.was.pc ≡ suc b.pc → empty x.was.waits ≡ true
      by_guard k pc =
          let open_to : not (g n x.was.pc) || empty x.was.waits ≡ true = sym (opt_is (nth s.threads n) true (λ a. not (g n a.pc) || empty a.waits) x.stands) ∙ f in
          let shut : g n x.was.pc ≡ true = ap (g n) pc ∙ k in
          sym (ap (λ (z : Bool). not z || empty x.was.waits) shut) ∙ open_to

  next_along : (s t u : St) (n : ℕ) → HeldAll p s u → free g s (next n) ≡ true → Next p s n t → Along p u t
  next_along s t u n h f x =
      let (b, eb, (hb, hs)) = each_at (Held p) s.threads u.threads n h.1 x.stands in
      elim hs [ inl e ↦ elim (store_or x.i) [ inl st ↦ store_along s t u n b x st.0 st.1 h eb hb e st.2 | inr q ↦ plain_along s t u n b x h eb hb e q ] | inr st ↦ absurd (behind_never s t u n b x f st) ]

  -- the store that waits goes out: the machine at once does it now
  out_along : (s t u : St) (n : ℕ) → HeldAll p s u → Out s n t → Along p u t
  out_along s t u n (em, h) x =
      let (b, eb, (hb, hs)) = each_at (Held p) s.threads u.threads n h x.stands in
      elim hs [ inl e ↦ absurd (nil_cons (sym hb ∙ (ap (λ (z : At). z.waits) (sym e) ∙ x.line))) | inr st ↦ went b eb hb st ]
    where
      went : (b : At) → nth u.threads n ≡ some b → b.waits ≡ [] → Stored p n x.was b → Along p u t
      went b eb hb st =
          let line : x.w ∷ x.ws ≡ stored b st.x st.r ∷ [] = sym x.line ∙ ap (λ (z : At). z.waits) st.is in
          let w : x.w ≡ stored b st.x st.r = cc in
          let ws : x.ws ≡ [] = cc in
          let now : rest_of x.was x.ws ≡ done b b.regs [] = ap (λ (z : At). rest_of z x.ws) st.is ∙ ap (λ (z : List Wait). done b b.regs z) ws in
          let step = once_store p u n b st.code st.x st.r eb st.of st.at hb in
          let t_is : t ≡ gone s n (stored b st.x st.r) (done b b.regs []) = x.gives ∙ (ap (λ (z : Wait). gone s n z (rest_of x.was x.ws)) w ∙ ap (gone s n (stored b st.x st.r)) now) in
          subst (Along p u) (sym t_is) (n ∷ [], gone u n (stored b st.x st.r) (done b b.regs []), opt_is (at_once p u n) none _ step, (ap (λ (z : List ℕ). put z st.x (reg b st.r)) em, each_put (Held p) s.threads u.threads n (done b b.regs []) (done b b.regs []) h (refl, inl refl)))

  move_along : (s t u : St) (m : Move) → HeldAll p s u → gmove g p s m ≡ some t → Along p u t
  move_along s t u (next n) h e = let (f, em) = gmove_move g p s t (next n) e in next_along s t u n h f (next_of p s n t em)
  move_along s t u (out n) h e = let (f, em) = gmove_move g p s t (out n) e in out_along s t u n h (out_of p s n t em)

  moves_along : (s t u : St) (ms : List Move) → HeldAll p s u → gmoves g p s ms ≡ some t → Along p u t
  moves_along s t u [] h e = ([], u, refl, subst (λ (z : St). HeldAll p z u) (some_is e) h)
  moves_along s t u (m ∷ ms) h e =
      let (v, ev, e1) = opt_some (gmove g p s m) _ e in
      let (ns, w, ew, hw) = move_along s v u m h ev in
      let (ks, z, ez, hz) = moves_along v t w ms hw e1 in
      (ns ++ ks, z, all_then p u w z ns ks ew ez, hz)

  -- at the end nothing waits, so that both stand alike
  pub comes_at_once : (s : St) (ms : List Move) → gmoves g p (begin p) ms ≡ some s → all_done p s.threads ≡ true → (ns : List ℕ) × (all_at_once p (begin p) ns ≡ some s)
  comes_at_once s ms e d =
      let (ns, v, ev, (em, h)) = moves_along (begin p) s (begin p) ms (refl, each_make (Held p) (begin p).threads (begin p).threads refl alike) e in
      let threads : s.threads ≡ v.threads = each_same s.threads v.threads (ends s.threads v.threads h d) in
      let same : v ≡ s = λ i. record { mem = sym em i; threads = sym threads i } in
      (ns, ev ∙ ap some same)
    where
      alike : (n : ℕ) (a b : At) → nth (begin p).threads n ≡ some a → nth (begin p).threads n ≡ some b → Held p n a b
      alike n a b ea eb = (ap (λ (z : At). z.waits) (starts_fresh p n eb), inl (some_is (sym ea ∙ eb)))

      ends : (as₁ bs : List At) → Each (Held p) as₁ bs → all_done p as₁ ≡ true → Each (λ n a b. a ≡ b) as₁ bs
      ends as₁ bs h d = each_make (λ n a b. a ≡ b) as₁ bs (each_length (Held p) as₁ bs h) at
        where
          at : (n : ℕ) (a b : At) → nth as₁ n ≡ some a → nth bs n ≡ some b → a ≡ b
          at n a b ea eb =
              let (hb, hs) = each_both (Held p) as₁ bs n h ea eb in
              elim hs [ inl e ↦ e | inr st ↦ absurd (let (z, ez, (pc, row)) = done_at p as₁ n d st.of in nil_cons (sym row ∙ (ap (λ (y : At). y.waits) (some_is (sym ez ∙ ea)) ∙ ap (λ (y : At). y.waits) st.is))) ]

-- a fence stands behind every store
fenced_behind : {c : Thread} → AllFenced c → (k x r : ℕ) (i : I) → nth c k ≡ some (stores x r) → nth c (suc k) ≡ some i → i ≡ fence
fenced_behind none_left k x r i e f = absurd (none_some e)
fenced_behind (fenced h) zero x r i e f = sym (some_is f)
fenced_behind (fenced h) (suc zero) x r i e f = let z : ◌≡◌ {A = ℕ} 0 1 = cc in absurd (omega arith)
fenced_behind (fenced h) (suc (suc k)) x r i e f = fenced_behind h k x r i e f
fenced_behind (other q h) zero x r i e f = absurd (false_true (sym q ∙ ap is_store (some_is e)))
fenced_behind (other q h) (suc k) x r i e f = fenced_behind h k x r i e f

pub enough : Enough
enough p o all (ms, s, e, d, q) =
    let (ns, en) = comes_at_once unguarded p (λ n k x r c i ec ek ei. inl (fenced_behind (all n c ec) k x r i ek ei)) s ms (moves_gmoves p (begin p) s ms e) d in
    (ns, s, en, d, q)
