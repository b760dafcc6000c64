-- Runs that go on by one more move, and moves by the words that tell them.
use Rattle.std.proofs.Common.{◌≡◌, ℕ, ◌+◌, ◌-◌, ◌*◌, ◌<◌, ◌≤◌, Bool, true, false, List, [], ◌∷◌, ◌++◌, length, get_or, take, drop, replicate, sym, refl, ap, ◌∙◌, subst, arith}
use mathlib.Core.Option.{Option, some, none}
use borrow.Rule.Slice.PartMut.{put_mid}
use Rattle.std.proofs.lemmas.List.{take-replicate, take-append-drop, map-append, map_more}
use Rattle.model.specs.Code.{opt, Prog}
use Rattle.model.specs.Machine.{St, Move, move, moves, begin}
use Rattle.model.proofs.Levels.{run_more}
use Rattle.model.proofs.Tools.{false_true, none_some, some_is, opt_some, opt_is}
use Rattle.machine.specs.Meaning.{numbered}
use Rattle.machine.specs.Packed.{Packs}
use Rattle.machine.specs.Post.{Stepped}
use Rattle.machine.proofs.Unpacking.{start_packs}
use Rattle.replay.proofs.StateWords.{written_is}
use Rattle.replay.specs.Runs.{move_told, told, Comes, Reached, Ran, Made}

-- a step by the move that a word tells
pub told_step : (p q : Prog) (w : ℕ) (v : Move) (ws us : List ℕ) (r : Bool) (ys : List ℕ) → q ≡ p → us ≡ ws → v ≡ numbered 4 w → Stepped (λ s. move q s v) us r ys → Stepped (λ s. move p s (move_told w)) ws r ys
told_step p q w v ws us r ys e f g h =
    subst (λ (z : Prog). Stepped (λ s. move z s (move_told w)) ws r ys) e
    (subst (λ (z : List ℕ). Stepped (λ s. move q s (move_told w)) z r ys) f (subst (λ (z : Move). Stepped (λ s. move q s z) us r ys) g h))

of_none : {A C : Type 0} (o : Option A) (f : A → Option C) → o ≡ none → opt o none f ≡ none
of_none o f e = ap (λ z. opt z none f) e

-- moves behind a run are made from where it comes to
moves_on : (p : Prog) (s t : St) (ms ns : List Move) → moves p s ms ≡ some t → moves p s (ms ++ ns) ≡ moves p t ns
moves_on p s t [] ns e = ap (λ (z : St). moves p z ns) (some_is e)
moves_on p s t (m ∷ ms) ns e =
    let (u, a, b) = opt_some (move p s m) (λ (z : St). moves p z ms) e in
    opt_is (move p s m) none (λ (z : St). moves p z (ms ++ ns)) a ∙ moves_on p u t ms ns b

none_both : (o : Option St) (f g : St → Option St) → ((t : St) → f t ≡ none → g t ≡ none) → opt o none f ≡ none → opt o none g ≡ none
none_both none f g h e = refl
none_both (some t) f g h e = h t e

-- a run that can't be made can't be made with more behind it
pub none_further : (p : Prog) (s : St) (ms ns : List Move) → moves p s ms ≡ none → moves p s (ms ++ ns) ≡ none
none_further p s [] ns e = absurd (none_some (sym e))
none_further p s (m ∷ ms) ns e = none_both (move p s m) (λ (z : St). moves p z ms) (λ (z : St). moves p z (ms ++ ns)) (λ t k. none_further p t ms ns k) e

-- a step is one move more
pub made : (p : Prog) (w : ℕ) (ws : List ℕ) (r : Bool) (ws' : List ℕ) → Stepped (λ s. move p s (move_told w)) ws r ws' → (r ≡ false → ws' ≡ ws) → Made p w ws r ws'
made p w ws true ws' h e =
    record {
      stepped = h;
      onward = λ ms z. let (s, run, k) = z in let (t, m, k', _) = h s k in (t, run_more p ms s t (move_told w) run m, k');
      kept = e;
    }
made p w ws false ws' h e =
    record {
      stepped = h;
      onward = λ ms z. let (s, run, k) = z in moves_on p (begin p) s ms (move_told w ∷ []) run ∙ of_none (move p s (move_told w)) (λ (t : St). moves p t []) (h s k);
      kept = e;
    }

pub reached_more : (p : Prog) (w : ℕ) (ws ws' : List ℕ) → Made p w ws true ws' → Reached p ws → Reached p ws'
reached_more p w ws ws' m r = let (ms, z) = r in (ms ++ move_told w ∷ [], m.onward ms z)

-- the first state
pub begins : (p : Prog) → length p ≤ 4 → Comes p [] (take (1 + 3 * length p) (replicate 13 0))
begins p h =
    let few : 1 + 3 * length p ≤ 13 = omega arith in
    let z : replicate (1 + 3 * length p) 0 ≡ take (1 + 3 * length p) (replicate 13 0) = sym (take-replicate (1 + 3 * length p) 13 0 few) in
    (begin p, refl, subst (λ (ws : List ℕ). Packs ws (begin p)) z (start_packs p))

-- a told run of which a first part can't be made
pub told_none : (p : Prog) (n : ℕ) (ws : List ℕ) → moves p (begin p) (told (take n ws)) ≡ none → moves p (begin p) (told ws) ≡ none
told_none p n ws e =
    let z : told ws ≡ told (take n ws) ++ told (drop n ws) = ap told (sym (take-append-drop n ws)) ∙ map-append move_told (take n ws) (drop n ws) in
    ap (λ (ms : List Move). moves p (begin p) ms) z ∙ none_further p (begin p) (told (take n ws)) (told (drop n ws)) e

-- a step whose words are written over the first of others
pub made_true : (p : Prog) (w : ℕ) (ws zs ys : List ℕ) (n m : ℕ) → m ≡ n → length ys ≡ m → Stepped (λ s. move p s (move_told w)) ws true ys → Made p w ws true (take n (put_mid 0 (m - 0) zs ys))
made_true p w ws zs ys n m e l h =
    let is : take n (put_mid 0 (m - 0) zs ys) ≡ ys = ap (λ k. take k (put_mid 0 (m - 0) zs ys)) (sym e) ∙ written_is m zs ys l in
    made p w ws true (take n (put_mid 0 (m - 0) zs ys)) (subst (λ (z : List ℕ). Stepped (λ s. move p s (move_told w)) ws true z) (sym is) h) (λ e. absurd (false_true (sym e)))

pub made_false : (p : Prog) (w : ℕ) (ws ys : List ℕ) → Stepped (λ s. move p s (move_told w)) ws false ys → Made p w ws false ws
made_false p w ws ys h = made p w ws false ws h (λ e. refl)

-- a told run goes on by its next word
pub went_on : (p q : Prog) (ws vs vs' : List ℕ) (i : ℕ) (r : Bool) → q ≡ p → i < length ws → Made q (get_or ws i 0) vs r vs' → Comes p (told (take i ws)) vs → Ran p (told (take (i + 1) ws)) r vs'
went_on p q ws vs vs' i r e h m k =
    let n = subst (λ (z : Prog). Made z (get_or ws i 0) vs r vs') e m in
    subst (λ (ms : List Move). Ran p ms r vs') (sym (map_more move_told ws i 0 h)) (n.onward (told (take i ws)) k)
