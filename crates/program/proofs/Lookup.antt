-- Looking an instruction up in a list of threads, and what is true of every instruction of a thread.
use Rattle.std.proofs.Common.{◌≡◌, ℕ, zero, suc, ◌<◌, ◌≤◌, T, List, [], ◌∷◌, map, length, get_or, sym, refl, ap, ◌∙◌, subst, arith, None, Some, Option, Bor}
use Rattle.std.specs.Option.{MatchOption, IfSome, option_copied}
use Rattle.std.proofs.Math.Option.{some, none}
use Rattle.std.proofs.Math.Option as math
use Rattle.model.specs.Code.{opt, nth, I, Thread, Prog, ok_i, ok_t}
use Rattle.program.specs.declared.instructions.Instruction.{Instruction}
use Rattle.program.specs.Instructions.{instruction}
use Rattle.program.specs.Post.{InstructionAt}
use Rattle.program.proofs.Rows.{and_left, and_right}

pub nth_past : {A : Type 0} (xs : List A) (n : ℕ) → length xs ≤ n → nth xs n ≡ none
nth_past [] n h = refl
nth_past (x ∷ xs) zero h = absurd (omega arith)
nth_past (x ∷ xs) (suc n) h = nth_past xs n (omega arith)

pub nth_map_past : {A B : Type 0} (f : A → B) (xs : List A) (n : ℕ) → length xs ≤ n → nth (map f xs) n ≡ none
nth_map_past f [] n h = refl
nth_map_past f (x ∷ xs) zero h = absurd (omega arith)
nth_map_past f (x ∷ xs) (suc n) h = nth_map_past f xs n (omega arith)

pub nth_map : {A B : Type 0} (f : A → B) (xs : List A) (n : ℕ) (d : A) → n < length xs → nth (map f xs) n ≡ some (f (get_or xs n d))
nth_map f [] n d h = absurd (omega arith)
nth_map f (x ∷ xs) zero d h = refl
nth_map f (x ∷ xs) (suc n) d h = nth_map f xs n d (omega arith)

pub ok_nth : (t : Thread) (k : ℕ) (i : I) → T (ok_t t) → nth t k ≡ some i → T (ok_i i)
ok_nth [] k i h e = let z : ◌≡◌ {A = ℕ} 0 1 = cc in absurd (omega arith)
ok_nth (j ∷ t) zero i h e = let f : j ≡ i = cc in subst (λ (x : I). T (ok_i x)) f (and_left (ok_i j) (ok_t t) h)
ok_nth (j ∷ t) (suc k) i h e = ok_nth t k i (and_right (ok_i j) (ok_t t) h) e

of_thread : (p : Prog) (n k : ℕ) (o : math.Option Thread) → nth p n ≡ o → opt (nth p n) none (λ (t : Thread). nth t k) ≡ opt o none (λ (t : Thread). nth t k)
of_thread p n k o e = ap (λ (o : math.Option Thread). opt o none (λ (t : Thread). nth t k)) e

pub no_thread : (p : Prog) (n k : ℕ) → nth p n ≡ none → InstructionAt p n k None
no_thread p n k h = of_thread p n k none h

pub looked_up : (Q : Bor Instruction → Type 0) (p : Prog) (n k : ℕ) (t : Thread) (is : List Instruction) (r : Option (Bor Instruction)) → nth p n ≡ some t → map instruction is ≡ t → T (ok_t t) → length is ≤ 8 → MatchOption r (length is ≤ k) (λ x. (k < length is) × Q x) → IfSome r (λ x. x.now ≡ get_or is k x.now) → InstructionAt p n k (option_copied r)
looked_up q p n k t is None e m f few h g = of_thread p n k (some t) e ∙ ap (λ (u : Thread). nth u k) (sym m) ∙ nth_map_past instruction is k h
looked_up q p n k t is (Some x) e m f few h g =
    let at : nth t k ≡ some (instruction x.now) = ap (λ (u : Thread). nth u k) (sym m) ∙ nth_map instruction is k x.now h.0 ∙ ap (λ (j : Instruction). some (instruction j)) (sym g) in
    (of_thread p n k (some t) e ∙ at, ok_nth t k (instruction x.now) f at, omega (arith, h.0))
