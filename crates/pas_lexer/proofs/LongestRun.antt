-- Choices, and how far bytes pass a test.
use Rattle.std.proofs.Common.{◌++◌, ◌-◌, ◌∙◌, ◌∷◌, ◌≡◌, ◌≤◌, ◌⊎◌, [], ℕ, Bool, List, ap, arith, cond, drop, false, inl, inr, length, length-drop, refl, subst}
use Rattle.std.proofs.Common.{suc, sym, take, true, zero}
use Rattle.std.{proofs.lemmas.List.take_all, specs.List.AllPass}
use Rattle.pas_lexer.specs.Reading.{run_length}

pub chosen : {A : Type 0} (b : Bool) (x y z : A) → cond b x y ≡ z → ((b ≡ true) × (x ≡ z)) ⊎ ((b ≡ false) × (y ≡ z))
chosen true x y z e = inl (refl, e)
chosen false x y z e = inr (refl, e)

pub fact_of : (b : Bool) → ((b ≡ true) ⊎ (b ≡ false))
fact_of true = inl refl
fact_of false = inr refl

pub pass_nil : (p : ℕ → Bool) → AllPass p []
pass_nil p k d l = absurd (omega arith)

pub pass_cons : (p : ℕ → Bool) (c : ℕ) (cs : List ℕ) → p c ≡ true → AllPass p cs → AllPass p (c ∷ cs)
pass_cons p c cs h t zero d l = h
pass_cons p c cs h t (suc k) d l = t k d (omega arith)

pub pass_head : (p : ℕ → Bool) (c : ℕ) (cs : List ℕ) → AllPass p (c ∷ cs) → p c ≡ true
pass_head p c cs h = h 0 0 (omega arith)

pub pass_tail : (p : ℕ → Bool) (c : ℕ) (cs : List ℕ) → AllPass p (c ∷ cs) → AllPass p cs
pass_tail p c cs h k d l = h (suc k) d (omega arith)

-- what follows in the text passes too
pub pass_rest : (p : ℕ → Bool) (cs ds : List ℕ) → AllPass p (cs ++ ds) → AllPass p ds
pass_rest p [] ds h = h
pass_rest p (c ∷ cs) ds h = pass_rest p cs ds (pass_tail p c (cs ++ ds) h)

-- one byte more
pub pass_more : (p : ℕ → Bool) (cs : List ℕ) (d : ℕ) → AllPass p cs → p d ≡ true → AllPass p (cs ++ d ∷ [])
pass_more p [] d h e = pass_cons p d [] e (pass_nil p)
pass_more p (c ∷ cs) d h e = pass_cons p c (cs ++ d ∷ []) (pass_head p c cs h) (pass_more p cs d (pass_tail p c cs h) e)

-- no byte that passes comes next
abbrev pub Stops : (ℕ → Bool) → List ℕ → Type 0
Stops p [] = Unit {0}
Stops p (c ∷ l) = p c ≡ false

pub stops : (p : ℕ → Bool) (rest : List ℕ) → ((d : ℕ) (more : List ℕ) → rest ≡ d ∷ more → p d ≡ true → ⊥) → Stops p rest
stops p [] none = tt
stops p (d ∷ more) none =
    elim (fact_of (p d)) [
      | inl e ↦ absurd (none d more refl e)
      | inr e ↦ e
    ]

pub next_fails : (p : ℕ → Bool) (rest : List ℕ) (d : ℕ) (ds more : List ℕ) → Stops p rest → rest ≡ (d ∷ ds) ++ more → p d ≡ true → ⊥
next_fails p rest d ds more s e h = let f : p d ≡ false = subst (Stops p) e s in cc

pub run_again : (p : ℕ → Bool) (cs rest : List ℕ) → AllPass p cs → Stops p rest → run_length p (cs ++ rest) ≡ length cs
run_again p [] [] h s = refl
run_again p [] (d ∷ rest) h s = rw s refl
run_again p (c ∷ cs) rest h s = let f : p c ≡ true = pass_head p c cs h in rw f (ap suc (run_again p cs rest (pass_tail p c cs h) s))

pub run_passes : (p : ℕ → Bool) (l : List ℕ) → AllPass p (take (run_length p l) l)
run_passes p [] = pass_nil p
run_passes p (c ∷ l) =
    elim (fact_of (p c)) [
      | inl h ↦ let e : run_length p (c ∷ l) ≡ suc (run_length p l) = rw h refl in subst (λ (n : ℕ). AllPass p (take n (c ∷ l))) (sym e)
          (pass_cons p c (take (run_length p l) l) h (run_passes p l))
      | inr h ↦ let e : run_length p (c ∷ l) ≡ 0 = rw h refl in subst (λ (n : ℕ). AllPass p (take n (c ∷ l))) (sym e) (pass_nil p)
    ]

pub run_stops : (p : ℕ → Bool) (l : List ℕ) → Stops p (drop (run_length p l) l)
run_stops p [] = tt
run_stops p (c ∷ l) =
    elim (fact_of (p c)) [
      | inl h ↦ let e : run_length p (c ∷ l) ≡ suc (run_length p l) = rw h refl in subst (λ (n : ℕ). Stops p (drop n (c ∷ l))) (sym e) (run_stops p l)
      | inr h ↦ let e : run_length p (c ∷ l) ≡ 0 = rw h refl in subst (λ (n : ℕ). Stops p (drop n (c ∷ l))) (sym e) h
    ]

pub run_len : (p : ℕ → Bool) (l : List ℕ) → length (take (run_length p l) l) ≡ run_length p l
run_len p [] = refl
run_len p (c ∷ l) =
    elim (fact_of (p c)) [
      | inl h ↦ let e : run_length p (c ∷ l) ≡ suc (run_length p l) = rw h refl in subst (λ (n : ℕ). length (take n (c ∷ l)) ≡ n) (sym e) (ap suc (run_len p l))
      | inr h ↦ let e : run_length p (c ∷ l) ≡ 0 = rw h refl in subst (λ (n : ℕ). length (take n (c ∷ l)) ≡ n) (sym e) refl
    ]

pub head_is : (x y : ℕ) (l m : List ℕ) → x ∷ l ≡ y ∷ m → x ≡ y
head_is x y l m e = cc

pub tail_is : (x y : ℕ) (l m : List ℕ) → x ∷ l ≡ y ∷ m → l ≡ m
tail_is x y l m e = cc

-- two beginnings of one list: the longer goes on where the shorter ends
pub split : (a r b q : List ℕ) → a ++ r ≡ b ++ q → length a ≤ length b → (m : List ℕ) × (b ≡ a ++ m) × (r ≡ m ++ q)
split [] r b q e le = (b, refl, e)
split (x ∷ a) r [] q e le = absurd (omega (arith, le))
split (x ∷ a) r (y ∷ b) q e le =
    let first : x ≡ y = head_is x y (a ++ r) (b ++ q) e in
    let more = split a r b q (tail_is x y (a ++ r) (b ++ q) e) (omega (arith, le)) in
    (more.0, ap (λ (z : ℕ). z ∷ b) (sym first) ∙ ap (λ (l : List ℕ). x ∷ l) more.1, more.2)

pub rest_is : (l : List ℕ) (n : ℕ) → take (length l - n) (drop n l) ≡ drop n l
rest_is l n = take_all (length l - n) (drop n l) (omega (arith, length-drop n l))
