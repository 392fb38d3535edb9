-- What is wanted before a touch, before touches, and before a call that was made.
use Rattle.std.proofs.Common.{if◌then◌else◌, ◌&&◌, ◌++◌, ◌+◌, ◌<◌, ◌==◌, ◌||◌, ◌∙◌, ◌∷◌, ◌≡◌, ◌≤◌, [], ℕ, All, Bool, List, None, Option, Some, ap, arith, false}
use Rattle.std.proofs.Common.{inl, inr, is_some, length, nat_le, nat_lt, refl, subst, suc, sym, take, true, zero}
use Rattle.std.proofs.lemmas.{Bool.Decides.eqb_tells, Bool.Decides.nat_tests, List.Elements.All-cons, List.Elements.All-nil}
use Rattle.std.specs.{List.cons_option, List.filter_map, List.range_with_len, List.slice_get, Option.option_map}
use Rattle.cell_value.specs.Effects.{change_at, changes_of, heap_end, heap_start, listed, reads_of, seen_at, shared}
use Rattle.cell_value.specs.declared.entries.Touch.{Touch}
use Rattle.core_program.specs.Run.{Call}
use Rattle.output_slice.specs.{Backward.met_cell, Keys.has_key, Outputs.changed_by, Outputs.has_output, declared.outputs.Output.TheVariants.Cell}

-- ---- one address more

-- a choice is none where its test fails
pub some_if : {X : Type 0} (b : Bool) (x : X) → is_some (if b then Some x else None) ≡ b
some_if true x = refl
some_if false x = refl

-- a block with one address more
pub block_more : (first i a : ℕ) (old : Bool) → first ≤ i
    → (if i == a then false else if nat_le first a && nat_lt a i then false else old) ≡ (if nat_le first a && nat_lt a (i + 1) then false else old)
block_more first i a old h = by (i == a) (nat_le first a) (nat_lt a i) (nat_lt a (i + 1)) refl refl refl refl
  where
    by : (x y z w : Bool) → (i == a) ≡ x → nat_le first a ≡ y → nat_lt a i ≡ z → nat_lt a (i + 1) ≡ w
        → (if x then false else if y && z then false else old) ≡ (if y && w then false else old)
    by true true z true p q s t = refl
    by true true z false p q s t = absurd (let l : ⊥ = grind (arith, nat_tests) in l)
    by true false z w p q s t = absurd (let l : ⊥ = grind (arith, nat_tests) in l)
    by false true true true p q s t = refl
    by false true false false p q s t = refl
    by false true true false p q s t = absurd (let l : ⊥ = grind (arith, nat_tests) in l)
    by false true false true p q s t = absurd (let l : ⊥ = grind (arith, nat_tests) in l)
    by false false z w p q s t = refl

pub block_none : (first a : ℕ) (old : Bool) → (if nat_le first a && nat_lt a first then false else old) ≡ old
block_none first a old = by (nat_le first a) (nat_lt a first) refl refl
  where
    by : (y z : Bool) → nat_le first a ≡ y → nat_lt a first ≡ z → (if y && z then false else old) ≡ old
    by true true q s = absurd (let l : ⊥ = grind (arith, nat_tests) in l)
    by true false q s = refl
    by false z q s = refl

-- addresses with one more
pub key_more : {X : Type 0} (a : ℕ) (xs : List (ℕ × X)) (x : ℕ × X) → has_key a (xs ++ x ∷ []) ≡ (if has_key a xs then true else x.0 == a)
key_more a [] x = by (x.0 == a)
  where
    by : (b : Bool) → (if b then true else false) ≡ b
    by true = refl
    by false = refl
key_more a (y ∷ ys) x = by (y.0 == a) (key_more a ys x)
  where
    by : (b : Bool) → has_key a (ys ++ x ∷ []) ≡ (if has_key a ys then true else x.0 == a)
        → (if b then true else has_key a (ys ++ x ∷ [])) ≡ (if (if b then true else has_key a ys) then true else x.0 == a)
    by true e = refl
    by false e = e

pub key_chooses : {A : Type 0} (b d : Bool) (x y : A) → (if d then x else if b then x else y) ≡ (if (if b then true else d) then x else y)
key_chooses true true x y = refl
key_chooses true false x y = refl
key_chooses false true x y = refl
key_chooses false false x y = refl

-- the first elements of a list with one more
pub take_found : {X : Type 0} (xs : List X) (i : ℕ) (x : X) → slice_get xs i ≡ Some x → take (i + 1) xs ≡ take i xs ++ x ∷ []
take_found [] i x e = absurd (let z : ⊥ = cc in z)
take_found (y ∷ ys) zero x e = let z : y ≡ x = cc in ap (λ y. y ∷ []) z
take_found (y ∷ ys) (suc i) x e =
    ap (λ n. take n (y ∷ ys)) (let z : suc i + 1 ≡ suc (i + 1) = omega arith in z) ∙ ap (λ l. y ∷ l) (take_found ys i x e)

pub take_whole : {X : Type 0} (xs : List X) (n : ℕ) → length xs ≤ n → take n xs ≡ xs
take_whole [] zero h = refl
take_whole [] (suc n) h = refl
take_whole (x ∷ xs) zero h = absurd (omega (arith, h))
take_whole (x ∷ xs) (suc n) h = ap (λ l. x ∷ l) (take_whole xs n (omega (arith, h)))

-- a choice by the first addresses, with one more
pub key_taken : {X : Type 0} (xs : List (ℕ × X)) (i : ℕ) (x : ℕ × X) (a : ℕ) (new old : Bool) → slice_get xs i ≡ Some x
    → (if x.0 == a then new else if has_key a (take i xs) then new else old) ≡ (if has_key a (take (i + 1) xs) then new else old)
key_taken xs i x a new old e = key_chooses (has_key a (take i xs)) (x.0 == a) new old
    ∙ ap (λ b. if b then new else old) (sym (key_more a (take i xs) x))
    ∙ ap (λ l. if has_key a l then new else old) (sym (take_found xs i x e))

-- ---- the addresses of an effect

module _ {X : Type 0} where
  abbrev entries : (ℕ → Option X) → ℕ → ℕ → List (ℕ × X)
  entries f at n = filter_map (λ q. option_map (λ x. (q, x)) (f q)) (range_with_len at n)

  key_first : (a at : ℕ) (o : Option X) (xs : List (ℕ × X))
      → has_key a (cons_option (option_map (λ x. (at, x)) o) xs) ≡ (if is_some o && at == a then true else has_key a xs)
  key_first a at None xs = refl
  key_first a at (Some x) xs = refl

  key_below : (f : ℕ → Option X) (n at a : ℕ) → a < at → has_key a (entries f at n) ≡ false
  key_below f zero at a h = refl
  key_below f (suc n) at a h = key_first a at (f at) (entries f (at + 1) n)
      ∙ ap (λ b. if is_some (f at) && b then true else has_key a (entries f (at + 1) n)) (let e : (at == a) ≡ false = grind (arith, nat_tests) in e)
      ∙ none (is_some (f at)) ∙ key_below f n (at + 1) a (omega (arith, h))
    where
      none : (b : Bool) → (if b && false then true else has_key a (entries f (at + 1) n)) ≡ has_key a (entries f (at + 1) n)
      none true = refl
      none false = refl

  key_is : (f : ℕ → Option X) (n at a : ℕ) → at ≤ a → a < at + n → has_key a (entries f at n) ≡ is_some (f a)
  key_is f zero at a h k = absurd (omega (arith, h, k))
  key_is f (suc n) at a h k = key_first a at (f at) (entries f (at + 1) n) ∙ elim (eqb_tells at a) [
    | inl s ↦ ap (λ b. if is_some (f at) && b then true else has_key a (entries f (at + 1) n)) s.0
        ∙ ap (λ d. if is_some (f at) && true then true else d) (key_below f n (at + 1) a (omega (arith, s.1)))
        ∙ here (is_some (f at)) ∙ ap (λ a. is_some (f a)) s.1
    | inr s ↦ ap (λ b. if is_some (f at) && b then true else has_key a (entries f (at + 1) n)) s.0 ∙ later (is_some (f at))
        ∙ key_is f n (at + 1) a (let ne = s.1 in omega (arith, h)) (omega (arith, k))
  ]
    where
      here : (b : Bool) → (if b && true then true else false) ≡ b
      here true = refl
      here false = refl

      later : (b : Bool) → (if b && false then true else has_key a (entries f (at + 1) n)) ≡ has_key a (entries f (at + 1) n)
      later true = refl
      later false = refl

key_at : {X : Type 0} (f : ℕ → Option X) (n : ℕ) (xs : List (ℕ × X)) → xs ≡ entries f 0 n → (a : ℕ) → a < n → has_key a xs ≡ is_some (f a)
key_at f n xs e a h = ap (has_key a) e ∙ key_is f n 0 a (omega arith) (omega (arith, h))

pub changed_key : (c : Call) (a : ℕ) → a < heap_end → has_key a (changes_of c.base c.log) ≡ has_output c (Cell a)
unfolding listed
changed_key c a h = key_at (changed_by c) heap_end (changes_of c.base c.log) refl a h

pub read_key : (c : Call) (a : ℕ) → a < heap_end → has_key a (reads_of c.base c.log) ≡ met_cell c a
unfolding listed
read_key c a h = key_at (shared c.base (λ a. seen_at a c.log)) heap_end (reads_of c.base c.log) refl a h

-- ---- the addresses are those of cells

keys_below : {X : Type 0} (f : ℕ → Option X) (n at end : ℕ) → at + n ≤ end → All (λ x. x.0 < end) (entries f at n)
keys_below {X = X} f zero at end h = All-nil (λ (x : ℕ × X). x.0 < end)
keys_below {X = X} f (suc n) at end h = by (f at) (keys_below f n (at + 1) end (omega (arith, h)))
  where
    by : (o : Option X) → All (λ x. x.0 < end) (entries f (at + 1) n) → All (λ x. x.0 < end) (cons_option (option_map (λ x. (at, x)) o) (entries f (at + 1) n))
    by None g = g
    by (Some x) g = All-cons (λ (x : ℕ × X). x.0 < end) (at, x) (entries f (at + 1) n) (omega (arith, h)) g

keys_in : {X : Type 0} (f : ℕ → Option X) (n : ℕ) (xs : List (ℕ × X)) → xs ≡ entries f 0 n → All (λ x. x.0 < n) xs
keys_in f n xs e = subst (All (λ x. x.0 < n)) (sym e) (keys_below f n 0 n (omega arith))

pub changes_inside : (base : ℕ) (log : List Touch) → All (λ x. x.0 < heap_end) (changes_of base log)
unfolding listed
changes_inside base log = keys_in (shared base (λ a. change_at a log)) heap_end (changes_of base log) refl

-- ---- whether an address is among those that were changed

pub key_there : {X : Type 0} (xs : List (ℕ × X)) (i : ℕ) (x : ℕ × X) (a : ℕ) → slice_get xs i ≡ Some x → x.0 ≡ a → has_key a xs ≡ true
key_there [] i x a e q = absurd (let z : ⊥ = cc in z)
key_there (y ∷ ys) zero x a e q = let same : y ≡ x = cc in let here : (y.0 == a) ≡ true =
    (let w : y.0 ≡ a = ap (λ (y : ℕ × _). y.0) same ∙ q in grind (arith, nat_tests)) in
    ap (λ b. if b then true else has_key a ys) here
key_there (y ∷ ys) (suc i) x a e q = by (y.0 == a) (key_there ys i x a e q)
  where
    by : (b : Bool) → has_key a ys ≡ true → (if b then true else has_key a ys) ≡ true
    by true h = refl
    by false h = h

pub key_not_yet : {X : Type 0} (xs : List (ℕ × X)) (i : ℕ) (x : ℕ × X) (a : ℕ) → slice_get xs i ≡ Some x → (x.0 == a) ≡ false
    → has_key a (take i xs) ≡ false → has_key a (take (i + 1) xs) ≡ false
key_not_yet xs i x a e q h = ap (has_key a) (take_found xs i x e) ∙ key_more a (take i xs) x
    ∙ ap (λ b. if b then true else x.0 == a) h ∙ q

key_past : {X : Type 0} (f : ℕ → Option X) (n at a : ℕ) → at + n ≤ a → has_key a (entries f at n) ≡ false
key_past f zero at a h = refl
key_past f (suc n) at a h = key_first a at (f at) (entries f (at + 1) n)
    ∙ ap (λ b. if is_some (f at) && b then true else has_key a (entries f (at + 1) n)) (let e : (at == a) ≡ false = grind (arith, nat_tests) in e)
    ∙ none (is_some (f at)) ∙ key_past f n (at + 1) a (omega (arith, h))
  where
    none : (b : Bool) → (if b && false then true else has_key a (entries f (at + 1) n)) ≡ has_key a (entries f (at + 1) n)
    none true = refl
    none false = refl

past_at : {X : Type 0} (f : ℕ → Option X) (n : ℕ) (xs : List (ℕ × X)) → xs ≡ entries f 0 n → (a : ℕ) → n ≤ a → has_key a xs ≡ false
past_at f n xs e a h = ap (has_key a) e ∙ key_past f n 0 a (omega (arith, h))

changed_past : (c : Call) (a : ℕ) → heap_end ≤ a → has_key a (changes_of c.base c.log) ≡ false
unfolding listed
changed_past c a h = past_at (changed_by c) heap_end (changes_of c.base c.log) refl a h

-- at each address, also where there is no cell
pub changed_any : (c : Call) (a : ℕ) → has_key a (changes_of c.base c.log) ≡ has_output c (Cell a)
changed_any c a = by (nat_lt a heap_end) refl
  where
    by : (b : Bool) → nat_lt a heap_end ≡ b → has_key a (changes_of c.base c.log) ≡ has_output c (Cell a)
    by true e = changed_key c a (grind (arith, nat_tests))
    by false e = changed_past c a (grind (arith, nat_tests))
        ∙ sym (ap (λ b. is_some (if b && (nat_lt a c.base || nat_le heap_start a) then change_at a c.log else None)) e)
