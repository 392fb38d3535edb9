-- There is a question wherever there is a suspect.
use Rattle.std.proofs.Common.{◌&&◌, ◌<◌, ◌∙◌, ◌∷◌, ◌≡◌, ◌≤◌, [], ℕ, All, Bool, Contains, List, None, Option, Some, ap, arith, cond, false, find, inl, inr}
use Rattle.std.proofs.Common.{length, nat_le, refl, suc, true}
use Rattle.std.{proofs.lemmas.Bool.both_ways, proofs.lemmas.Bool.cases_order, proofs.lemmas.Bool.le-leb, specs.List.AllByRecursion, specs.List.list_all}
use Rattle.std.proofs.lemmas.List.{Elements.All-contains, Elements.All-from_recursion, Elements.All-head, Elements.All-tail, Sums.count_by-le-length}
use Rattle.subtree_weights.specs.Searched.{is_in}
use Rattle.optimal_query.specs.Question.{leaves_least, left_of, question_of, weight_of}

-- an element with the least value
pub record Least (value : ℕ → ℕ) (xs : List ℕ) : Type 0 where
  pub element : ℕ
  pub among : Contains xs element
  pub least : AllByRecursion (λ other. value element ≤ value other) xs

first : (x : ℕ) (xs : List ℕ) → Contains (x ∷ xs) x
first x xs = (0, omega arith, refl)

further : (x : ℕ) (xs : List ℕ) (y : ℕ) → Contains xs y → Contains (x ∷ xs) y
further x xs y h = let inside : h.0 < length xs = h.1 in (suc h.0, omega arith, h.2)

weaker : (value : ℕ → ℕ) (a b : ℕ) → value a ≤ value b → (xs : List ℕ) → AllByRecursion (λ other. value b ≤ value other) xs
    → AllByRecursion (λ other. value a ≤ value other) xs
weaker value a b h [] all = all
weaker value a b h (x ∷ xs) all = let l : value b ≤ value x = all.0 in (omega arith, weaker value a b h xs all.1)

least_by : (value : ℕ → ℕ) (x : ℕ) (xs : List ℕ) → Least value xs → Least value (x ∷ xs)
least_by value x xs rest = elim (cases_order (value rest.element) (value x)) [
  | inl same ↦ record {
    element = x;
    among = first x xs;
    least = (omega arith, weaker value x rest.element (omega arith) xs rest.least);
  }
  | inr (inl less) ↦ record { element = rest.element; among = further x xs rest.element rest.among; least = (omega arith, rest.least) }
  | inr (inr more) ↦ record {
    element = x;
    among = first x xs;
    least = (omega arith, weaker value x rest.element (omega arith) xs rest.least);
  }
]

pub least_exists : (value : ℕ → ℕ) (x : ℕ) (xs : List ℕ) → Least value (x ∷ xs)
least_exists value x [] = record { element = x; among = first x []; least = (omega arith, tt) }
least_exists value x (y ∷ xs) = least_by value x (y ∷ xs) (least_exists value y xs)

find_case : (p : ℕ → Bool) (x : ℕ) (o : Option ℕ) (b : Bool) → p x ≡ b → cond b (Some x) o ≡ None → (p x ≡ false) × (o ≡ None)
find_case p x o true is h = absurd (let l : ⊥ = cc in l)
find_case p x o false is h = (is, h)

none_found : (p : ℕ → Bool) (xs : List ℕ) → find p xs ≡ None → AllByRecursion (λ x. p x ≡ false) xs
none_found p [] h = tt
none_found p (x ∷ xs) h =
    let parts = find_case p x (find p xs) (p x) refl h in
    (parts.0, none_found p xs parts.1)

passes : (value : ℕ → ℕ) (k : ℕ) (xs : List ℕ) → AllByRecursion (λ other. value k ≤ value other) xs
    → list_all (λ other. nat_le (value k) (value other)) xs ≡ true
passes value k [] all = refl
passes value k (x ∷ xs) all = ap (λ b. b && list_all (λ other. nat_le (value k) (value other)) xs) (le-leb (value k) (value x) all.0) ∙ passes value k xs all.1

none_asked : (last suspects : List ℕ) → find (leaves_least last suspects) suspects ≡ None → suspects ≡ []
none_asked last [] h = refl
none_asked last (x ∷ xs) h =
    let suspects : List ℕ = x ∷ xs in
    let value = left_of last suspects in
    let least = least_exists value x xs in
    absurd (both_ways (leaves_least last suspects least.element)
    (All-contains (λ call. leaves_least last suspects call ≡ false) suspects least.element
    (All-from_recursion (λ call. leaves_least last suspects call ≡ false) suspects (none_found (leaves_least last suspects) suspects h)) least.among)
    (passes value least.element suspects least.least))

pub no_question : (last suspects : List ℕ) → question_of last suspects ≡ None → suspects ≡ []
unfolding question_of
no_question last suspects h = none_asked last suspects h

-- a call weighs no more than all suspects
pub at_most_all : (last suspects : List ℕ) (call : ℕ) → weight_of last suspects call ≤ length suspects
unfolding weight_of
at_most_all last suspects call = count_by-le-length (is_in last call) suspects

found_case : (p : ℕ → Bool) (n x : ℕ) (o : Option ℕ) (call : ℕ) (b : Bool) → p x ≡ b → x < n → (o ≡ Some call → call < n) → cond b (Some x) o ≡ Some call
    → call < n
found_case p n x o call true is inside later h = let e : x ≡ call = cc in omega arith
found_case p n x o call false is inside later h = later h

found_inside : (p : ℕ → Bool) (n : ℕ) (xs : List ℕ) (call : ℕ) → All (λ x. x < n) xs → find p xs ≡ Some call → call < n
found_inside p n [] call all h = absurd (let l : ⊥ = cc in l)
found_inside p n (x ∷ xs) call all h =
    found_case p n x (find p xs) call (p x) refl (All-head (λ x. x < n) x xs all)
    (λ e. found_inside p n xs call (All-tail (λ x. x < n) x xs all) e) h

-- the question is a call
pub question_inside : (last suspects : List ℕ) (call n : ℕ) → All (λ x. x < n) suspects → question_of last suspects ≡ Some call → call < n
unfolding question_of
question_inside last suspects call n all h = found_inside (leaves_least last suspects) n suspects call all h
