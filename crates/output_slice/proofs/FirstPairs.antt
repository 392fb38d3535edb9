-- Where the first pair of a call stands, once pairs of one call came to the end.
use Rattle.std.proofs.Common.{if◌then◌else◌, ◌++◌, ◌<◌, ◌==◌, ◌∙◌, ◌∷◌, ◌≡◌, ◌≢◌, ◌≤◌, [], ℕ, Bool, List, None, Option, Some, ap, append-nil, arith, false, inl}
use Rattle.std.proofs.Common.{inr, is_some, length, length-append, refl, replicate, slice_set, subst, suc, sym, true, zero}
use Rattle.std.{proofs.lemmas.Bool.Decides.eqb_tells, proofs.lemmas.Bool.Decides.nat_tests, specs.List.slice_get, specs.Option.option_map}
use Rattle.core_program.proofs.OutcomesCompose.{none_some, some_same}
use Rattle.output_slice.specs.{Backward.some_at, Backward.with_number, Firsts.AreFirsts, Firsts.first_at, declared.outputs.Output.Output}

abbrev PairList : Type 0
PairList = List (ℕ × Output)

self_eq : (n : ℕ) → (n == n) ≡ true
self_eq n = grind (arith, nat_tests)

other_eq : (n m : ℕ) → n ≢ m → (n == m) ≡ false
other_eq n m ne = grind (arith, nat_tests)

-- ---- whether there is one

some_map : (o : Option ℕ) → is_some (option_map suc o) ≡ is_some o
some_map None = refl
some_map (Some k) = refl

pub first_some : (n : ℕ) (xs : PairList) → is_some (first_at n xs) ≡ some_at n xs
first_some n [] = refl
first_some n (y ∷ ys) = by (n == y.0) (first_some n ys)
  where
    by : (b : Bool) → is_some (first_at n ys) ≡ some_at n ys
        → is_some (if b then Some 0 else option_map suc (first_at n ys)) ≡ (if b then true else some_at n ys)
    by true e = refl
    by false e = some_map (first_at n ys) ∙ e

pub none_at : (n : ℕ) (xs : PairList) → first_at n xs ≡ None → some_at n xs ≡ false
none_at n xs e = sym (first_some n xs) ∙ ap is_some e

pub none_append : (n : ℕ) (xs ys : PairList) → some_at n xs ≡ false → some_at n ys ≡ false → some_at n (xs ++ ys) ≡ false
none_append n [] ys e f = f
none_append n (x ∷ xs) ys e f = by (n == x.0) e (λ e. none_append n xs ys e f)
  where
    by : (b : Bool) → (if b then true else some_at n xs) ≡ false → (some_at n xs ≡ false → some_at n (xs ++ ys) ≡ false)
        → (if b then true else some_at n (xs ++ ys)) ≡ false
    by true e k = e
    by false e k = k e

pub none_of_other : (n m : ℕ) (xs : List Output) → n ≢ m → some_at n (with_number m xs) ≡ false
none_of_other n m [] ne = refl
none_of_other n m (x ∷ xs) ne = ap (λ b. if b then true else some_at n (with_number m xs)) (other_eq n m ne) ∙ none_of_other n m xs ne

-- ---- pairs at the end

-- where there was one, it stays the first
pub first_kept : (n : ℕ) (xs ys : PairList) (place : ℕ) → first_at n xs ≡ Some place → first_at n (xs ++ ys) ≡ Some place
first_kept n [] ys place e = absurd (none_some e)
first_kept n (x ∷ xs) ys place e = by (n == x.0) (first_at n xs) refl (λ k q. first_kept n xs ys k q) e
  where
    by : (b : Bool) (o : Option ℕ) → first_at n xs ≡ o → ((k : ℕ) → first_at n xs ≡ Some k → first_at n (xs ++ ys) ≡ Some k)
        → (if b then Some 0 else option_map suc o) ≡ Some place
        → (if b then Some 0 else option_map suc (first_at n (xs ++ ys))) ≡ Some place
    by true o q go e = e
    by false None q go e = absurd (none_some e)
    by false (Some k) q go e = ap (option_map suc) (go k q) ∙ e

-- pairs of another call change nothing
pub first_other : (n m : ℕ) (xs : PairList) (us : List Output) → n ≢ m → first_at n (xs ++ with_number m us) ≡ first_at n xs
first_other n m [] [] ne = refl
first_other n m [] (u ∷ us) ne = ap (λ b. if b then Some 0 else option_map suc (first_at n (with_number m us))) (other_eq n m ne)
    ∙ ap (option_map suc) (first_other n m [] us ne)
first_other n m (x ∷ xs) us ne = ap (λ o. if n == x.0 then Some 0 else option_map suc o) (first_other n m xs us ne)

-- the first pair of a call that has none before stands after them
pub first_after : (n : ℕ) (x : Output) (xs ys : PairList) → some_at n xs ≡ false → first_at n (xs ++ ((n, x) ∷ ys)) ≡ Some (length xs)
first_after n x [] ys e = ap (λ b. if b then Some 0 else option_map suc (first_at n ys)) (self_eq n)
first_after n x (y ∷ xs) ys e = by (n == y.0) e (λ e. first_after n x xs ys e)
  where
    by : (b : Bool) → (if b then true else some_at n xs) ≡ false
        → (some_at n xs ≡ false → first_at n (xs ++ ((n, x) ∷ ys)) ≡ Some (length xs))
        → (if b then Some 0 else option_map suc (first_at n (xs ++ ((n, x) ∷ ys)))) ≡ Some (suc (length xs))
    by true e k = absurd (let z : ⊥ = cc in z)
    by false e k = ap (option_map suc) (k e)

-- the place is one of the pairs
pub first_within : (n : ℕ) (xs : PairList) (place : ℕ) → first_at n xs ≡ Some place → place < length xs
first_within n [] place e = absurd (none_some e)
first_within n (x ∷ xs) place e = by (n == x.0) (first_at n xs) (λ k q. first_within n xs k q) refl e
  where
    by : (b : Bool) (o : Option ℕ) → ((k : ℕ) → first_at n xs ≡ Some k → k < length xs) → first_at n xs ≡ o
        → (if b then Some 0 else option_map suc o) ≡ Some place → place < suc (length xs)
    by true o go q e = omega (arith, some_same e)
    by false None go q e = absurd (none_some e)
    by false (Some k) go q e = omega (arith, go k q, some_same e)

-- ---- the column

-- an element of a list in which one was set
pub get_set_same : {X : Type 0} (xs : List X) (i : ℕ) (x : X) → i < length xs → slice_get (slice_set xs i x) i ≡ Some x
get_set_same [] i x h = absurd (omega (arith, h))
get_set_same (y ∷ ys) zero x h = refl
get_set_same (y ∷ ys) (suc i) x h = get_set_same ys i x (omega (arith, h))

pub get_set_other : {X : Type 0} (xs : List X) (i j : ℕ) (x : X) → j ≢ i → slice_get (slice_set xs i x) j ≡ slice_get xs j
get_set_other [] i j x ne = refl
get_set_other (y ∷ ys) zero zero x ne = absurd (ne refl)
get_set_other (y ∷ ys) zero (suc j) x ne = refl
get_set_other (y ∷ ys) (suc i) zero x ne = refl
get_set_other (y ∷ ys) (suc i) (suc j) x ne = get_set_other ys i j x (λ e. ne (ap suc e))

-- the pairs of a call came to the end, and their place was noted
pub firsts_noted : (firsts : List (Option ℕ)) (pairs before : PairList) (call place : ℕ) (us : List Output) → pairs ≡ before ++ with_number call us
    → length before ≡ place → place < length pairs → slice_get firsts call ≡ Some None → AreFirsts before firsts
    → AreFirsts pairs (slice_set firsts call (Some place))
firsts_noted firsts pairs before call place [] e l h q f = absurd (omega (arith, h, l, ap length (e ∙ append-nil before)))
firsts_noted firsts pairs before call place (u ∷ us) e l h q f = record {
  each = λ n o s. elim (eqb_tells n call) [
    | inl same ↦ here n o same.1 s
    | inr other ↦ f.each n o (sym (get_set_other firsts call n (Some place) other.1) ∙ s) ∙ sym (first_other n call before (u ∷ us) other.1)
        ∙ ap (first_at n) (sym e)
  ];
}
  where
    here : (n : ℕ) (o : Option ℕ) → n ≡ call → slice_get (slice_set firsts call (Some place)) n ≡ Some o → o ≡ first_at n pairs
    here n o same s =
        let set = get_set_same firsts call (Some place) (within firsts call None q) in
        let is : o ≡ Some place = some_same (sym s ∙ ap (slice_get (slice_set firsts call (Some place))) same ∙ set) in
        is ∙ ap Some (sym l) ∙ sym (first_after call u before (with_number call us) (none_at call before (sym (f.each call None q))))
        ∙ ap (first_at call) (sym e) ∙ ap (λ k. first_at k pairs) (sym same)
      where
        within : {X : Type 0} (xs : List X) (i : ℕ) (x : X) → slice_get xs i ≡ Some x → i < length xs
        within [] i x e = absurd (none_some e)
        within (y ∷ ys) zero x e = omega arith
        within (y ∷ ys) (suc i) x e = omega (arith, within ys i x e)

-- where the call had one before, it stays
pub firsts_stay : (firsts : List (Option ℕ)) (pairs before : PairList) (call place : ℕ) (us : List Output) → pairs ≡ before ++ with_number call us
    → slice_get firsts call ≡ Some (Some place) → AreFirsts before firsts → AreFirsts pairs firsts
firsts_stay firsts pairs before call place us e q f = record {
  each = λ n o s. elim (eqb_tells n call) [
    | inl same ↦ some_same (sym s ∙ ap (slice_get firsts) same.1 ∙ q)
        ∙ sym (first_kept call before (with_number call us) place (sym (f.each call (Some place) q)))
        ∙ ap (first_at call) (sym e) ∙ ap (λ k. first_at k pairs) (sym same.1)
    | inr other ↦ f.each n o s ∙ sym (first_other n call before us other.1) ∙ ap (first_at n) (sym e)
  ];
}

-- and where none came, all stays
pub firsts_same : (firsts : List (Option ℕ)) (pairs before : PairList) (call place : ℕ) (us : List Output) → pairs ≡ before ++ with_number call us
    → length before ≡ place → length pairs ≤ place → AreFirsts before firsts → AreFirsts pairs firsts
firsts_same firsts pairs before call place [] e l h f = subst (λ xs. AreFirsts xs firsts) (sym (append-nil before) ∙ sym e) f
firsts_same firsts pairs before call place (u ∷ us) e l h f =
    absurd (omega (arith, h, l, ap length e, length-append before (with_number call (u ∷ us))))

-- the pair alone that is sliced
pub first_alone : (call : ℕ) (x : Output) (firsts : List (Option ℕ)) → ((n : ℕ) (o : Option ℕ) → slice_get firsts n ≡ Some o → o ≡ None)
    → call < length firsts → AreFirsts ((call, x) ∷ []) (slice_set firsts call (Some 0))
first_alone call x firsts none h = record {
  each = λ n o s. elim (eqb_tells n call) [
    | inl same ↦ some_same (sym s ∙ ap (slice_get (slice_set firsts call (Some 0))) same.1 ∙ get_set_same firsts call (Some 0) h)
        ∙ sym (first_after call x [] [] refl) ∙ ap (λ k. first_at k ((call, x) ∷ [])) (sym same.1)
    | inr other ↦ none n o (sym (get_set_other firsts call n (Some 0) other.1) ∙ s)
        ∙ sym (first_other n call [] (x ∷ []) other.1)
  ];
}

pub none_in : (count n : ℕ) (o : Option ℕ) → slice_get (replicate count None) n ≡ Some o → o ≡ None
none_in zero n o e = absurd (none_some e)
none_in (suc count) zero o e = sym (some_same e)
none_in (suc count) (suc n) o e = none_in count n o e
