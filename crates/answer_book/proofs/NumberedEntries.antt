-- The entry of a number after one entry more, and after one that was taken back.
use Rattle.std.proofs.Common.{◌++◌, ◌+◌, ◌-◌, ◌<◌, ◌==◌, ◌∙◌, ◌∷◌, ◌≡◌, ◌≤◌, [], ℕ, Bool, List, None, Option, Some, ap, arith, cond, false, inl, inr, length}
use Rattle.std.proofs.Common.{refl, slice_get, slice_set, suc, sym, true, zero}
use Rattle.std.{proofs.lemmas.Option.same_Some, proofs.lemmas.Option.slice_get_past, specs.Option.option_and_then}
use Rattle.std.proofs.lemmas.Bool.{cases_eq, cond-false, cond-true, eq-eqb, ne_eqb}
use Rattle.answer_book.specs.{Entries.entry_at, declared.entries.Entry.Entry}

pub at_place : (entries : List Entry) (number : ℕ) → 0 < number → entry_at entries number ≡ slice_get entries (number - 1)
at_place entries number some = cond-false (number == 0) None (slice_get entries (number - 1)) (ne_eqb number 0 (λ e. omega (arith, e, some)))

get_before : {X : Type 0} (xs : List X) (x : X) (i : ℕ) → i < length xs → slice_get (xs ++ x ∷ []) i ≡ slice_get xs i
get_before [] x i inside = absurd (omega arith)
get_before (y ∷ xs) x zero inside = refl
get_before (y ∷ xs) x (suc i) inside = get_before xs x i (omega arith)

get_new : {X : Type 0} (xs : List X) (x : X) → slice_get (xs ++ x ∷ []) (length xs) ≡ Some x
get_new [] x = refl
get_new (y ∷ xs) x = get_new xs x

pub at_before : (entries : List Entry) (entry : Entry) (number : ℕ) → number ≤ length entries
    → entry_at (entries ++ entry ∷ []) number ≡ entry_at entries number
at_before entries entry number made = elim (cases_eq number 0) [
  | inl same ↦
      cond-true (number == 0) None (slice_get (entries ++ entry ∷ []) (number - 1)) (eq-eqb number 0 same)
      ∙ sym (cond-true (number == 0) None (slice_get entries (number - 1)) (eq-eqb number 0 same))
  | inr differs ↦ ap (cond (number == 0) None) (get_before entries entry (number - 1) (omega (arith, made, differs)))
]

pub at_new : (entries : List Entry) (entry : Entry) (number : ℕ) → number ≡ length entries + 1 → entry_at (entries ++ entry ∷ []) number ≡ Some entry
at_new entries entry number is =
    let place : number - 1 ≡ length entries = omega (arith, is) in
    at_place (entries ++ entry ∷ []) number (omega (arith, is)) ∙ ap (slice_get (entries ++ entry ∷ [])) place ∙ get_new entries entry

none_either : {X : Type 0} (b : Bool) → ◌≡◌ {A = Option X} (cond b None None) None
none_either true = refl
none_either false = refl

pub at_past : (entries : List Entry) (number : ℕ) → length entries < number → entry_at entries number ≡ None
at_past entries number past = ap (cond (number == 0) None) (slice_get_past entries (number - 1) (omega (arith, past))) ∙ none_either (number == 0)

-- a write of an element of which a function gives the same
given_same : {X Y : Type 0} (f : X → Option Y) (xs : List X) (i j : ℕ) (x y : X) → slice_get xs i ≡ Some x → f y ≡ f x
    → option_and_then f (slice_get (slice_set xs i y) j) ≡ option_and_then f (slice_get xs j)
given_same f [] i j x y at same = refl
given_same f (z ∷ xs) zero zero x y at same =
    let e : z ≡ x = same_Some z x at in
    same ∙ ap f (sym e)
given_same f (z ∷ xs) zero (suc j) x y at same = refl
given_same f (z ∷ xs) (suc i) zero x y at same = refl
given_same f (z ∷ xs) (suc i) (suc j) x y at same = given_same f xs i j x y at same

-- and of one of which it gives nothing
given_none : {X Y : Type 0} (f : X → Option Y) (xs : List X) (i j : ℕ) (y : X) → f y ≡ None → option_and_then f (slice_get xs j) ≡ None
    → option_and_then f (slice_get (slice_set xs i y) j) ≡ None
given_none f [] i j y none so = so
given_none f (z ∷ xs) zero zero y none so = none
given_none f (z ∷ xs) zero (suc j) y none so = so
given_none f (z ∷ xs) (suc i) zero y none so = so
given_none f (z ∷ xs) (suc i) (suc j) y none so = given_none f xs i j y none so

same_at_number : {Y : Type 0} (f : Entry → Option Y) (a b : Option Entry) (c : Bool) → option_and_then f a ≡ option_and_then f b
    → option_and_then f (cond c None a) ≡ option_and_then f (cond c None b)
same_at_number f a b true same = refl
same_at_number f a b false same = same

none_at_number : {Y : Type 0} (f : Entry → Option Y) (a b : Option Entry) (c : Bool) → (option_and_then f a ≡ None → option_and_then f b ≡ None)
    → option_and_then f (cond c None a) ≡ None → option_and_then f (cond c None b) ≡ None
none_at_number f a b true none so = refl
none_at_number f a b false none so = none so

pub same_at : {Y : Type 0} (f : Entry → Option Y) (entries : List Entry) (place number : ℕ) (x y : Entry) → slice_get entries place ≡ Some x → f y ≡ f x
    → option_and_then f (entry_at (slice_set entries place y) number) ≡ option_and_then f (entry_at entries number)
same_at f entries place number x y at same =
    same_at_number f (slice_get (slice_set entries place y) (number - 1)) (slice_get entries (number - 1)) (number == 0)
    (given_same f entries place (number - 1) x y at same)

pub none_at : {Y : Type 0} (f : Entry → Option Y) (entries : List Entry) (place number : ℕ) (y : Entry) → f y ≡ None
    → option_and_then f (entry_at entries number) ≡ None → option_and_then f (entry_at (slice_set entries place y) number) ≡ None
none_at f entries place number y none so =
    none_at_number f (slice_get entries (number - 1)) (slice_get (slice_set entries place y) (number - 1)) (number == 0)
    (given_none f entries place (number - 1) y none) so
