-- The last of what a function gives of the elements of a list, one element further.
use Rattle.std.proofs.Common.{◌++◌, ◌+◌, ◌<◌, ◌||◌, ◌∙◌, ◌∷◌, ◌≡◌, [], ℕ, Bool, List, None, Option, Some, ap, append-nil, get_or, length, refl, slice_get}
use Rattle.std.proofs.Common.{slice_set, suc, sym, take, zero}
use Rattle.std.proofs.lemmas.{List.take_more, List.Elements.filter_map-append, Option.same_Some}
use Rattle.std.specs.List.{cons_option, filter_map, list_any}
use Rattle.answer_book.proofs.LastWhere.{last_of_more}
use Rattle.answer_book.specs.Numbers.{last_of}

further : {X Y : Type 0} (f : X → Option Y) (xs : List X) (i : ℕ) (d : X) → i < length xs
    → filter_map f (take (i + 1) xs) ≡ filter_map f (take i xs) ++ filter_map f (get_or xs i d ∷ [])
further f xs i d inside = ap (filter_map f) (take_more xs i d inside) ∙ filter_map-append f (take i xs) (get_or xs i d ∷ [])

pub gives_one : {X Y : Type 0} (f : X → Option Y) (x : X) (y : Y) → f x ≡ Some y → filter_map f (x ∷ []) ≡ y ∷ []
gives_one f x y some = rw some refl

pub gives_none : {X Y : Type 0} (f : X → Option Y) (x : X) → f x ≡ None → filter_map f (x ∷ []) ≡ []
gives_none f x none = rw none refl

-- an element of which the function gives something
pub last_given : {X Y : Type 0} (f : X → Option Y) (xs : List X) (i : ℕ) (d : X) (y : Y) → i < length xs
    → f (get_or xs i d) ≡ Some y → Some y ≡ last_of (filter_map f (take (i + 1) xs))
last_given f xs i d y inside some =
    sym (ap last_of (further f xs i d inside ∙ ap (λ l. filter_map f (take i xs) ++ l) (gives_one f (get_or xs i d) y some))
    ∙ last_of_more (filter_map f (take i xs)) y)

-- an element of which it gives nothing
pub last_kept : {X Y : Type 0} (f : X → Option Y) (xs : List X) (i : ℕ) (d : X) (last : Option Y) → i < length xs
    → f (get_or xs i d) ≡ None → last ≡ last_of (filter_map f (take i xs)) → last ≡ last_of (filter_map f (take (i + 1) xs))
last_kept f xs i d last inside none so_far =
    so_far ∙ ap last_of (sym (further f xs i d inside ∙ ap (λ l. filter_map f (take i xs) ++ l) (gives_none f (get_or xs i d) none)
    ∙ append-nil (filter_map f (take i xs))))

-- a write of an element of which it gives the same
pub filter_map-set : {X Y : Type 0} (f : X → Option Y) (xs : List X) (i : ℕ) (x y : X) → slice_get xs i ≡ Some x → f y ≡ f x
    → filter_map f (slice_set xs i y) ≡ filter_map f xs
filter_map-set f [] i x y at same = refl
filter_map-set f (z ∷ xs) zero x y at same =
    let e : z ≡ x = same_Some z x at in
    ap (λ o. cons_option o (filter_map f xs)) (same ∙ ap f (sym e))
filter_map-set f (z ∷ xs) (suc i) x y at same = ap (cons_option (f z)) (filter_map-set f xs i x y at same)

-- and of one of which a test says the same
pub list_any-set : {X : Type 0} (p : X → Bool) (xs : List X) (i : ℕ) (x y : X) → slice_get xs i ≡ Some x → p y ≡ p x
    → list_any p (slice_set xs i y) ≡ list_any p xs
list_any-set p [] i x y at same = refl
list_any-set p (z ∷ xs) zero x y at same =
    let e : z ≡ x = same_Some z x at in
    ap (λ b. b || list_any p xs) (same ∙ ap p (sym e))
list_any-set p (z ∷ xs) (suc i) x y at same = ap (λ b. p z || b) (list_any-set p xs i x y at same)
