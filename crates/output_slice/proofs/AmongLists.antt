-- That something is among the elements of a list, by cases.
use Rattle.std.proofs.Common.{if◌then◌else◌, ◌++◌, ◌<◌, ◌∷◌, ◌≡◌, ◌⊎◌, [], ℕ, All, Bool, Contains, List, Some, arith, inl, inr, length, refl, subst, suc, zero}
use Rattle.std.{proofs.lemmas.Option.get_or_from_slice_get, proofs.lemmas.Option.slice_get_within, specs.List.slice_get, specs.List.slice_index_or}

abbrev pub Among : {X : Type 0} → X → List X → Type 0
Among x [] = ⊥
Among x (y ∷ ys) = (y ≡ x) ⊎ Among x ys

abbrev pub those : {X : Type 0} → (X → Bool) → List X → List X
those f [] = []
those f (x ∷ xs) = if f x then x ∷ those f xs else those f xs

pub among_left : {X : Type 0} (xs ys : List X) (x : X) → Among x xs → Among x (xs ++ ys)
among_left [] ys x h = absurd h
among_left (y ∷ xs) ys x (inl q) = inl q
among_left (y ∷ xs) ys x (inr h) = inr (among_left xs ys x h)

pub among_right : {X : Type 0} (xs ys : List X) (x : X) → Among x ys → Among x (xs ++ ys)
among_right [] ys x h = h
among_right (y ∷ xs) ys x h = inr (among_right xs ys x h)

pub among_either : {X : Type 0} (xs ys : List X) (x : X) → Among x (xs ++ ys) → Among x xs ⊎ Among x ys
among_either [] ys x h = inr h
among_either (y ∷ xs) ys x (inl q) = inl (inl q)
among_either (y ∷ xs) ys x (inr h) = elim (among_either xs ys x h) [ inl g ↦ inl (inr g) | inr g ↦ inr g ]

pub among_contains : {X : Type 0} (xs : List X) (x : X) → Among x xs → Contains xs x
among_contains [] x h = absurd h
among_contains (y ∷ ys) x (inl q) = (0, omega arith, q)
among_contains (y ∷ ys) x (inr h) = let r = among_contains ys x h in (suc r.0, (let l = r.1 in omega (arith, l)), r.2)

pub contains_among : {X : Type 0} (xs : List X) (x : X) (i : ℕ) → i < length xs → slice_index_or xs i x ≡ x → Among x xs
contains_among [] x i h e = absurd (omega arith)
contains_among (y ∷ ys) x zero h e = inl e
contains_among (y ∷ ys) x (suc i) h e = inr (contains_among ys x i (omega arith) e)

-- what stands at a place within a list
pub get_at : {X : Type 0} (xs : List X) (i : ℕ) → i < length xs → (x : X) × (slice_get xs i ≡ Some x)
get_at [] i l = absurd (omega (arith, l))
get_at (x ∷ xs) zero l = (x, refl)
get_at (x ∷ xs) (suc i) l = get_at xs i (omega (arith, l))

-- what holds of each holds of the one at a place
pub all_at : {X : Type 0} (P : X → Type 0) (xs : List X) (k : ℕ) (x : X) → All P xs → slice_get xs k ≡ Some x → P x
all_at P xs k x h e = subst P (get_or_from_slice_get xs k x x e) (h k x (slice_get_within xs k x e))
