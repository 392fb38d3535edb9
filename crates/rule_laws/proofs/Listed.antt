-- Tokens of a list.
use Rattle.std.proofs.Common.{◌++◌, ◌∷◌, ◌≡◌, ◌⊎◌, [], ℕ, List, inl, inr, refl, subst}
use Rattle.rule_laws.proofs.Breaks.{Each}

-- one of these tokens
abbrev pub Listed : List ℕ → ℕ → Type 0
Listed [] n = ⊥
Listed (x ∷ xs) n = (x ≡ n) ⊎ Listed xs n

pub listed_left : (xs ys : List ℕ) (n : ℕ) → Listed xs n → Listed (xs ++ ys) n
listed_left [] ys n h = absurd h
listed_left (x ∷ xs) ys n (inl e) = inl e
listed_left (x ∷ xs) ys n (inr h) = inr (listed_left xs ys n h)

pub listed_right : (xs ys : List ℕ) (n : ℕ) → Listed ys n → Listed (xs ++ ys) n
listed_right [] ys n h = h
listed_right (x ∷ xs) ys n h = inr (listed_right xs ys n h)

pub listed_either : (xs ys : List ℕ) (n : ℕ) → Listed (xs ++ ys) n → Listed xs n ⊎ Listed ys n
listed_either [] ys n h = inr h
listed_either (x ∷ xs) ys n (inl e) = inl (inl e)
listed_either (x ∷ xs) ys n (inr h) = elim (listed_either xs ys n h) [
  | inl i ↦ inl (inr i)
  | inr i ↦ inr i
]

pub each_listed : (L : ℕ → Type 0) (xs : List ℕ) → ((n : ℕ) → Listed xs n → L n) → Each L xs
each_listed L [] h = tt
each_listed L (x ∷ xs) h = (h x (inl refl), each_listed L xs (λ n i. h n (inr i)))

pub each_at : (L : ℕ → Type 0) (xs : List ℕ) → Each L xs → (n : ℕ) → Listed xs n → L n
each_at L [] h n i = absurd i
each_at L (x ∷ xs) h n (inl e) = subst L e h.0
each_at L (x ∷ xs) h n (inr i) = each_at L xs h.1 n i
