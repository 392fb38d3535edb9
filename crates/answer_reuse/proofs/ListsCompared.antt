-- Which of two lists comes first, element by element.
use Rattle.std.proofs.Common.{◌+◌, ◌<◌, ◌∙◌, ◌∷◌, ◌≡◌, ◌≤◌, [], ℕ, Equal, Greater, Less, List, Ordering, ap, arith, get_or, inl, inr, length, map, refl, suc}
use Rattle.std.proofs.{Common.sym, Common.zero, lemmas.Bool.Decides.eqb_tells}
use Rattle.std.specs.{Cmp.Lexicographic.slice_cmp, List.range_with_len, Ordering.ordering_then}
use Rattle.answer_book.specs.Numbers.{numbers_below}

pub then_more : (o r : Ordering) → (o ≡ Equal → ⊥) → ordering_then o r ≡ o
then_more Less r h = refl
then_more Equal r h = absurd (h refl)
then_more Greater r h = refl

any_default : {A : Type 0} (xs : List A) (i : ℕ) (d e : A) → i < length xs → get_or xs i d ≡ get_or xs i e
any_default [] i d e l = absurd (omega arith)
any_default (x ∷ xs) zero d e l = refl
any_default (x ∷ xs) (suc i) d e l = any_default xs i d e (omega arith)

-- what two values were compared by
pub compared : {B : Type 0} (R : B → B → Ordering) {o : Ordering} {x y v w : B} → o ≡ R x y → x ≡ v → y ≡ w → o ≡ R v w
compared R h e f = h ∙ (λ i. R (e i) (f i))

module _ {A B : Type 0} (R : B → B → Ordering) (f g : A → B) where
  -- the first so many elements of two lists tie
  abbrev pub Tie : List A → List A → ℕ → Type 0
  Tie xs ys n = (k : ℕ) (d : A) → k < n → R (f (get_or xs k d)) (g (get_or ys k d)) ≡ Equal

  pub tie_more : (xs ys : List A) (n : ℕ) (d : A) → length xs ≡ length ys → n < length xs → Tie xs ys n → R (f (get_or xs n d)) (g (get_or ys n d)) ≡ Equal
      → Tie xs ys (n + 1)
  tie_more xs ys n d same l h e k c below = elim (eqb_tells k n) [
    | inl q ↦ ap (λ k. R (f (get_or xs k c)) (g (get_or ys k c))) q.1 ∙ ap (λ x. R (f x) (g (get_or ys n c))) (any_default xs n c d l)
        ∙ ap (λ y. R (f (get_or xs n d)) (g y)) (any_default ys n c d (omega (arith, same, l))) ∙ e
    | inr q ↦ h k c (let z = q.1 in omega arith)
  ]

  pub all_tie : (xs ys : List A) (n : ℕ) → length xs ≡ length ys → length xs ≤ n → Tie xs ys n → slice_cmp R (map f xs) (map g ys) ≡ Equal
  all_tie [] [] n same l h = refl
  all_tie [] (y ∷ ys) n same l h = absurd (omega arith)
  all_tie (x ∷ xs) [] n same l h = absurd (omega arith)
  all_tie (x ∷ xs) (y ∷ ys) zero same l h = absurd (omega arith)
  all_tie (x ∷ xs) (y ∷ ys) (suc n) same l h = ap (λ o. ordering_then o (slice_cmp R (map f xs) (map g ys))) (h 0 x (omega arith))
      ∙ all_tie xs ys n (omega arith) (omega arith) (λ k d below. h (suc k) d (omega arith))

  pub apart_at : (xs ys : List A) (n : ℕ) (d : A) → length xs ≡ length ys → n < length xs → Tie xs ys n
      → (R (f (get_or xs n d)) (g (get_or ys n d)) ≡ Equal → ⊥)
      → slice_cmp R (map f xs) (map g ys) ≡ R (f (get_or xs n d)) (g (get_or ys n d))
  apart_at [] ys n d same l h other = absurd (omega arith)
  apart_at (x ∷ xs) [] n d same l h other = absurd (omega arith)
  apart_at (x ∷ xs) (y ∷ ys) zero d same l h other = then_more (R (f x) (g y)) (slice_cmp R (map f xs) (map g ys)) other
  apart_at (x ∷ xs) (y ∷ ys) (suc n) d same l h other = ap (λ o. ordering_then o (slice_cmp R (map f xs) (map g ys))) (h 0 x (omega arith))
      ∙ apart_at xs ys n d (omega arith) (omega arith) (λ k d below. h (suc k) d (omega arith)) other

-- the same of what two functions give of the numbers below one
module _ {B : Type 0} (R : B → B → Ordering) (f g : ℕ → B) where
  abbrev pub TieBelow : ℕ → Type 0
  TieBelow n = (k : ℕ) → k < n → R (f k) (g k) ≡ Equal

  pub tie_one_more : (n : ℕ) → TieBelow n → R (f n) (g n) ≡ Equal → TieBelow (n + 1)
  tie_one_more n h e k below = elim (eqb_tells k n) [
    | inl q ↦ ap (λ k. R (f k) (g k)) q.1 ∙ e
    | inr q ↦ h k (let z = q.1 in omega arith)
  ]

  from_tie : (a m : ℕ) → ((k : ℕ) → a ≤ k → k < a + m → R (f k) (g k) ≡ Equal) → slice_cmp R (map f (range_with_len a m)) (map g (range_with_len a m)) ≡ Equal
  from_tie a zero h = refl
  from_tie a (suc m) h = ap (λ o. ordering_then o (slice_cmp R (map f (range_with_len (a + 1) m)) (map g (range_with_len (a + 1) m))))
      (h a (omega arith) (omega arith))
      ∙ from_tie (a + 1) m (λ k l below. h k (omega arith) (omega arith))

  from_apart : (a m n : ℕ) → a ≤ n → n < a + m → ((k : ℕ) → a ≤ k → k < n → R (f k) (g k) ≡ Equal) → (R (f n) (g n) ≡ Equal → ⊥)
      → slice_cmp R (map f (range_with_len a m)) (map g (range_with_len a m)) ≡ R (f n) (g n)
  from_apart a zero n l below h other = absurd (omega arith)
  from_apart a (suc m) n l below h other = elim (eqb_tells n a) [
    | inl q ↦ ap (λ k. ordering_then (R (f k) (g k)) (slice_cmp R (map f (range_with_len (a + 1) m)) (map g (range_with_len (a + 1) m)))) (sym q.1)
        ∙ then_more (R (f n) (g n)) (slice_cmp R (map f (range_with_len (a + 1) m)) (map g (range_with_len (a + 1) m))) other
    | inr q ↦ ap (λ o. ordering_then o (slice_cmp R (map f (range_with_len (a + 1) m)) (map g (range_with_len (a + 1) m))))
        (h a (omega arith) (let z = q.1 in omega arith))
        ∙ from_apart (a + 1) m n (let z = q.1 in omega arith) (omega arith) (λ k l below. h k (omega arith) (omega arith)) other
  ]

  pub numbers_tie : (m n : ℕ) → m ≤ n → TieBelow n → slice_cmp R (map f (numbers_below m)) (map g (numbers_below m)) ≡ Equal
  numbers_tie m n l h = from_tie 0 m (λ k a below. h k (omega arith))

  pub numbers_apart : (m n : ℕ) → n < m → TieBelow n → (R (f n) (g n) ≡ Equal → ⊥)
      → slice_cmp R (map f (numbers_below m)) (map g (numbers_below m)) ≡ R (f n) (g n)
  numbers_apart m n l h other = from_apart 0 m n (omega arith) (omega arith) (λ k a below. h k below) other
