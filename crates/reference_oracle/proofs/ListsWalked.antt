-- What is left of a list once a loop has gone over its first elements.
use Rattle.std.proofs.Common.{◌&&◌, ◌++◌, ◌+◌, ◌∙◌, ◌∷◌, ◌≡◌, [], ℕ, Bool, List, Some, ap, append_assoc, drop, false, map, slice_get, sym, true}
use Rattle.std.specs.List.{list_all}
use Rattle.reference_oracle.proofs.RecordsCompared.{drop_at}

-- ---- tests of all

module _ {A : Type 0} (p : A → Bool) (xs : List A) (i : ℕ) where
  pub all_passed : (x : A) → slice_get xs i ≡ Some x → p x ≡ true → list_all p (drop (i + 1) xs) ≡ list_all p (drop i xs)
  all_passed x here e = sym (ap (list_all p) (drop_at xs i x here) ∙ ap (λ b. b && list_all p (drop (i + 1) xs)) e)

  pub all_failed : (x : A) → slice_get xs i ≡ Some x → p x ≡ false → false ≡ list_all p (drop i xs)
  all_failed x here e = sym (ap (list_all p) (drop_at xs i x here) ∙ ap (λ b. b && list_all p (drop (i + 1) xs)) e)

-- ---- copies

pub put_next : {A : Type 0} (done xs : List A) (i : ℕ) (x : A) → slice_get xs i ≡ Some x → (done ++ x ∷ []) ++ drop (i + 1) xs ≡ done ++ drop i xs
put_next done xs i x here = append_assoc done (x ∷ []) (drop (i + 1) xs) ∙ ap (λ l. done ++ l) (sym (drop_at xs i x here))

pub put_made : {A B : Type 0} (f : A → B) (done : List B) (xs : List A) (i : ℕ) (x : A) → slice_get xs i ≡ Some x
    → (done ++ f x ∷ []) ++ map f (drop (i + 1) xs) ≡ done ++ map f (drop i xs)
put_made f done xs i x here =
    append_assoc done (f x ∷ []) (map f (drop (i + 1) xs)) ∙ ap (λ l. done ++ l) (ap (map f) (sym (drop_at xs i x here)))
