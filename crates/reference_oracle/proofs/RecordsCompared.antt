-- Records are compared part by part.
use Rattle.std.proofs.Common.{◌&&◌, ◌++◌, ◌+◌, ◌-◌, ◌<◌, ◌∙◌, ◌∷◌, ◌≡◌, [], ℕ, Bool, List, None, Option, Some, ap, arith, drop, length, option_map, refl}
use Rattle.std.{proofs.Common.slice_get, proofs.Common.suc, proofs.Common.true, proofs.Common.zero, specs.List.list_all, specs.List.range_with_len}
use Rattle.std.proofs.lemmas.{List.drop_more, Option.get_or_from_slice_get, Option.slice_get_within}
use Rattle.core_program.specs.ProgramRows.{ProgramRows}
use Rattle.reference_oracle.specs.Shapes.{Programs, choice_at, choice_then, choices_from, part_pair, record_pairs, with_pair}
use Rattle.reference_oracle.specs.declared.parts.{RecordPart.RecordPart, TypePair.TypePair}

-- ---- lists from one place on

pub drop_at : {A : Type 0} (xs : List A) (i : ℕ) (x : A) → slice_get xs i ≡ Some x → drop i xs ≡ x ∷ drop (i + 1) xs
drop_at xs i x e = drop_more xs i x (slice_get_within xs i x e) ∙ ap (λ z. z ∷ drop (i + 1) xs) (get_or_from_slice_get xs i x x e)

pub range_first : (k n : ℕ) → k < n → range_with_len k (n - k) ≡ k ∷ range_with_len (k + 1) (n - (k + 1))
range_first k n h = let one : n - k ≡ suc (n - (k + 1)) = omega arith in ap (range_with_len k) one

-- ---- tests of all

pub all_more : (f : ℕ → Bool) (k n : ℕ) → k < n → f k ≡ true → list_all f (range_with_len k (n - k)) ≡ list_all f (range_with_len (k + 1) (n - (k + 1)))
all_more f k n h e = ap (list_all f) (range_first k n h) ∙ ap (λ b. b && list_all f (range_with_len (k + 1) (n - (k + 1)))) e

-- ---- the constants of a variant part

pub choices_more : (p : ProgramRows) (n k at : ℕ) (part : RecordPart) (next : ℕ) → k < n → choice_at p at ≡ Some (part, next)
    → choices_from p (n - k) at ≡ part ∷ choices_from p (n - (k + 1)) next
choices_more p n k at part next h e =
    let one : n - k ≡ suc (n - (k + 1)) = omega arith in
    ap (λ m. choices_from p m at) one ∙ ap (choice_then (choices_from p (n - (k + 1)))) e

pub choices_end : (p : ProgramRows) (most at : ℕ) → choice_at p at ≡ None → choices_from p most at ≡ []
choices_end p zero at e = refl
choices_end p (suc most) at e = ap (choice_then (choices_from p most)) e

-- ---- part by part

abbrev pub in_front_of : List TypePair → Option (List TypePair) → Option (List TypePair)
in_front_of qs rest = option_map (λ rs. qs ++ rs) rest

pub parts_apart : (ps : Programs) (xs ys : List RecordPart) → (length xs ≡ length ys → ⊥) → record_pairs ps xs ys ≡ None
parts_apart ps [] [] h = absurd (h refl)
parts_apart ps [] (y ∷ ys) h = refl
parts_apart ps (x ∷ xs) [] h = refl
parts_apart ps (x ∷ xs) (y ∷ ys) h =
    ap (with_pair (part_pair ps x y)) (parts_apart ps xs ys (λ e. h (ap suc e))) ∙ none (part_pair ps x y)
  where
    none : (o : Option (Option TypePair)) → with_pair o None ≡ None
    none None = refl
    none (Some None) = refl
    none (Some (Some q)) = refl
