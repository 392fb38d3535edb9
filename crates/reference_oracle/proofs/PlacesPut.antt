-- Where cells of matching variables are is put down match by match, from the last to the first.
use Rattle.std.proofs.Common.{if◌then◌else◌, ◌+◌, ◌-◌, ◌<◌, ◌∙◌, ◌∷◌, ◌≡◌, ◌≤◌, [], ℕ, Bool, List, None, Option, Some, ap, arith, drop, drop-cons, inl, inr}
use Rattle.std.proofs.Common.{length, max, refl, replicate, slice_index_or, slice_set, subst, suc, sym, take, true, zero}
use Rattle.std.proofs.lemmas.{Bool.cases_eq, Bool.Decides.nat_tests, Option.unwrap_or-slice_get}
use Rattle.std.proofs.lemmas.List.{get_or-set_other, get_or-set_same, take_all, Elements.All-more, Elements.All-weaker}
use Rattle.reference_oracle.specs.{Matches.in_reference, Matches.lies_among, Places.ArePlaces, Places.EndsBefore, Places.place_at, declared.matches.Match.Match}

-- ---- the end of all

pub ends_more : (ms : List Match) (i end to : ℕ) (d : Match) → i < length ms → EndsBefore (take i ms) end
    → to ≡ max end ((slice_index_or ms i d).subject + (slice_index_or ms i d).cells) → EndsBefore (take (i + 1) ms) to
ends_more ms i end to d less before is =
    All-more (λ m. m.subject + m.cells ≤ to) ms i d less
    (All-weaker (λ m. m.subject + m.cells ≤ end) (λ m. m.subject + m.cells ≤ to) (λ m h. omega (arith, h, is)) (take i ms) before) (omega (arith, is))

pub ends_all : (ms : List Match) (i end : ℕ) → length ms ≤ i → EndsBefore (take i ms) end → EndsBefore ms end
ends_all ms i end h before = subst (λ l. EndsBefore l end) (take_all i ms h) before

-- ---- one match

cell_at : (places : List (Option ℕ)) (address : ℕ) → place_at places address ≡ slice_index_or places address None
cell_at places address = unwrap_or-slice_get places address None

one_further : (first k address : ℕ) → (address ≡ first + k → ⊥) → lies_among first (k + 1) address ≡ lies_among first k address
one_further first k address h = grind (arith, nat_tests)

at_the_last : (first k : ℕ) → lies_among first (k + 1) (first + k) ≡ true
at_the_last first k = grind (arith, nat_tests)

module _ (places old : List (Option ℕ)) (first reference k place : ℕ) (room : first + k < length places) (is : place ≡ reference + k)
    (before : (address : ℕ) → place_at places address
    ≡ (if lies_among first k address then Some (reference + (address - first)) else place_at old address)) where
  pub cell_put : (address : ℕ) → place_at (slice_set places (first + k) (Some place)) address
      ≡ (if lies_among first (k + 1) address then Some (reference + (address - first)) else place_at old address)
  cell_put address = elim (cases_eq address (first + k)) [
    | inl here ↦ subst (λ a. place_at (slice_set places (first + k) (Some place)) a
        ≡ (if lies_among first (k + 1) a then Some (reference + (a - first)) else place_at old a)) (sym here)
        (cell_at (slice_set places (first + k) (Some place)) (first + k) ∙ get_or-set_same places (first + k) (Some place) None room
        ∙ ap (λ n. Some n) (let there : place ≡ reference + (first + k - first) = omega arith in there)
        ∙ ap (λ (b : Bool). if b then Some (reference + (first + k - first)) else place_at old (first + k)) (sym (at_the_last first k)))
    | inr other ↦
        cell_at (slice_set places (first + k) (Some place)) address ∙ get_or-set_other places (first + k) address (Some place) None other
        ∙ sym (cell_at places address) ∙ before address
        ∙ ap (λ (b : Bool). if b then Some (reference + (address - first)) else place_at old address) (sym (one_further first k address other))
  ]

-- ---- all matches

blank_at : (n address : ℕ) → place_at (replicate n None) address ≡ None
blank_at zero address = refl
blank_at (suc n) zero = refl
blank_at (suc n) (suc address) = blank_at n address

nothing_left : (ms : List Match) → drop (length ms) ms ≡ []
nothing_left [] = refl
nothing_left (m ∷ ms) = nothing_left ms

pub none_placed : (ms : List Match) (places : List (Option ℕ)) (n : ℕ) → places ≡ replicate n None → ArePlaces (drop (length ms) ms) places
none_placed ms places n blank address =
    ap (λ l. place_at l address) blank ∙ blank_at n address ∙ ap (λ l. in_reference l address) (sym (nothing_left ms))

-- a match is put in front of those after it
pub one_placed : (ms : List Match) (i : ℕ) (m d : Match) (old new : List (Option ℕ)) → i < length ms → m ≡ slice_index_or ms i d
    → ArePlaces (drop (i + 1) ms) old
    → ((address : ℕ) → place_at new address
    ≡ (if lies_among m.subject m.cells address then Some (m.reference + (address - m.subject)) else place_at old address))
    → ArePlaces (drop i ms) new
one_placed ms i m d old new less is after put address =
    put address
    ∙ ap (λ o. if lies_among m.subject m.cells address then Some (m.reference + (address - m.subject)) else o) (after address)
    ∙ ap (λ l. in_reference l address) (sym (front ms i less is))
  where
    front : (xs : List Match) (k : ℕ) → k < length xs → m ≡ slice_index_or xs k d → drop k xs ≡ m ∷ drop (k + 1) xs
    front xs k h e =
        let one : suc k ≡ k + 1 = omega arith in
        drop-cons xs k d h ∙ (λ j. sym e j ∷ drop (one j) xs)
