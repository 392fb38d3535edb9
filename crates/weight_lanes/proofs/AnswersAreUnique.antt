-- What a search promises fixes its answer.
use Rattle.std.proofs.Common.{◌<◌, ◌∙◌, ◌≡◌, ◌≢◌, ◌≤◌, ℕ, ⊎_elim, All, List, None, Option, Some, ap, arith, refl, sym}
use Rattle.std.proofs.lemmas.Bool.{cases_lt}
use Rattle.weight_lanes.specs.{Places.IsSet, Places.left_at, declared.choice.Choice.Choice}
use Rattle.weight_lanes.specs.Answers.{IsBest, IsLastSet, IsNext, IsNextWeightlessParent, IsNextWhere}

pub one_next : (column : List ℕ) (from value : ℕ) (r s : Option ℕ) → IsNext column from value r → IsNext column from value s → r ≡ s
one_next column from value None None is is' = refl
one_next column from value None (Some q) is is' = absurd (is.none.0 refl q is'.at_least is'.holds)
one_next column from value (Some p) None is is' = absurd (is'.none.0 refl p is.at_least is.holds)
one_next column from value (Some p) (Some q) is is' =
    let a = is.least q is'.at_least is'.holds in
    let b = is'.least p is.at_least is.holds in
    let e : p ≡ q = omega arith in
    ap (λ (x : ℕ). Some x) e

pub one_next_weightless_parent : (weights last : List ℕ) (from : ℕ) (r s : Option ℕ) → IsNextWeightlessParent weights last from r
    → IsNextWeightlessParent weights last from s → r ≡ s
one_next_weightless_parent weights last from None None is is' = refl
one_next_weightless_parent weights last from None (Some q) is is' = absurd (is.none.0 refl q is'.at_least is'.holds)
one_next_weightless_parent weights last from (Some p) None is is' = absurd (is'.none.0 refl p is.at_least is.holds)
one_next_weightless_parent weights last from (Some p) (Some q) is is' =
    let a = is.least q is'.at_least is'.holds in
    let b = is'.least p is.at_least is.holds in
    let e : p ≡ q = omega arith in
    ap (λ (x : ℕ). Some x) e

pub one_next_where : (Q : ℕ → Type 0) (from : ℕ) (r s : Option ℕ) → IsNextWhere Q from r → IsNextWhere Q from s → r ≡ s
one_next_where Q from None None is is' = refl
one_next_where Q from None (Some q) is is' = absurd (is.none.0 refl q is'.at_least is'.holds)
one_next_where Q from (Some p) None is is' = absurd (is'.none.0 refl p is.at_least is.holds)
one_next_where Q from (Some p) (Some q) is is' =
    let a = is.least q is'.at_least is'.holds in
    let b = is'.least p is.at_least is.holds in
    let e : p ≡ q = omega arith in
    ap (λ (x : ℕ). Some x) e

not_clear : (flags : List ℕ) (place : ℕ) → IsSet flags place → ¬ All (λ flag. flag ≡ 0) flags
not_clear flags place set all = set.nonzero (all place 0 set.inside)

pub one_last : (flags : List ℕ) (r s : Option ℕ) → IsLastSet flags r → IsLastSet flags s → r ≡ s
one_last flags None None is is' = refl
one_last flags None (Some q) is is' = absurd (not_clear flags q is'.set (is.none.0 refl))
one_last flags (Some p) None is is' = absurd (not_clear flags p is.set (is'.none.0 refl))
one_last flags (Some p) (Some q) is is' =
    let a = is.greatest q is'.set in
    let b = is'.greatest p is.set in
    let e : p ≡ q = omega arith in
    ap (λ (x : ℕ). Some x) e

same_choice : (a b : Choice) → a.left ≡ b.left → a.at ≡ b.at → a ≡ b
same_choice a b p q = λ i. record { left = p i; at = q i }

not_before : (weights askable : List ℕ) (total : ℕ) (a b : Choice) → IsSet askable a.at → a.left ≡ left_at weights total a.at → a.left ≡ b.left
    → ((place : ℕ) → place < b.at → IsSet askable place → left_at weights total place ≢ b.left) → b.at ≤ a.at
not_before weights askable total a b set left same first =
    ⊎_elim (λ l. absurd (first a.at l set (sym left ∙ same))) (λ ge. ge) (cases_lt a.at b.at)

pub one_best : (weights askable : List ℕ) (total : ℕ) (r s : Option Choice) → IsBest weights askable total r → IsBest weights askable total s → r ≡ s
one_best weights askable total None None is is' = refl
one_best weights askable total None (Some b) is is' = absurd (not_clear askable b.at is'.at_askable (is.none.0 refl))
one_best weights askable total (Some a) None is is' = absurd (not_clear askable a.at is.at_askable (is'.none.0 refl))
one_best weights askable total (Some a) (Some b) is is' =
    let le = is.least b.at is'.at_askable in
    let ge = is'.least a.at is.at_askable in
    let same : a.left ≡ b.left = omega (arith, is.left, is'.left) in
    let not_after = not_before weights askable total a b is.at_askable is.left same is'.first in
    let not_sooner = not_before weights askable total b a is'.at_askable is'.left (sym same) is.first in
    let here : a.at ≡ b.at = omega arith in
    ap (λ (c : Choice). Some c) (same_choice a b same here)
