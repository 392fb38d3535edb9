-- What the change of one weight does to the sums.
use Rattle.std.proofs.Common.{◌+◌, ◌<◌, ◌≡◌, ◌≤◌, ℕ, Bool, List, Option, Some, ap, arith, cond, false, get_or, get_or-set_other, get_or-set_same, inl, inr}
use Rattle.std.proofs.Common.{length, refl, set, slice_index, sum_by, true}
use Rattle.std.proofs.lemmas.Bool.{cases_lt, cond-false, cond-true, false_from_ne_true}
use Rattle.call_tree.specs.{Numbering.IsNumbered, Numbering.IsParent, declared.records.Mark.Mark}
use Rattle.subtree_weights.proofs.{Totals.term_in_total, Totals.total_below, Totals.total_but_one, WeightsAreTotals.few_suspects}
use Rattle.subtree_weights.proofs.SumsOfChildren.{AreSumsFrom, child_from, child_is, sum_of_children, sums_are_weights, weights_are_sums}
use Rattle.subtree_weights.specs.{Carried.share, Sums.children_of, Sums.is_child, Weights.weight_of}

-- the sums follow a new weight
pub changed_child : (parent : List (Option ℕ)) (weights : List ℕ) (above child new : ℕ) → child < length parent → child < length weights
    → sum_by (slice_index (set weights child new)) (children_of parent above) + share parent above child (slice_index weights child)
    ≡ sum_by (slice_index weights) (children_of parent above) + share parent above child new
changed_child parent weights above child new inside weighed =
    let swapped =
    total_but_one (λ k. cond (is_child parent above k) (get_or (set weights child new) k 0) 0) (λ k. cond (is_child parent above k) (get_or weights k 0) 0)
    (length parent) child inside
    (λ k _ apart. ap (λ w. cond (is_child parent above k) w 0) (get_or-set_other weights child k new 0 apart)) in
    let here = ap (λ w. cond (is_child parent above child) w 0) (get_or-set_same weights child new 0 weighed) in
    let after = sum_of_children parent (slice_index (set weights child new)) above in
    let before = sum_of_children parent (slice_index weights) above in
    omega arith

-- a child's weight is a part of the sum
pub child_in_sum : (parent : List (Option ℕ)) (weight : ℕ → ℕ) (above child : ℕ) → child < length parent → IsParent parent above child
    → weight child ≤ sum_by weight (children_of parent above)
child_in_sum parent weight above child inside is =
    let all = sum_of_children parent weight above in
    let term = term_in_total (λ k. cond (is_child parent above k) (weight k) 0) (length parent) child inside in
    let here = cond-true (is_child parent above child) (weight child) 0 (child_from parent above child is) in
    omega arith

pub share_here : (parent : List (Option ℕ)) (above child weight : ℕ) → IsParent parent above child → share parent above child weight ≡ weight
share_here parent above child weight is = cond-true (is_child parent above child) weight 0 (child_from parent above child is)

pub share_elsewhere : (parent : List (Option ℕ)) (above child weight : ℕ) → (IsParent parent above child → ⊥) → share parent above child weight ≡ 0
share_elsewhere parent above child weight is_not =
    cond-false (is_child parent above child) weight 0 (false_from_ne_true (is_child parent above child) (λ h. is_not (child_is parent above child h)))

smaller_part : (child : Bool) (a b : ℕ) → (child ≡ true → a ≤ b) → cond child a 0 ≤ cond child b 0
smaller_part true a b h = h refl
smaller_part false a b h = omega arith

pub smaller_sums : (parent : List (Option ℕ)) (weight other : ℕ → ℕ) (above : ℕ)
    → ((child : ℕ) → child < length parent → IsParent parent above child → weight child ≤ other child)
    → sum_by weight (children_of parent above) ≤ sum_by other (children_of parent above)
smaller_sums parent weight other above h =
    let one = sum_of_children parent weight above in
    let two = sum_of_children parent other above in
    let below =
    total_below (λ k. cond (is_child parent above k) (weight k) 0) (λ k. cond (is_child parent above k) (other k) 0) (length parent)
    (λ child inside. smaller_part (is_child parent above child) (weight child) (other child) (λ is. h child inside (child_is parent above child is))) in
    omega arith

-- sums of weights that are right from some call on, and too small before it, are at most the number of calls
pub few_in_sum : (parent : List (Option ℕ)) (last : List ℕ) (marks : List Mark) (weight under : ℕ → ℕ) (from above : ℕ) → IsNumbered parent last
    → AreSumsFrom parent marks weight under from → above < length parent
    → ((child : ℕ) → child < length parent → IsParent parent above child → child < from → weight child ≡ 0)
    → sum_by weight (children_of parent above) ≤ length parent
few_in_sum parent last marks weight under from above numbered sums inside before =
    let smaller =
    smaller_sums parent weight (weight_of last marks) above
    (λ child a_call is. elim (cases_lt child from) [
      | inl earlier ↦ let none = before child a_call is earlier in omega arith
      | inr later ↦ let same = (sums_are_weights parent last marks weight under from numbered sums child later a_call).0 in omega arith
    ]) in
    let under_is = (weights_are_sums parent last marks numbered).under_is above inside in
    let few = few_suspects last marks (Some above) in
    let same = numbered.same_length in
    omega arith
