-- The weights are sums over the tree of calls: what stands under a call is the sum of the weights of its children.
use Rattle.std.specs.Prelude.{◌&&◌, ◌<◌, ◌==◌, ◌≡◌, ◌≤◌, ℕ, Bool, IsTrue, List, None, Option, Some, count_by, false}
use Rattle.std.specs.{Prelude.filter, Prelude.length, Prelude.slice_get, Prelude.sum_by, List.range_with_len}
use Rattle.call_tree.specs.{Nesting.IsRooted, Numbering.IsNumbered, declared.records.Mark.Mark}
use Rattle.subtree_weights.specs.Searched.{is_in, is_suspect, mark_at}
use Rattle.subtree_weights.specs.Weights.{suspects_below, under_of, weight_by, weight_of}

-- whether the parent of a call is the call `above`
abbrev pub is_the_call : ℕ → Option (Option ℕ) → Bool
is_the_call above (Some (Some parent)) = parent == above
is_the_call above _ = false

abbrev pub is_child : List (Option ℕ) → ℕ → ℕ → Bool
is_child parent above call = is_the_call above (slice_get parent call)

-- the children of a call, rising
abbrev pub children_of : List (Option ℕ) → ℕ → List ℕ
children_of parent above = filter (is_child parent above) (range_with_len 0 (length parent))

-- these are the weights of the calls, and the sums of the weights of their children
pub record AreSums (parent : List (Option ℕ)) (marks : List Mark) (weight under : ℕ → ℕ) : Type 0 where
  pub weight_is : (call : ℕ) → call < length parent → weight call ≡ weight_by (mark_at marks call) (under call)
  pub under_is : (call : ℕ) → call < length parent → under call ≡ sum_by weight (children_of parent call)

-- the counts of suspects are such sums
abbrev pub WeightsAreSums : Type 0
WeightsAreSums =
    (parent : List (Option ℕ)) (last : List ℕ) (marks : List Mark) → IsNumbered parent last
    → AreSums parent marks (weight_of last marks) (under_of last marks)

-- and no other numbers are
abbrev pub OnlyWeightsAreSums : Type 0
OnlyWeightsAreSums =
    (parent : List (Option ℕ)) (last : List ℕ) (marks : List Mark) (weight under : ℕ → ℕ) → IsNumbered parent last
    → AreSums parent marks weight under → (call : ℕ) → call < length parent
    → (weight call ≡ weight_of last marks call) × (under call ≡ under_of last marks call)

-- how many suspects there are in all is the weight of the first call
abbrev pub AllSuspectsAreWeighed : Type 0
AllSuspectsAreWeighed =
    (parent : List (Option ℕ)) (last depth : List ℕ) (marks : List Mark) → IsNumbered parent last
    → IsRooted parent depth → 0 < length parent → suspects_below last marks None ≡ weight_of last marks 0

-- of the suspects below a call, as many stand in the subtree of one of them as it weighs
abbrev pub SuspectsAreWeighed : Type 0
SuspectsAreWeighed =
    (parent : List (Option ℕ)) (last : List ℕ) (marks : List Mark) (top : Option ℕ) (suspect : ℕ)
    → IsNumbered parent last → suspect < length parent → IsTrue (is_suspect last marks top suspect)
    → count_by (λ call. is_suspect last marks top call && is_in last suspect call) (range_with_len 0 (length last))
    ≡ weight_of last marks suspect

-- so a suspect weighs at least itself, and at most as much as all
abbrev pub WeightsAreWithinAll : Type 0
WeightsAreWithinAll =
    (parent : List (Option ℕ)) (last : List ℕ) (marks : List Mark) (top : Option ℕ) (suspect : ℕ)
    → IsNumbered parent last → suspect < length parent → IsTrue (is_suspect last marks top suspect)
    → (1 ≤ weight_of last marks suspect) × (weight_of last marks suspect ≤ suspects_below last marks top)
