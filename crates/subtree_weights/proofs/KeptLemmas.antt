-- What the kept columns say of the definitions.
use Rattle.std.proofs.Common.{◌<◌, ◌≡◌, ◌≤◌, ℕ, List, Option, Some, arith, get_or, length, refl, set, slice_get, slice_index, sym}
use Rattle.std.proofs.lemmas.{List.FromFn.fill_by_all, Option.get_or_from_slice_get, Option.slice_get_read}
use Rattle.call_tree.specs.declared.records.Mark.{Mark, TheVariants.Unjudged}
use Rattle.subtree_weights.proofs.{CarriedUp.started, SumsOfChildren.all_sums, SumsOfChildren.sums_are_weights, WeightsAreTotals.few_suspects}
use Rattle.subtree_weights.specs.{Carried.AreSumsBut, Kept.AreKept, RunColumns.Columns, Searched.mark_at}
use Rattle.subtree_weights.specs.Weights.{under_of, weight_by, weight_of, weights_of}

module _ (columns : Columns) (parents : List (Option ℕ)) (marks : List Mark) (weights unders : List ℕ) (kept : AreKept columns parents marks weights unders)
  where
    pub weight_is_kept : (call : ℕ) → call < length columns.last → slice_index weights call ≡ weight_of columns.last marks call
    weight_is_kept call inside =
        let same = kept.of_one_run.numbered.same_length in
        (sums_are_weights columns.parent columns.last marks (slice_index weights) (slice_index unders) 0 kept.of_one_run.numbered
        (all_sums columns.parent marks (slice_index weights) (slice_index unders) kept.sums) call (omega arith) (omega arith)).0

    pub under_is_kept : (call : ℕ) → call < length columns.last → slice_index unders call ≡ under_of columns.last marks call
    under_is_kept call inside =
        let same = kept.of_one_run.numbered.same_length in
        (sums_are_weights columns.parent columns.last marks (slice_index weights) (slice_index unders) 0 kept.of_one_run.numbered
        (all_sums columns.parent marks (slice_index weights) (slice_index unders) kept.sums) call (omega arith) (omega arith)).1

    pub few_under : (call : ℕ) → call < length columns.last → slice_index unders call ≤ 500000
    few_under call inside =
        let same = kept.of_one_run.numbered.same_length in
        let is = under_is_kept call inside in
        let few = few_suspects columns.last marks (Some call) in
        let all = kept.of_one_run.few in
        omega arith

    pub weights_are_kept : weights ≡ weights_of columns.last marks
    weights_are_kept =
        let same = kept.of_one_run.numbered.same_length in
        let long = kept.of_one_run.weighed in
        fill_by_all (weight_of columns.last marks) weights (length columns.last) 0 (omega arith) weight_is_kept

    -- a new mark of one call, before its change is carried up
    pub change_starts : (call : ℕ) (before after : Mark) → call < length columns.last → slice_get marks call ≡ Some before
        → AreSumsBut parents (set marks call after) (set weights call (weight_by after (slice_index unders call))) unders
        (record { call = call; before = weight_by before (slice_index unders call); after = weight_by after (slice_index unders call) })
    change_starts call before after inside in_force =
        let same = kept.of_one_run.numbered.same_length in
        let marked = kept.of_one_run.marked in
        let weighed = kept.of_one_run.weighed in
        let was : mark_at marks call ≡ before = get_or_from_slice_get marks call before Unjudged in_force in
        rw (kept.parents_are, ← was) (started columns.parent marks weights unders call after kept.sums (omega arith) (omega arith) (omega arith))

-- what is read at a place within
pub read_is : (xs : List ℕ) (i x : ℕ) → i < length xs → x ≡ get_or xs i x → x ≡ get_or xs i 0
read_is xs i x inside is = sym (get_or_from_slice_get xs i x 0 (slice_get_read xs (length xs) i x refl inside is))
