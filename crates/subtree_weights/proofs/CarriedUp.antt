-- A change of one weight moves up.
use Rattle.std.proofs.Common.{◌+◌, ◌<◌, ◌==◌, ◌∙◌, ◌≡◌, ◌≤◌, ℕ, List, None, Option, Some, ap, arith, get_or-set_other, get_or-set_same, inl, inr, length, set}
use Rattle.std.proofs.Common.{slice_get, slice_index, slice_index_or, sum_by, sym}
use Rattle.std.proofs.lemmas.{List.length-set, Option.slice_get-get_or}
use Rattle.std.proofs.lemmas.Bool.{cases_Bool, cases_eq, cond-false, cond-true, eqb-true}
use Rattle.call_tree.specs.{Numbering.IsParent, declared.records.Mark.Mark, declared.records.Mark.TheVariants.Unjudged}
use Rattle.subtree_weights.proofs.{Intervals.one_parent, SumsOfChildren.AreSumsFrom, WeightColumns.OfOneRun, WeightColumns.WeightColumns}
use Rattle.subtree_weights.proofs.ChildChanged.{changed_child, child_in_sum, few_in_sum, share_elsewhere, share_here}
use Rattle.subtree_weights.specs.{Searched.mark_at, Sums.AreSums, Sums.children_of, Weights.weight_by, declared.changes.Change.Change}
use Rattle.subtree_weights.specs.Carried.{AreSumsBut, change_above, goes_on_to, share, sum_after}

-- what stays to be done of a change, and the steps that it took
pub record IsCarried (kept : WeightColumns) (depth : List ℕ) (first change : Change) (start now : ℕ) : Type 0 where
  pub columns : OfOneRun kept
  pub but_one : AreSumsBut kept.parent kept.marks kept.weights kept.unders change
  pub not_fallen : start ≤ now
  pub cost : now + slice_index depth change.call ≤ start + slice_index depth first.call

pub goes_on : (parent : List (Option ℕ)) (change : Change) (above : ℕ) → change.call < length parent → goes_on_to parent change ≡ Some above
    → IsParent parent above change.call
goes_on parent change above inside is = elim (cases_Bool (change.before == change.after)) [
  | inl same ↦ let stays = cond-true {A = Option ℕ} (change.before == change.after) None (slice_index_or parent change.call None) same in cc
  | inr other ↦
      slice_get-get_or parent change.call None inside
      ∙ ap Some (sym (cond-false {A = Option ℕ} (change.before == change.after) None (slice_index_or parent change.call None) other) ∙ is)
]

module _ {kept : WeightColumns} {depth : List ℕ} {first change : Change} {start now : ℕ} (up : IsCarried kept depth first change start now) where
  abbrev parent : List (Option ℕ)
  parent = kept.parent

  abbrev marks : List Mark
  marks = kept.marks

  abbrev weights : List ℕ
  weights = kept.weights

  abbrev unders : List ℕ
  unders = kept.unders

  columns : OfOneRun kept
  columns = up.columns

  but : AreSumsBut parent marks weights unders change
  but = up.but_one

  sum_at : ℕ → ℕ
  sum_at call = sum_by (slice_index weights) (children_of parent call)

  -- where the change goes on to none, all sums are right
  pub carried_to_the_end : goes_on_to parent change ≡ None → AreSums parent marks (slice_index weights) (slice_index unders)
  carried_to_the_end is = record {
    weight_is = but.weight_is;
    under_is = λ call inside. elim (cases_Bool (change.before == change.after)) [
      | inl same ↦
          let equal = eqb-true change.before change.after same in
          let shares = ap (share parent call change.call) equal in
          let but_one = but.under_is call inside in
          omega arith
      | inr other ↦
          let top : slice_get parent change.call ≡ Some None =
          slice_get-get_or parent change.call None but.a_call
          ∙ ap Some (sym (cond-false {A = Option ℕ} (change.before == change.after) None (slice_index_or parent change.call None) other) ∙ is) in
          let none = share_elsewhere parent call change.call change.after (λ h. cc) in
          let none_before = share_elsewhere parent call change.call change.before (λ h. cc) in
          let but_one = but.under_is call inside in
          omega arith
    ];
  }

  module _ (above : ℕ) (is : IsParent parent above change.call) where
    exact : (call : ℕ) → (call ≡ above → ⊥) → call < length parent → slice_index unders call ≡ sum_by (slice_index weights) (children_of parent call)
    exact call apart inside =
        let not_here : IsParent parent call change.call → ⊥ = (λ h. apart (one_parent parent kept.last columns.numbered call above change.call h is)) in
        let none = share_elsewhere parent call change.call change.after not_here in
        let none_before = share_elsewhere parent call change.call change.before not_here in
        let but_one = but.under_is call inside in
        omega arith

    pub above_inside : above < length parent
    above_inside = let earlier = columns.numbered.child_is_later above change.call is in let inside = but.a_call in omega arith

    pub a_part : change.before ≤ slice_index unders above
    a_part =
        let part = child_in_sum parent (slice_index weights) above change.call but.a_call is in
        let here = share_here parent above change.call change.after is in
        let here_before = share_here parent above change.call change.before is in
        let after = but.after in
        let but_one = but.under_is above above_inside in
        omega arith

    new_sum : sum_after unders change above ≡ sum_by (slice_index weights) (children_of parent above)
    new_sum =
        let here = share_here parent above change.call change.after is in
        let here_before = share_here parent above change.call change.before is in
        let part = a_part in
        let but_one = but.under_is above above_inside in
        omega arith

    pub room : sum_after unders change above ≤ 500000
    room =
        let sums : AreSumsFrom parent marks (slice_index weights) (slice_index unders) (above + 1) = record {
          weight_is = λ call _ inside. but.weight_is call inside;
          under_is = λ call later inside. exact call (λ e. omega arith) inside;
        } in
        let few =
        few_in_sum parent kept.last marks (slice_index weights) (slice_index unders) (above + 1) above columns.numbered sums above_inside
        (λ child inside child_of earlier. let later = columns.numbered.child_is_later above child child_of in absurd (omega arith)) in
        let sum = new_sum in
        let all = columns.few in
        omega arith

    -- once the change is in the sum of the call above, only that one's weight is to be carried on
    pub lifted : AreSumsBut parent marks (set weights above (weight_by (mark_at marks above) (sum_after unders change above)))
        (set unders above (sum_after unders change above)) (change_above marks weights unders change above)
    lifted =
        let v : ℕ = weight_by (mark_at marks above) (sum_after unders change above) in
        let u : ℕ = sum_after unders change above in
        let weighed : above < length weights = let same = columns.weighed in let inside = above_inside in omega arith in
        let summed : above < length unders = let same = columns.summed in let inside = above_inside in omega arith in
        let at_weight : slice_index (set weights above v) above ≡ v = get_or-set_same weights above v 0 weighed in
        let at_sum : slice_index (set unders above u) above ≡ u = get_or-set_same unders above u 0 summed in
        record {
          a_call = above_inside;
          after = at_weight;
          weight_is = λ call inside. elim (cases_eq call above) [
            | inl e ↦
                ap (slice_index (set weights above v)) e ∙ at_weight ∙ ap (weight_by (mark_at marks above)) (sym at_sum)
                ∙ ap (λ k. weight_by (mark_at marks k) (slice_index (set unders above u) k)) (sym e)
            | inr apart ↦
                get_or-set_other weights above call v 0 apart ∙ but.weight_is call inside
                ∙ ap (weight_by (mark_at marks call)) (sym (get_or-set_other unders above call u 0 apart))
          ];
          under_is = λ call inside.
              let follows = changed_child parent weights call above v above_inside weighed in
              let sum : slice_index (set unders above u) call ≡ sum_by (slice_index weights) (children_of parent call) =
              elim (cases_eq call above) [
                | inl e ↦ ap (slice_index (set unders above u)) e ∙ at_sum ∙ new_sum ∙ ap (λ k. sum_by (slice_index weights) (children_of parent k)) (sym e)
                | inr apart ↦ get_or-set_other unders above call u 0 apart ∙ exact call apart inside
              ] in
              omega arith;
        }

-- a new mark changes the weight of its call, and no sum yet
pub started : (parent : List (Option ℕ)) (marks : List Mark) (weights unders : List ℕ) (call : ℕ) (mark : Mark)
    → AreSums parent marks (slice_index weights) (slice_index unders) → call < length parent → call < length marks → call < length weights
    → AreSumsBut parent (set marks call mark) (set weights call (weight_by mark (slice_index unders call))) unders
    (record { call = call; before = weight_by (mark_at marks call) (slice_index unders call); after = weight_by mark (slice_index unders call) })
started parent marks weights unders call mark sums inside marked weighed =
    let v : ℕ = weight_by mark (slice_index unders call) in
    let at_weight : slice_index (set weights call v) call ≡ v = get_or-set_same weights call v 0 weighed in
    let at_mark : mark_at (set marks call mark) call ≡ mark = get_or-set_same marks call mark Unjudged marked in
    record {
      a_call = inside;
      after = at_weight;
      weight_is = λ other a_call. elim (cases_eq other call) [
        | inl e ↦
            ap (slice_index (set weights call v)) e ∙ at_weight ∙ ap (λ m. weight_by m (slice_index unders call)) (sym at_mark)
            ∙ ap (λ k. weight_by (mark_at (set marks call mark) k) (slice_index unders k)) (sym e)
        | inr apart ↦
            get_or-set_other weights call other v 0 apart ∙ sums.weight_is other a_call
            ∙ ap (λ m. weight_by m (slice_index unders other)) (sym (get_or-set_other marks call other mark Unjudged apart))
      ];
      under_is = λ other a_call.
          let follows = changed_child parent weights other call v inside weighed in
          let was = ap (share parent other call) (sums.weight_is call inside) in
          let sum = sums.under_is other a_call in
          omega arith;
    }

-- the columns after the change is in the sum of the call above
abbrev pub with_change : WeightColumns → Change → ℕ → WeightColumns
with_change kept change above = record kept {
  weights = set kept.weights above (weight_by (mark_at kept.marks above) (sum_after kept.unders change above));
  unders = set kept.unders above (sum_after kept.unders change above);
}

pub carried_on : {kept : WeightColumns} {depth : List ℕ} {first change : Change} {start now : ℕ} (up : IsCarried kept depth first change start now)
    (above : ℕ) (is : IsParent kept.parent above change.call) → slice_index depth change.call ≡ slice_index depth above + 1 → (after : ℕ) → after ≡ now + 1
    → IsCarried (with_change kept change above) depth first (change_above kept.marks kept.weights kept.unders change above) start after
carried_on {kept = kept} {change = change} up above is deep after step = record {
  columns = record {
    few = up.columns.few;
    numbered = up.columns.numbered;
    marked = up.columns.marked;
    weighed = length-set kept.weights above (weight_by (mark_at kept.marks above) (sum_after kept.unders change above)) ∙ up.columns.weighed;
    summed = length-set kept.unders above (sum_after kept.unders change above) ∙ up.columns.summed;
  };
  but_one = lifted up above is;
  not_fallen = let before = up.not_fallen in omega arith;
  cost = let before = up.cost in omega arith;
}
