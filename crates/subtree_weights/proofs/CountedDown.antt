-- The sums are counted from the last call to the first.
use Rattle.std.proofs.Common.{◌*◌, ◌+◌, ◌<◌, ◌==◌, ◌∙◌, ◌≡◌, ◌≢◌, ◌≤◌, ℕ, Bool, EachIndex, List, None, Option, Some, ap, arith, cond, false, get_or}
use Rattle.std.proofs.Common.{get_or-set_other, get_or-set_same, inl, inr, length, refl, set, slice_get, slice_index, subst, sum_by, sym, true}
use Rattle.std.{proofs.lemmas.List.length-set, proofs.lemmas.Option.slice_get-get_or, specs.Option.ForSome}
use Rattle.std.proofs.lemmas.Bool.{cases_eq, cond-false, cond-true, eq-eqb, ne_eqb}
use Rattle.call_tree.specs.{Numbering.IsParent, declared.records.Mark.Mark}
use Rattle.subtree_weights.proofs.{Totals.total_none, WeightColumns.OfOneRun, WeightColumns.WeightColumns}
use Rattle.subtree_weights.proofs.ChildChanged.{changed_child, few_in_sum, share_elsewhere, share_here}
use Rattle.subtree_weights.proofs.SumsOfChildren.{AreSumsFrom, sum_of_children}
use Rattle.subtree_weights.specs.{Carried.raised, Carried.share, Searched.mark_at, Weights.weight_by}
use Rattle.subtree_weights.specs.Sums.{AreSums, children_of, is_child, is_the_call}

-- the calls from `from` on are weighed, and the sums are those of their weights
pub record IsCounted (kept : WeightColumns) (from start now : ℕ) : Type 0 where
  pub columns : OfOneRun kept
  pub reached : from ≤ length kept.parent
  pub weight_is : (call : ℕ) → from ≤ call → call < length kept.parent
      → slice_index kept.weights call ≡ weight_by (mark_at kept.marks call) (slice_index kept.unders call)
  pub not_yet : (call : ℕ) → call < from → slice_index kept.weights call ≡ 0
  pub under_is : (call : ℕ) → call < length kept.parent
      → slice_index kept.unders call ≡ sum_by (slice_index kept.weights) (children_of kept.parent call)
  pub not_fallen : start ≤ now
  pub cost : now + 2 * from ≤ start + 2 * length kept.parent

-- the same, where the number is written in another way
pub counted_at : {kept : WeightColumns} {from to start now : ℕ} → IsCounted kept from start now → from ≡ to → IsCounted kept to start now
counted_at {kept = kept} {start = start} {now = now} counted same = subst (λ (from : ℕ). IsCounted kept from start now) same counted

none_if : (b : Bool) (w : ℕ) → w ≡ 0 → cond b w 0 ≡ 0
none_if true w h = h
none_if false w h = refl

-- no weight, no sum
pub counted_none : (kept : WeightColumns) (start : ℕ) → OfOneRun kept
    → EachIndex kept.weights (λ k. slice_index kept.weights k ≡ 0) → EachIndex kept.unders (λ k. slice_index kept.unders k ≡ 0)
    → IsCounted kept (length kept.parent) start start
counted_none kept start columns no_weight nothing_under = record {
  columns = columns;
  reached = omega arith;
  weight_is = λ call later inside. absurd (omega arith);
  not_yet = λ call inside. no_weight call (let same = columns.weighed in omega arith);
  under_is = λ call inside.
      nothing_under call (let same = columns.summed in omega arith)
      ∙ sym (total_none (λ k. cond (is_child kept.parent call k) (slice_index kept.weights k) 0) (length kept.parent)
      (λ k a_call. none_if (is_child kept.parent call k) (slice_index kept.weights k) (no_weight k (let same = columns.weighed in omega arith))))
      ∙ sym (sum_of_children kept.parent (slice_index kept.weights) call);
  not_fallen = omega arith;
  cost = omega arith;
}

pub counted_all : {kept : WeightColumns} {start now : ℕ} → IsCounted kept 0 start now
    → AreSums kept.parent kept.marks (slice_index kept.weights) (slice_index kept.unders)
counted_all counted = record {
  weight_is = λ call inside. counted.weight_is call (omega arith) inside;
  under_is = counted.under_is;
}

raised_here : (unders : List ℕ) (above weight call : ℕ) → above < length unders
    → get_or (set unders above (get_or unders above 0 + weight)) call 0 ≡ get_or unders call 0 + cond (above == call) weight 0
raised_here unders above weight call inside = elim (cases_eq above call) [
  | inl e ↦
      let here = cond-true (above == call) weight 0 (eq-eqb above call e) in
      let at = get_or-set_same unders above (get_or unders above 0 + weight) 0 inside in
      let place = ap (λ k. get_or (set unders above (get_or unders above 0 + weight)) k 0) e in
      let was = ap (λ k. get_or unders k 0) e in
      omega arith
  | inr apart ↦
      let elsewhere = cond-false (above == call) weight 0 (ne_eqb above call apart) in
      let stays = get_or-set_other unders above call (get_or unders above 0 + weight) 0 (λ e. apart (sym e)) in
      omega arith
]

-- the sums where a weight is added to one of them
raised_at : (unders : List ℕ) (above : Option ℕ) (weight call : ℕ) → ForSome above (λ a. a < length unders)
    → slice_index (raised unders above weight) call ≡ slice_index unders call + cond (is_the_call call (Some above)) weight 0
raised_at unders None weight call inside = omega arith
raised_at unders (Some above) weight call inside = raised_here unders above weight call (inside above refl)

module _ {kept : WeightColumns} (call : ℕ) {start now : ℕ} (counted : IsCounted kept (call + 1) start now) where
  abbrev parent : List (Option ℕ)
  parent = kept.parent

  abbrev marks : List Mark
  marks = kept.marks

  abbrev weights : List ℕ
  weights = kept.weights

  abbrev unders : List ℕ
  unders = kept.unders

  abbrev weight : ℕ
  weight = weight_by (mark_at marks call) (slice_index unders call)

  pub inside : call < length parent
  inside = let reached = counted.reached in omega arith

  weighed : call < length weights
  weighed = let same = counted.columns.weighed in let reached = counted.reached in omega arith

  not_its_child : (other : ℕ) → call ≤ other → IsParent parent other call → ⊥
  not_its_child other later is = let before = counted.columns.numbered.child_is_later other call is in omega arith

  pub weight_room : slice_index unders call ≤ 500000
  weight_room =
      let sums : AreSumsFrom parent marks (slice_index weights) (slice_index unders) (call + 1) = record {
        weight_is = counted.weight_is;
        under_is = λ other _ a_call. counted.under_is other a_call;
      } in
      let few =
      few_in_sum parent kept.last marks (slice_index weights) (slice_index unders) (call + 1) call counted.columns.numbered sums inside
      (λ child a_call is earlier. counted.not_yet child earlier) in
      let sum = counted.under_is call inside in
      let all = counted.columns.few in
      omega arith

  abbrev weights' : List ℕ
  weights' = set weights call weight

  at_call : slice_index weights' call ≡ weight
  at_call = get_or-set_same weights call weight 0 weighed

  elsewhere : (other : ℕ) → (other ≡ call → ⊥) → slice_index weights' other ≡ slice_index weights other
  elsewhere other apart = get_or-set_other weights call other weight 0 apart

  -- the sums after the weight of the call is put in its place
  sum_then : (other : ℕ) → other < length parent → slice_index unders other + share parent other call weight
      ≡ sum_by (slice_index weights') (children_of parent other)
  sum_then other a_call =
      let follows = changed_child parent weights other call weight inside weighed in
      let was = none_if (is_child parent other call) (slice_index weights call) (counted.not_yet call (omega arith)) in
      let sum = counted.under_is other a_call in
      omega arith

  weight_then : (other : ℕ) → call ≤ other → other < length parent → slice_index weights' other ≡ weight_by (mark_at marks other) (slice_index unders other)
  weight_then other later a_call = elim (cases_eq other call) [
    | inl e ↦ ap (slice_index weights') e ∙ at_call ∙ ap (λ k. weight_by (mark_at marks k) (slice_index unders k)) (sym e)
    | inr apart ↦ elsewhere other apart ∙ counted.weight_is other (let other_than : other ≢ call = apart in omega arith) a_call
  ]

  later_sum : (other : ℕ) → call ≤ other → other < length parent → slice_index unders other ≡ sum_by (slice_index weights') (children_of parent other)
  later_sum other later a_call =
      let none = share_elsewhere parent other call weight (not_its_child other later) in
      let sum = sum_then other a_call in
      omega arith

  pub raise_room : (above : ℕ) → IsParent parent above call → slice_index unders above + weight ≤ 500000
  raise_room above is =
      let before = counted.columns.numbered.child_is_later above call is in
      let a_call : above < length parent = let here = inside in omega arith in
      let sums : AreSumsFrom parent marks (slice_index weights') (slice_index unders) call = record { weight_is = weight_then; under_is = later_sum } in
      let few =
      few_in_sum parent kept.last marks (slice_index weights') (slice_index unders) call above counted.columns.numbered sums a_call
      (λ child a_child is_child earlier. elsewhere child (λ e. omega arith) ∙ counted.not_yet child (omega arith)) in
      let sum = sum_then above a_call in
      let here = share_here parent above call weight is in
      let all = counted.columns.few in
      omega arith

  abbrev parent_here : Option ℕ
  parent_here = get_or parent call None

  parent_is : slice_get parent call ≡ Some parent_here
  parent_is = slice_get-get_or parent call None inside

  abbrev unders' : List ℕ
  unders' = raised unders parent_here weight

  pub raise_inside : ForSome parent_here (λ above. above < length unders)
  raise_inside = λ above is.
      let before = counted.columns.numbered.child_is_later above call (parent_is ∙ ap Some is) in
      let same = counted.columns.summed in
      let here = inside in
      omega arith

  pub raise_fits : ForSome parent_here (λ above. slice_index unders above + weight < 4294967296)
  raise_fits = λ above is. let room = raise_room above (parent_is ∙ ap Some is) in omega arith

  under_then : (other : ℕ) → slice_index unders' other ≡ slice_index unders other + share parent other call weight
  under_then other = raised_at unders parent_here weight other raise_inside
      ∙ ap (λ o. slice_index unders other + cond (is_the_call other o) weight 0) (sym parent_is)

  length_raised : (above : Option ℕ) → length (raised unders above weight) ≡ length unders
  length_raised None = refl
  length_raised (Some above) = length-set unders above (slice_index unders above + weight)

  -- one call more is counted
  pub counted_more : (after : ℕ) → after ≡ now + 2 → IsCounted (record kept { weights = weights'; unders = unders' }) call start after
  counted_more after steps = record {
    columns = record {
      few = counted.columns.few;
      numbered = counted.columns.numbered;
      marked = counted.columns.marked;
      weighed = length-set weights call weight ∙ counted.columns.weighed;
      summed = length_raised parent_here ∙ counted.columns.summed;
    };
    reached = let reached = counted.reached in omega arith;
    weight_is = λ other later a_call.
        let none = share_elsewhere parent other call weight (not_its_child other later) in
        let same : slice_index unders' other ≡ slice_index unders other = (let then = under_then other in omega arith) in
        weight_then other later a_call ∙ ap (weight_by (mark_at marks other)) (sym same);
    not_yet = λ other earlier. elsewhere other (λ e. omega arith) ∙ counted.not_yet other (omega arith);
    under_is = λ other a_call. under_then other ∙ sum_then other a_call;
    not_fallen = let before = counted.not_fallen in omega arith;
    cost = let before = counted.cost in omega arith;
  }
