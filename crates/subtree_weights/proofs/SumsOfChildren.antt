-- The weights are sums over the tree, and no other numbers are.
use Rattle.std.proofs.Common.{◌&&◌, ◌+◌, ◌<◌, ◌∙◌, ◌≡◌, ◌≤◌, ℕ, Bool, IsTrue, List, None, Option, Some, ap, arith, cond, count_by, false, inl, inr, length}
use Rattle.std.proofs.Common.{refl, slice_get, slice_index, suc, sum_by, sym, true, zero}
use Rattle.std.proofs.lemmas.Bool.{and_from, and_parts, both_ways, cases_Bool, cases_lt, cond-true, eq-eqb, eqb-true, false≢true}
use Rattle.std.specs.List.{range_with_len}
use Rattle.call_tree.specs.{Clear.is_unjudged, Nesting.IsRooted, Numbering.IsNumbered, Numbering.IsParent, declared.records.Mark.Mark}
use Rattle.call_tree.specs.declared.records.Mark.TheVariants.{Right, Trusted, Unjudged, Unknown, Wrong}
use Rattle.subtree_weights.proofs.{SuspectTests.suspect_from, SuspectTests.suspect_is, WeightsAreTotals.suspects_are, WeightsAreTotals.weight_is_total}
use Rattle.subtree_weights.proofs.Intervals.{child_is_call, child_over, ends_within, none_between, one_child, within_first}
use Rattle.subtree_weights.proofs.SuspectTests.{Counts, IsSuspect, below_from, below_is, counts, counts_from, counts_is, in_from, in_is, same_tests}
use Rattle.subtree_weights.proofs.Totals.{sum_of_filtered, sum_of_numbers, total, total_below, total_none, total_of_one, total_same, total_swap}
use Rattle.subtree_weights.specs.{Searched.is_below, Searched.is_in, Searched.is_suspect, Searched.mark_at, Sums.AreSums, Sums.children_of, Sums.is_child}
use Rattle.subtree_weights.specs.{Sums.is_the_call, Weights.suspects_below, Weights.under_of, Weights.weight_by, Weights.weight_of}

the_call_is : (above : ℕ) (o : Option (Option ℕ)) → is_the_call above o ≡ true → o ≡ Some (Some above)
the_call_is above None h = absurd (false≢true h)
the_call_is above (Some None) h = absurd (false≢true h)
the_call_is above (Some (Some p)) h = ap (λ (x : ℕ). Some (Some x)) (eqb-true p above h)

pub child_is : (parent : List (Option ℕ)) (above call : ℕ) → is_child parent above call ≡ true → IsParent parent above call
child_is parent above call h = the_call_is above (slice_get parent call) h

pub child_from : (parent : List (Option ℕ)) (above call : ℕ) → IsParent parent above call → is_child parent above call ≡ true
child_from parent above call is = ap (is_the_call above) is ∙ eq-eqb above above refl

-- the sum over the children of a call
pub sum_of_children : (parent : List (Option ℕ)) (weight : ℕ → ℕ) (above : ℕ)
    → sum_by weight (children_of parent above) ≡ total (λ call. cond (is_child parent above call) (weight call) 0) (length parent)
sum_of_children parent weight above = sum_of_filtered (is_child parent above) weight (length parent)

hit_none : (child counted : Bool) → (child ≡ true → counted ≡ true → ⊥) → ◌≡◌ {A = ℕ} (cond child (cond counted 1 0) 0) 0
hit_none true true h = absurd (h refl refl)
hit_none true false h = refl
hit_none false counted h = refl

hit_one : (child counted : Bool) → child ≡ true → counted ≡ true → ◌≡◌ {A = ℕ} (cond child (cond counted 1 0) 0) 1
hit_one child counted h k = cond-true child (cond counted 1 0) 0 h ∙ cond-true counted 1 0 k

total_if : (b : Bool) (f : ℕ → ℕ) (n : ℕ) → total (λ k. cond b (f k) 0) n ≡ cond b (total f n) 0
total_if true f n = refl
total_if false f n = total_none (λ _. 0) n (λ _ _. refl)

module _ (parent : List (Option ℕ)) (last : List ℕ) (marks : List Mark) (numbered : IsNumbered parent last) where
  -- a call that a child weighs is a suspect below the parent
  suspect_through : (top child call : ℕ) → IsParent parent top child → Counts last marks child call → IsSuspect last marks (Some top) call
  suspect_through top child call is counted =
      let later = numbered.child_is_later top child is in
      let ends = numbered.child_ends_within top child is in
      let from = counted.from in
      let within = counted.within in
      record {
        below = below_from last top call (omega arith) (omega arith);
        unsaid = counted.unsaid;
        free = λ above inside clear lower to over.
            let below = below_is last top above lower in
            elim (cases_lt above child) [
              | inl earlier ↦ none_between parent last numbered top child above call is below.0 earlier from over
              | inr at_least ↦ counted.free above inside clear at_least to over
            ];
      }

  -- a suspect below a call is weighed by the child over it
  counted_through : (top child call : ℕ) → IsParent parent top child → child ≤ call → call ≤ slice_index last child → IsSuspect last marks (Some top) call
      → Counts last marks child call
  counted_through top child call is from within suspect =
      let later = numbered.child_is_later top child is in
      let ends = numbered.child_ends_within top child is in
      record {
        from = from;
        within = within;
        unsaid = suspect.unsaid;
        free = λ above inside clear lower to over.
            suspect.free above inside clear (below_from last top above (omega arith) (omega arith)) to over;
      }

  abbrev hit : ℕ → ℕ → ℕ → ℕ
  hit top call child = cond (is_child parent top child) (cond (counts last marks child call) 1 0) 0

  counted_is : (top child call : ℕ) → is_child parent top child ≡ true → counts last marks child call ≡ true → Counts last marks child call
  counted_is top child call is h =
      counts_is last marks child call numbered.intervals (child_is_call parent last numbered top child (child_is parent top child is)) h

  -- one child weighs each suspect below a call
  hit_once : (top call : ℕ) → total (hit top call) (length last) ≡ cond (is_suspect last marks (Some top) call) 1 0
  hit_once top call = elim (cases_Bool (is_suspect last marks (Some top) call)) [
    | inl is ↦
        let suspect = suspect_is last marks (Some top) call is in
        let below = below_is last top call suspect.below in
        let found = child_over parent last numbered top call below.0 below.1 in
        let a_call = child_is_call parent last numbered top found.child found.is_child in
        let counted = counted_through top found.child call found.is_child found.from found.within suspect in
        let here : hit top call found.child ≡ 1 =
        hit_one (is_child parent top found.child) (counts last marks found.child call) (child_from parent top found.child found.is_child)
        (counts_from last marks found.child call numbered.intervals a_call counted) in
        total_of_one (hit top call) (length last) found.child a_call
        (λ other inside apart. hit_none (is_child parent top other) (counts last marks other call) (λ child h.
        let other_counts = counted_is top other call child h in
        apart (sym (one_child parent last numbered top found.child other call found.is_child (child_is parent top other child) found.from found.within
        other_counts.from other_counts.within))))
        ∙ here ∙ sym (ap (λ b. cond b 1 0) is)
    | inr is_not ↦
        total_none (hit top call) (length last)
        (λ child inside. hit_none (is_child parent top child) (counts last marks child call) (λ is h.
        both_ways (is_suspect last marks (Some top) call) is_not
        (suspect_from last marks (Some top) call (suspect_through top child call (child_is parent top child is) (counted_is top child call is h)))))
        ∙ sym (ap (λ b. cond b 1 0) is_not)
  ]

  one_child_weighs : (top child : ℕ) → child < length last
      → total (λ call. hit top call child) (length last) ≡ cond (is_child parent top child) (weight_of last marks child) 0
  one_child_weighs top child a_call =
      total_if (is_child parent top child) (λ call. cond (counts last marks child call) 1 0) (length last)
      ∙ ap (λ w. cond (is_child parent top child) w 0) (sym (weight_is_total last marks child a_call))

  pub under_is_total : (top : ℕ) → under_of last marks top ≡ total (λ child. cond (is_child parent top child) (weight_of last marks child) 0) (length last)
  under_is_total top =
      suspects_are last marks (Some top)
      ∙ sym (total_same (λ call. total (hit top call) (length last)) (λ call. cond (is_suspect last marks (Some top) call) 1 0) (length last)
      (λ call _. hit_once top call))
      ∙ total_swap (hit top) (length last) (length last)
      ∙ total_same (λ child. total (λ call. hit top call child) (length last)) (λ child. cond (is_child parent top child) (weight_of last marks child) 0)
      (length last)
      (one_child_weighs top)

  pub weights_are_sums : AreSums parent marks (weight_of last marks) (under_of last marks)
  weights_are_sums = record {
    weight_is = λ call inside. refl;
    under_is = λ call inside.
        under_is_total call
        ∙ ap (total (λ child. cond (is_child parent call child) (weight_of last marks child) 0)) (sym numbered.same_length)
        ∙ sym (sum_of_children parent (weight_of last marks) call);
  }

-- sums at the calls from `from` on
pub record AreSumsFrom (parent : List (Option ℕ)) (marks : List Mark) (weight under : ℕ → ℕ) (from : ℕ) : Type 0 where
  pub weight_is : (call : ℕ) → from ≤ call → call < length parent → weight call ≡ weight_by (mark_at marks call) (under call)
  pub under_is : (call : ℕ) → from ≤ call → call < length parent → under call ≡ sum_by weight (children_of parent call)

same_child : (child : Bool) (a b : ℕ) → (child ≡ true → a ≡ b) → cond child a 0 ≡ cond child b 0
same_child true a b h = h refl
same_child false a b h = refl

-- equal weights of children give equal sums
pub same_children : (parent : List (Option ℕ)) (weight other : ℕ → ℕ) (above : ℕ)
    → ((child : ℕ) → child < length parent → IsParent parent above child → weight child ≡ other child)
    → sum_by weight (children_of parent above) ≡ sum_by other (children_of parent above)
same_children parent weight other above h =
    sum_of_children parent weight above
    ∙ total_same (λ call. cond (is_child parent above call) (weight call) 0) (λ call. cond (is_child parent above call) (other call) 0) (length parent)
    (λ child inside. same_child (is_child parent above child) (weight child) (other child) (λ is. h child inside (child_is parent above child is)))
    ∙ sym (sum_of_children parent other above)

module _ (parent : List (Option ℕ)) (last : List ℕ) (marks : List Mark) (weight under : ℕ → ℕ) (from : ℕ) (numbered : IsNumbered parent last)
    (sums : AreSumsFrom parent marks weight under from) where
  abbrev Same : ℕ → Type 0
  Same call = (weight call ≡ weight_of last marks call) × (under call ≡ under_of last marks call)

  from_the_last : (fuel call : ℕ) → length parent ≤ call + fuel → from ≤ call → call < length parent → Same call
  from_the_last zero call few later inside = absurd (omega arith)
  from_the_last (suc fuel) call few later inside =
      let unders : under call ≡ under_of last marks call =
      sums.under_is call later inside
      ∙ same_children parent weight (weight_of last marks) call
      (λ child a_call is. (let after = numbered.child_is_later call child is in from_the_last fuel child (omega arith) (omega arith) a_call).0)
      ∙ sym ((weights_are_sums parent last marks numbered).under_is call inside) in
      (sums.weight_is call later inside ∙ ap (weight_by (mark_at marks call)) unders, unders)

  pub sums_are_weights : (call : ℕ) → from ≤ call → call < length parent → Same call
  sums_are_weights call later inside = from_the_last (length parent) call (omega arith) later inside

pub all_sums : (parent : List (Option ℕ)) (marks : List Mark) (weight under : ℕ → ℕ) → AreSums parent marks weight under
    → AreSumsFrom parent marks weight under 0
all_sums parent marks weight under sums = record {
  weight_is = λ call _ inside. sums.weight_is call inside;
  under_is = λ call _ inside. sums.under_is call inside;
}

both_below : (a b : Bool) → cond (a && b) 1 0 ≤ cond a 1 0
both_below true true = omega arith
both_below true false = omega arith
both_below false b = omega arith

unjudged_weighs : (mark : Mark) (under : ℕ) → is_unjudged mark ≡ true → 1 ≤ weight_by mark under
unjudged_weighs Unjudged under h = omega arith
unjudged_weighs Right under h = absurd (false≢true h)
unjudged_weighs Wrong under h = absurd (false≢true h)
unjudged_weighs Unknown under h = absurd (false≢true h)
unjudged_weighs Trusted under h = absurd (false≢true h)

module _ (parent : List (Option ℕ)) (last : List ℕ) (marks : List Mark) (numbered : IsNumbered parent last) where
  -- what the first call weighs are all suspects
  pub all_are_weighed : (depth : List ℕ) → IsRooted parent depth → 0 < length parent → suspects_below last marks None ≡ weight_of last marks 0
  all_are_weighed depth rooted some =
      let first : 0 < length last = let same = numbered.same_length in omega arith in
      suspects_are last marks None
      ∙ total_same (λ call. cond (is_suspect last marks None call) 1 0) (λ call. cond (counts last marks 0 call) 1 0) (length last)
      (λ call inside. ap (λ b. cond b 1 0) (same_tests (is_suspect last marks None call) (counts last marks 0 call)
      (λ h. let suspect = suspect_is last marks None call h in
      counts_from last marks 0 call numbered.intervals first (record {
        from = omega arith;
        within = within_first parent last numbered depth rooted call inside;
        unsaid = suspect.unsaid;
        free = λ above a_call clear lower to within. suspect.free above a_call clear refl to within;
      }))
      (λ h. let counted = counts_is last marks 0 call numbered.intervals first h in
      suspect_from last marks None call (record {
        below = refl;
        unsaid = counted.unsaid;
        free = λ above a_call clear below to within. counted.free above a_call clear (omega arith) to within;
      }))))
      ∙ sym (weight_is_total last marks 0 first)

  below_more : (top : Option ℕ) (lower call : ℕ) → is_below last top lower ≡ true → lower ≤ call → call ≤ slice_index last lower → is_below last top call ≡ true
  below_more None lower call below later within = refl
  below_more (Some top) lower call below later within =
      let parts = below_is last top lower below in
      let after = parts.0 in
      let ends = ends_within parent last numbered top lower (omega arith) parts.1 in
      below_from last top call (omega arith) (omega arith)

  -- what a suspect weighs are the suspects in its subtree
  pub suspects_are_weighed : (top : Option ℕ) (suspect : ℕ) → suspect < length parent → IsTrue (is_suspect last marks top suspect)
      → count_by (λ call. is_suspect last marks top call && is_in last suspect call) (range_with_len 0 (length last)) ≡ weight_of last marks suspect
  suspects_are_weighed top suspect a_parent holds =
      let a_call : suspect < length last = let same = numbered.same_length in omega arith in
      let itself = suspect_is last marks top suspect holds in
      sum_of_numbers (λ call. cond (is_suspect last marks top call && is_in last suspect call) 1 0) (length last)
      ∙ total_same (λ call. cond (is_suspect last marks top call && is_in last suspect call) 1 0) (λ call. cond (counts last marks suspect call) 1 0)
      (length last)
      (λ call inside. ap (λ b. cond b 1 0) (same_tests (is_suspect last marks top call && is_in last suspect call) (counts last marks suspect call)
      (λ h. let parts = and_parts (is_suspect last marks top call) (is_in last suspect call) h in
      let other = suspect_is last marks top call parts.0 in
      let within = in_is last suspect call parts.1 in
      counts_from last marks suspect call numbered.intervals a_call (record {
        from = within.0;
        within = within.1;
        unsaid = other.unsaid;
        free = λ above a_call' clear lower to over.
            let ends = within.1 in
            other.free above a_call' clear (below_more top suspect above itself.below lower (omega arith)) to over;
      }))
      (λ h. let counted = counts_is last marks suspect call numbered.intervals a_call h in
      and_from (is_suspect last marks top call) (is_in last suspect call)
      (suspect_from last marks top call (record {
        below = below_more top suspect call itself.below counted.from counted.within;
        unsaid = counted.unsaid;
        free = λ above a_call' clear below to over. elim (cases_lt above suspect) [
          | inl earlier ↦ let from = counted.from in itself.free above a_call' clear below (omega arith) (omega arith)
          | inr at_least ↦ counted.free above a_call' clear at_least to over
        ];
      }))
      (in_from last suspect call counted.from counted.within))))
      ∙ sym (weight_is_total last marks suspect a_call)

  -- a suspect weighs itself, and no more than all
  pub weights_are_within : (top : Option ℕ) (suspect : ℕ) → suspect < length parent → IsTrue (is_suspect last marks top suspect)
      → (1 ≤ weight_of last marks suspect) × (weight_of last marks suspect ≤ suspects_below last marks top)
  weights_are_within top suspect a_parent holds =
      let itself = suspect_is last marks top suspect holds in
      let all = suspects_are last marks top in
      let part = suspects_are_weighed top suspect a_parent holds in
      let parts = sum_of_numbers (λ call. cond (is_suspect last marks top call && is_in last suspect call) 1 0) (length last) in
      let smaller =
      total_below (λ call. cond (is_suspect last marks top call && is_in last suspect call) 1 0) (λ call. cond (is_suspect last marks top call) 1 0)
      (length last)
      (λ call inside. both_below (is_suspect last marks top call) (is_in last suspect call)) in
      (unjudged_weighs (mark_at marks suspect) (under_of last marks suspect) itself.unsaid, omega arith)
