-- Subtrees as intervals: those of two calls are apart, or one is within the other.
use Rattle.std.proofs.Common.{◌<◌, ◌≡◌, ◌≢◌, ◌≤◌, ℕ, List, None, Option, Some, ap, arith, get_or, inl, inr, length, slice_get, slice_index, suc, zero}
use Rattle.std.proofs.lemmas.{Bool.cases_eq, Bool.cases_order, Option.slice_get-get_or, Option.slice_get_within}
use Rattle.call_tree.specs.{Nesting.IsRooted, Numbering.IsNumbered, Numbering.IsParent}

-- the child of `top` in whose subtree the call stands
pub record ChildOver (parent : List (Option ℕ)) (last : List ℕ) (top call : ℕ) : Type 0 where
  pub child : ℕ
  pub is_child : IsParent parent top child
  pub from : child ≤ call
  pub within : call ≤ slice_index last child

module _ (parent : List (Option ℕ)) (last : List ℕ) (numbered : IsNumbered parent last) where
  pub one_parent : (above other call : ℕ) → IsParent parent above call → IsParent parent other call → above ≡ other
  one_parent above other call h k = cc

  pub child_is_call : (above call : ℕ) → IsParent parent above call → call < length last
  child_is_call above call is = let inside = slice_get_within parent call (Some above) is in let same = numbered.same_length in omega arith

  -- the subtree of a call in another's is within that one
  subtree_within : (fuel top call : ℕ) → call ≤ fuel → top ≤ call → call ≤ slice_index last top → slice_index last call ≤ slice_index last top
  subtree_within zero top call few later within = let same : call ≡ top = omega arith in let ends = ap (slice_index last) same in omega arith
  subtree_within (suc fuel) top call few later within = elim (cases_eq top call) [
    | inl e ↦ let ends = ap (slice_index last) e in omega arith
    | inr other ↦
        let apart : top ≢ call = other in
        let found = numbered.parent_is_within top call (omega arith) within in
        let before = numbered.child_is_later found.0 call found.2 in
        let ends = numbered.child_ends_within found.0 call found.2 in
        let above = subtree_within fuel top found.0 (omega arith) found.1 (omega arith) in
        omega arith
  ]

  pub ends_within : (top call : ℕ) → top ≤ call → call ≤ slice_index last top → slice_index last call ≤ slice_index last top
  ends_within top call later within = subtree_within call top call (omega arith) later within

  over : (fuel top call : ℕ) → call ≤ fuel → top < call → call ≤ slice_index last top → ChildOver parent last top call
  over zero top call few later within = absurd (omega arith)
  over (suc fuel) top call few later within =
      let found = numbered.parent_is_within top call later within in
      let inside = child_is_call found.0 call found.2 in
      let itself = numbered.intervals.from_itself call inside in
      let before = numbered.child_is_later found.0 call found.2 in
      let ends = numbered.child_ends_within found.0 call found.2 in
      elim (cases_eq top found.0) [
        | inl e ↦ record { child = call; is_child = rw e found.2; from = omega arith; within = itself }
        | inr other ↦
            let apart : top ≢ found.0 = other in
            let lower = found.1 in
            let above = over fuel top found.0 (omega arith) (omega arith) (omega arith) in
            let whole = ends_within above.child found.0 above.from above.within in
            record { child = above.child; is_child = above.is_child; from = (let from = above.from in omega arith); within = omega arith }
      ]

  -- each call below another stands in the subtree of one of its children, and of no other
  pub child_over : (top call : ℕ) → top < call → call ≤ slice_index last top → ChildOver parent last top call
  child_over top call later within = over call top call (omega arith) later within

  no_earlier : (top child other call : ℕ) → IsParent parent top child → IsParent parent top other → child < other → other ≤ call
      → call ≤ slice_index last child → ⊥
  no_earlier top child other call is is_other later to within =
      let found = numbered.parent_is_within child other later (omega arith) in
      let same = one_parent found.0 top other found.2 is_other in
      let before = numbered.child_is_later top child is in
      let lower = found.1 in
      omega arith

  pub one_child : (top child other call : ℕ) → IsParent parent top child → IsParent parent top other → child ≤ call → call ≤ slice_index last child
      → other ≤ call → call ≤ slice_index last other → child ≡ other
  one_child top child other call is is_other from within from_other within_other = elim (cases_order child other) [
    | inl e ↦ e
    | inr apart ↦ elim apart [
      | inl later ↦ absurd (no_earlier top child other call is is_other later from_other within)
      | inr later ↦ absurd (no_earlier top other child call is_other is later from within_other)
    ]
  ]

  -- a call above a child that is later than the child's parent would be its parent
  pub none_between : (top child above call : ℕ) → IsParent parent top child → top < above → above < child → child ≤ call → call ≤ slice_index last above → ⊥
  none_between top child above call is lower later to within =
      let found = numbered.parent_is_within above child later (omega arith) in
      let same = one_parent found.0 top child found.2 is in
      let after = found.1 in
      omega arith

  -- each call stands in the subtree of the first
  module _ (depth : List ℕ) (rooted : IsRooted parent depth) where
    first_by : (call : ℕ) (above : Option ℕ) → slice_get parent call ≡ Some above
        → ((other : ℕ) → other < call → other < length last → other ≤ slice_index last 0)
        → call < length last → call ≤ slice_index last 0
    first_by call None is before inside = let first = rooted.root call is in omega arith
    first_by call (Some above) is before inside =
        let later = numbered.child_is_later above call is in
        let here = before above later (omega arith) in
        let itself = numbered.intervals.from_itself call inside in
        let ends = numbered.child_ends_within above call is in
        let whole = ends_within 0 above (omega arith) here in
        omega arith

    in_first : (fuel call : ℕ) → call ≤ fuel → call < length last → call ≤ slice_index last 0
    in_first zero call few inside = omega arith
    in_first (suc fuel) call few inside =
        let same = numbered.same_length in
        first_by call (get_or parent call None) (slice_get-get_or parent call None (omega arith))
        (λ other earlier a_call. in_first fuel other (omega arith) a_call) inside

    pub within_first : (call : ℕ) → call < length last → call ≤ slice_index last 0
    within_first call inside = in_first call call (omega arith) inside
