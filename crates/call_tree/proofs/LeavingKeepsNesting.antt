-- A call that is left ends with the last call entered.
use Rattle.std.proofs.Common.{◌++◌, ◌-◌, ◌<◌, ◌∙◌, ◌∷◌, ◌≡◌, ◌≢◌, ◌≤◌, [], ℕ, List, Option, Some, ap, arith, get_or, get_or-set_other, get_or-set_same, inl}
use Rattle.std.proofs.Common.{inr, length, refl, reverse, set, slice_get, sym}
use Rattle.std.proofs.{Math.Seq.map-set_same, lemmas.Bool.cases_eq, lemmas.Bool.cases_lt, lemmas.Option.slice_get_read, lemmas.Option.slice_get_within}
use Rattle.std.proofs.lemmas.List.{get_or_past, length-map, length-set, map-set, reverse-append}
use Rattle.cell_value.specs.declared.{values.Value.Value, ways_out.WayOut.WayOut}
use Rattle.call_tree.proofs.OpenCalls.{innermost_is_open}
use Rattle.call_tree.specs.{Nesting.IsNested, Nesting.IsOpen, Numbering.IsNumbered, Numbering.IsParent, declared.records.Call.Call, declared.records.Side.Side}
use Rattle.call_tree.specs.Recording.{depths_of, lasts_of, left, left_call, parents_of}

module _ (parent : List (Option ℕ)) (last depth : List ℕ) (number : ℕ) (outer : List ℕ) (nested : IsNested parent last depth (number ∷ outer)) where
  abbrev last' : List ℕ
  last' = set last number (length last - 1)

  inside : number < length last
  inside = let at = nested.chain.0.a_call in let same = nested.parents in omega arith

  length_last' : length last' ≡ length last
  length_last' = length-set last number (length last - 1)

  its_last : get_or last' number 0 ≡ length last - 1
  its_last = get_or-set_same last number (length last - 1) 0 inside

  other_last : (call : ℕ) → (call ≡ number → ⊥) → get_or last' call 0 ≡ get_or last call 0
  other_last call other = get_or-set_other last number call (length last - 1) 0 other

  left_before : (call : ℕ) → (call ≡ number → ⊥) → ¬ IsOpen call outer → ¬ IsOpen call (number ∷ outer)
  left_before call other left (inl e) = other e
  left_before call other left (inr o) = left o

  -- a call below the one that is left was left before it
  child_was_left : (call : ℕ) → number < call → ¬ IsOpen call (number ∷ outer)
  child_was_left call later (inl e) = omega arith
  child_was_left call later (inr o) = let before = nested.chain.0.later call o in omega arith

  pub leaving_keeps_nesting : IsNested parent last' depth outer
  leaving_keeps_nesting = record {
    parents = nested.parents ∙ sym length_last';
    depths = nested.depths ∙ sym length_last';
    chain = nested.chain.1;
    rooted = nested.rooted;
    child_is_later = nested.child_is_later;
    from_itself = λ call at left. let same = length_last' in elim (cases_eq call number) [
      | inl e ↦ let ends = its_last in rw e (omega arith)
      | inr other ↦ rw (other_last call other) (nested.from_itself call (omega arith) (left_before call other left))
    ];
    to_a_call = λ call at left. let same = length_last' in elim (cases_eq call number) [
      | inl e ↦ let ends = its_last in rw (e, same) (omega arith)
      | inr other ↦ rw (other_last call other, same) (nested.to_a_call call (omega arith) (left_before call other left))
    ];
    ends_within = λ above call is left.
        let later = nested.child_is_later above call is in
        let at = slice_get_within parent call (Some above) is in
        let same = nested.parents in
        elim (cases_eq above number) [
          | inl e ↦
              let other : call ≢ number = omega arith in
              let was = nested.to_a_call call (omega arith) (child_was_left call (omega arith)) in
              let ends = its_last in
              rw (other_last call other, e) (omega arith)
          | inr other_above ↦ elim (cases_eq call number) [
            | inl e ↦ absurd (left (parent_of_number above (rw e at is)))
            | inr other ↦ rw (other_last call other, other_last above other_above) (nested.ends_within above call is (left_before above other_above left))
          ]
        ];
    under_open = λ top call o later at. let same = length_last' in nested.under_open top call (inr o) later (omega arith);
    under_left = λ top call at left later within. let same = length_last' in elim (cases_eq top number) [
      | inl e ↦
          let ends = its_last in
          let within_number : call ≤ get_or last' number 0 = rw e at within in
          nested.under_open top call (inl e) later (omega arith)
      | inr other ↦ nested.under_left top call (omega arith) (left_before top other left) later (rw (other_last top other) at within)
    ];
  } where
    parent_of_number : (above : ℕ) → IsParent parent above number → IsOpen above outer
    parent_of_number above is =
        let under = nested.chain.0.parent_is in
        let first : slice_get outer 0 ≡ Some above = cc in
        innermost_is_open outer above first

-- once all calls are left they are numbered
pub left_calls_are_numbered : (parent : List (Option ℕ)) (last depth : List ℕ) → IsNested parent last depth [] → IsNumbered parent last
left_calls_are_numbered parent last depth nested = record {
  same_length = nested.parents;
  intervals = record {
    from_itself = λ call at. nested.from_itself call at (λ o. o);
    to_a_call = λ call at. nested.to_a_call call at (λ o. o);
  };
  child_is_later = nested.child_is_later;
  child_ends_within = λ above call is. nested.ends_within above call is (λ o. o);
  parent_is_within = λ top call later within.
      elim (cases_lt top (length last)) [
        | inl at ↦ nested.under_left top call at (λ o. o) later within
        | inr past ↦ let none = get_or_past last top 0 past in absurd (omega arith)
      ];
}

-- the same of calls, whose open ones are kept from the outermost to the innermost
module _ (calls : List Call) (open_items outer : List ℕ) (number : ℕ) (call : Call) (popped : open_items ≡ outer ++ number ∷ [])
    (is : call ≡ get_or calls number call) where
  reversed : reverse open_items ≡ number ∷ reverse outer
  reversed = ap reverse popped ∙ reverse-append outer (number ∷ [])

  pub left_calls_are_nested : (exit : Side) (way : WayOut) (answer : Option Value)
      → IsNested (parents_of calls) (lasts_of calls) (depths_of calls) (reverse open_items)
      → let after : List Call = set calls number (left_call call (length calls) exit way answer) in
      IsNested (parents_of after) (lasts_of after) (depths_of after) (reverse outer)
  left_calls_are_nested exit way answer nested =
      let same : length (lasts_of calls) ≡ length calls = length-map calls (λ (k : Call). k.last) in
      let kept = leaving_keeps_nesting (parents_of calls) (lasts_of calls) (depths_of calls) number (reverse outer) (rw reversed at nested) in
      let after : Call = left_call call (length calls) exit way answer in
      let parents : parents_of (set calls number after) ≡ parents_of calls =
      map-set_same (λ (k : Call). k.parent) calls number after call (ap (λ (k : Call). k.parent) is) in
      let depths : depths_of (set calls number after) ≡ depths_of calls =
      map-set_same (λ (k : Call). k.depth) calls number after call (ap (λ (k : Call). k.depth) is) in
      let lasts : lasts_of (set calls number after) ≡ set (lasts_of calls) number (length (lasts_of calls) - 1) =
      map-set (λ (k : Call). k.last) calls number after ∙ ap (λ n. set (lasts_of calls) number (n - 1)) (sym same) in
      rw (parents, depths, lasts) kept

  pub number_inside : IsNested (parents_of calls) (lasts_of calls) (depths_of calls) (reverse open_items) → number < length calls
  number_inside nested =
      let chain = (rw reversed at nested).chain in
      let inside = chain.0.a_call in
      let same : length (parents_of calls) ≡ length calls = length-map calls (λ (k : Call). k.parent) in
      omega arith

  pub left_recording : (routines : ℕ) (exit : Side) (way : WayOut) (answer : Option Value) → number < length calls
      → record { calls = set calls number (left_call call (length calls) exit way answer); open_calls = reverse outer; routines = routines }
      ≡ left (record { calls = calls; open_calls = reverse open_items; routines = routines }) exit way answer
  left_recording routines exit way answer inside =
      let found : slice_get calls number ≡ Some call = slice_get_read calls (length calls) number call refl inside is in
      rw (reversed, found) refl
