-- A call that is entered stands last, under the innermost open call.
use Rattle.std.proofs.Common.{◌++◌, ◌+◌, ◌-◌, ◌<◌, ◌∙◌, ◌∷◌, ◌≡◌, ◌≢◌, ◌≤◌, ◌⊎◌, [], ℕ, List, None, Option, Some, ap, arith, get_or, inl, inr, length}
use Rattle.std.proofs.Common.{length-append, refl, reverse, slice_get, sym}
use Rattle.std.proofs.Math.{ListN.get_or-append, Seq.get_or-append_seam}
use Rattle.std.proofs.lemmas.{Bool.cases_lt, List.length-map, List.length-reverse, List.map-append, List.reverse-append, Option.slice_get_within}
use Rattle.call_tree.proofs.OpenCalls.{chain_goes_on, innermost_depth, innermost_is_open, open_is_call, open_to_innermost}
use Rattle.call_tree.proofs.Places.{get_snoc, get_snoc_before, get_snoc_last, last_is_first_reversed}
use Rattle.call_tree.specs.{Numbering.IsParent, Recording.depths_of, Recording.lasts_of, Recording.parents_of, declared.records.Call.Call}
use Rattle.call_tree.specs.Nesting.{IsChain, IsNested, IsOpen, IsRooted, IsUnder}

-- a list that is not empty has a first element
first_there : (xs : List ℕ) → 0 < length xs → (x : ℕ) × (slice_get xs 0 ≡ Some x)
first_there [] h = absurd (omega arith)
first_there (x ∷ xs) h = (x, refl)

-- a list with no first element is empty
no_open : (open_calls : List ℕ) → slice_get open_calls 0 ≡ None → length open_calls ≡ 0
no_open [] h = refl
no_open (call ∷ outer) h = cc

-- with no calls none is open
none_open : (parent : List (Option ℕ)) (depth open_calls : List ℕ) → IsChain parent depth open_calls → length parent ≡ 0 → slice_get open_calls 0 ≡ None
none_open parent depth [] chain none = refl
none_open parent depth (call ∷ outer) chain none = let inside = chain.0.a_call in absurd (omega arith)

module _ (parent : List (Option ℕ)) (last depth open_calls : List ℕ) (nested : IsNested parent last depth open_calls) where
  -- the columns with the new call at their end
  abbrev parent' : List (Option ℕ)
  parent' = parent ++ slice_get open_calls 0 ∷ []

  abbrev last' : List ℕ
  last' = last ++ length last ∷ []

  abbrev depth' : List ℕ
  depth' = depth ++ length open_calls ∷ []

  -- what a call's parent is: as it was, or the innermost open call for the new one
  parent_before : (above call : ℕ) → IsParent parent' above call → IsParent parent above call ⊎ ((call ≡ length last) × (slice_get open_calls 0 ≡ Some above))
  parent_before above call is = elim (get_snoc parent (slice_get open_calls 0) call (Some above) is) [
    | inl h ↦ inl h.1
    | inr h ↦ inr (h.0 ∙ nested.parents, h.1)
  ]

  is_before : (above call : ℕ) → IsParent parent above call → call < length last
  is_before above call is = let inside = slice_get_within parent call (Some above) is in let same = nested.parents in omega arith

  last_before : (call : ℕ) → call < length last → get_or last' call 0 ≡ get_or last call 0
  last_before call inside = get_or-append last (length last ∷ []) 0 call inside

  innermost_before : (above : ℕ) → slice_get open_calls 0 ≡ Some above → above < length last
  innermost_before above is =
      let inside = open_is_call parent depth open_calls above nested.chain (innermost_is_open open_calls above is) in
      let same = nested.parents in
      omega arith

  rooted' : (0 < length last → 0 < length open_calls) → IsRooted parent' depth'
  rooted' under = record {
    root = λ call is. elim (get_snoc parent (slice_get open_calls 0) call None is) [
      | inl h ↦ nested.rooted.root call h.1
      | inr h ↦ elim (cases_lt 0 (length last)) [
        | inl some ↦ let first = first_there open_calls (under some) in let wrong = first.1 in cc
        | inr none ↦ let same = nested.parents in let at = h.0 in omega arith
      ]
    ];
    root_has_none = λ _. elim (cases_lt 0 (length last)) [
      | inl some ↦ let same = nested.parents in get_snoc_before parent (slice_get open_calls 0) 0 None (nested.rooted.root_has_none (omega arith))
      | inr none ↦
          let same = nested.parents in
          let empty : length parent ≡ 0 = omega arith in
          let first : slice_get parent' (length parent) ≡ Some (slice_get open_calls 0) = get_snoc_last parent (slice_get open_calls 0) in
          let at_0 : slice_get parent' 0 ≡ Some (slice_get open_calls 0) = ap (slice_get parent') (sym empty) ∙ first in
          at_0 ∙ ap Some (none_open parent depth open_calls nested.chain empty)
    ];
    root_depth = elim (cases_lt 0 (length last)) [
      | inl some ↦ let same = nested.depths in get_or-append depth (length open_calls ∷ []) 0 0 (omega arith) ∙ nested.rooted.root_depth
      | inr none ↦ only_depth none
    ];
    child_depth = λ above call is. elim (parent_before above call is) [
      | inl h ↦
          let same = nested.depths in
          let before = is_before above call h in
          let later = nested.child_is_later above call h in
          get_or-append depth (length open_calls ∷ []) 0 call (omega arith) ∙ nested.rooted.child_depth above call h
          ∙ ap (λ d. d + 1) (sym (get_or-append depth (length open_calls ∷ []) 0 above (omega arith)))
      | inr h ↦
          let same = nested.depths in
          let before = innermost_before above h.1 in
          let at : call ≡ length depth = h.0 ∙ sym same in
          let deep : get_or depth' call 0 ≡ length open_calls = ap (λ k. get_or depth' k 0) at ∙ get_or-append_seam depth (length open_calls) [] 0 in
          deep ∙ sym (innermost_depth parent depth open_calls above nested.chain h.1)
          ∙ ap (λ d. d + 1) (sym (get_or-append depth (length open_calls ∷ []) 0 above (omega arith)))
    ];
  } where
    only_depth : length last ≤ 0 → get_or depth' 0 0 ≡ 0
    only_depth none =
        let same = nested.depths in
        let at : 0 ≡ length depth = omega arith in
        let empty : length parent ≡ 0 = let p = nested.parents in omega arith in
        ap (λ k. get_or depth' k 0) at ∙ get_or-append_seam depth (length open_calls) [] 0
        ∙ no_open open_calls (none_open parent depth open_calls nested.chain empty)

  pub entering_keeps_nesting : (0 < length last → 0 < length open_calls) → IsNested parent' last' depth' (length last ∷ open_calls)
  entering_keeps_nesting under = record {
    parents = let same = nested.parents in simp length-append (omega arith);
    depths = let same = nested.depths in simp length-append (omega arith);
    chain = (
      new_is_under,
      chain_goes_on parent depth open_calls (slice_get open_calls 0) (length open_calls) (nested.parents ∙ sym nested.depths)
          nested.chain,
    );
    rooted = rooted' under;
    child_is_later = λ above call is. elim (parent_before above call is) [
      | inl h ↦ nested.child_is_later above call h
      | inr h ↦ let before = innermost_before above h.1 in let at = h.0 in omega arith
    ];
    from_itself = λ call inside left.
        let before = old call inside (λ e. left (inl e)) in
        rw last_before (nested.from_itself call before (λ o. left (inr o)));
    to_a_call = λ call inside left.
        let before = old call inside (λ e. left (inl e)) in
        let was = nested.to_a_call call before (λ o. left (inr o)) in
        let same = last_before call before in
        let longer = length_last' in
        omega arith;
    ends_within = λ above call is left. elim (parent_before above call is) [
      | inl h ↦
          let before = is_before above call h in
          let later = nested.child_is_later above call h in
          let was = nested.ends_within above call h (λ o. left (inr o)) in
          let same = last_before call before in
          let same_above = last_before above (omega arith) in
          omega arith
      | inr h ↦ absurd (left (inr (innermost_is_open open_calls above h.1)))
    ];
    under_open = λ top call is later inside. elim is [
      | inl e ↦ let longer = length_last' in absurd (omega arith)
      | inr o ↦ elim (cases_lt call (length last)) [
        | inl before ↦ old_parent top call (nested.under_open top call o later before)
        | inr after ↦ new_parent top call o (let longer = length_last' in omega arith)
      ]
    ];
    under_left = λ top call inside left later within.
        let before = old top inside (λ e. left (inl e)) in
        let same = last_before top before in
        old_parent top call (nested.under_left top call before (λ o. left (inr o)) later (omega arith));
  } where
    length_last' : length last' ≡ length last + 1
    length_last' = simp length-append refl

    old : (call : ℕ) → call < length last' → (call ≡ length last → ⊥) → call < length last
    old call inside other = let longer = length_last' in let o : call ≢ length last = other in omega arith

    old_parent : (top call : ℕ) → ((above : ℕ) × (top ≤ above) × IsParent parent above call) → (above : ℕ) × (top ≤ above) × IsParent parent' above call
    old_parent top call found = (found.0, found.1, get_snoc_before parent (slice_get open_calls 0) call (Some found.0) found.2)

    first_open : (open_list : List ℕ) (top : ℕ) → IsOpen top open_list → (x : ℕ) × (slice_get open_list 0 ≡ Some x)
    first_open [] top o = absurd o
    first_open (x ∷ xs) top o = (x, refl)

    new_parent : (top call : ℕ) → IsOpen top open_calls → call ≡ length last → (above : ℕ) × (top ≤ above) × IsParent parent' above call
    new_parent top call o at =
        let first = first_open open_calls top o in
        let here : slice_get parent' (length parent) ≡ Some (slice_get open_calls 0) = get_snoc_last parent (slice_get open_calls 0) in
        let place : length parent ≡ call = nested.parents ∙ sym at in
        (first.0, open_to_innermost parent depth open_calls top first.0 nested.chain o first.1, ap (slice_get parent') (sym place) ∙ here ∙ ap Some first.1)

    new_is_under : IsUnder parent' depth' (length last) open_calls
    new_is_under = record {
      a_call = let same = nested.parents in simp length-append (omega arith);
      parent_is = ap (slice_get parent') (sym nested.parents) ∙ get_snoc_last parent (slice_get open_calls 0);
      depth_is = ap (λ k. get_or depth' k 0) (sym nested.depths) ∙ get_or-append_seam depth (length open_calls) [] 0;
      later = λ other o. let inside = open_is_call parent depth open_calls other nested.chain o in let same = nested.parents in omega arith;
    }

-- the same of calls, whose open ones are kept from the outermost to the innermost
pub entered_calls_are_nested : (calls : List Call) (open_items : List ℕ) (call : Call) (number : ℕ) → number ≡ length calls
    → call.parent ≡ slice_get open_items (length open_items - 1) → call.depth ≡ length open_items → call.last ≡ number
    → (0 < length calls → 0 < length (reverse open_items)) → IsNested (parents_of calls) (lasts_of calls) (depths_of calls) (reverse open_items)
    → IsNested (parents_of (calls ++ call ∷ [])) (lasts_of (calls ++ call ∷ [])) (depths_of (calls ++ call ∷ [])) (reverse (open_items ++ number ∷ []))
entered_calls_are_nested calls open_items call number is parent_is depth_is last_is under nested =
    let same : length (lasts_of calls) ≡ length calls = length-map calls (λ (k : Call). k.last) in
    let kept = entering_keeps_nesting (parents_of calls) (lasts_of calls) (depths_of calls) (reverse open_items) nested (λ some. under (rw (← same) some)) in
    let parent : call.parent ≡ slice_get (reverse open_items) 0 = parent_is ∙ last_is_first_reversed open_items in
    let depth : call.depth ≡ length (reverse open_items) = depth_is ∙ sym (length-reverse open_items) in
    let last : call.last ≡ length (lasts_of calls) = last_is ∙ is ∙ sym same in
    let numbered : number ≡ length (lasts_of calls) = is ∙ sym same in
    rw (map-append, map-append, map-append, reverse-append, parent, depth, last, numbered) kept
