-- What it takes to be searched, and to be a suspect or a doubt.
use Rattle.std.proofs.Common.{◌&&◌, ◌+◌, ◌<◌, ◌≡◌, ◌≤◌, ℕ, All, Bool, Contains, List, None, Option, Some, ap, arith, false, filter, inl, inr, length, nat_le}
use Rattle.std.proofs.Common.{nat_lt, not, refl, slice_index, suc, true, zero}
use Rattle.std.proofs.lemmas.Bool.{and_from, and_parts, both_ways, cases_eq, false_from_ne_true, le-leb, leb-true, lt-ltb, ltb-true, not-true, not_from_false}
use Rattle.std.proofs.lemmas.List.{Elements.All-filter, FromFn.length-range_with_len, Sums.count_by-le-length, Sums.length-filter}
use Rattle.call_tree.specs.{Clear.is_clear, Clear.is_unjudged, Clear.is_unknown, Numbering.IsNumbered, declared.records.Mark.Mark}
use Rattle.call_tree.specs.declared.records.Mark.TheVariants.{Right, Trusted, Unjudged, Unknown, Wrong}
use Rattle.subtree_weights.specs.Searched.{covers, is_below, is_cleared, is_in, is_searched, mark_at}
use Rattle.answer_book.specs.Numbers.{numbers_below}
use Rattle.optimal_query.proofs.PassingNumbers.{any_below, contains_of_passes, filter_filter, none_below, numbers_inside, passes_of_contains}
use Rattle.optimal_query.specs.Region.{doubts_of, suspects_of}

-- the call `above` is clear and has the call in its subtree
pub record Covers (last : List ℕ) (marks : List Mark) (accused : Option ℕ) (call above : ℕ) : Type 0 where
  pub clear : is_clear (mark_at marks above) ≡ true
  pub inside : is_below last accused above ≡ true
  pub from : above ≤ call
  pub to : call ≤ slice_index last above

pub in_parts : (last : List ℕ) (top call : ℕ) → is_in last top call ≡ true → (top ≤ call) × (call ≤ slice_index last top)
in_parts last top call h =
    let parts = and_parts (nat_le top call) (nat_le call (slice_index last top)) h in
    (leb-true top call parts.0, leb-true call (slice_index last top) parts.1)

pub in_from : (last : List ℕ) (top call : ℕ) → top ≤ call → call ≤ slice_index last top → is_in last top call ≡ true
in_from last top call from to = and_from (nat_le top call) (nat_le call (slice_index last top)) (le-leb top call from) (le-leb call (slice_index last top) to)

pub covers_parts : (last : List ℕ) (marks : List Mark) (accused : Option ℕ) (call above : ℕ) → covers last marks accused call above ≡ true
    → Covers last marks accused call above
covers_parts last marks accused call above h =
    let parts = and_parts (is_clear (mark_at marks above) && is_below last accused above) (is_in last above call) h in
    let front = and_parts (is_clear (mark_at marks above)) (is_below last accused above) parts.0 in
    let back = in_parts last above call parts.1 in
    record { clear = front.0; inside = front.1; from = back.0; to = back.1 }

pub covers_from : (last : List ℕ) (marks : List Mark) (accused : Option ℕ) (call above : ℕ) → Covers last marks accused call above
    → covers last marks accused call above ≡ true
covers_from last marks accused call above c =
    and_from (is_clear (mark_at marks above) && is_below last accused above) (is_in last above call)
    (and_from (is_clear (mark_at marks above)) (is_below last accused above) c.clear c.inside) (in_from last above call c.from c.to)

-- the call is in the region
pub record Searched (last : List ℕ) (marks : List Mark) (accused : Option ℕ) (call : ℕ) : Type 0 where
  pub inside : is_below last accused call ≡ true
  pub free : (above : ℕ) → above < length last → Covers last marks accused call above → ⊥

pub searched_parts : (last : List ℕ) (marks : List Mark) (accused : Option ℕ) (call : ℕ) → is_searched last marks accused call ≡ true
    → Searched last marks accused call
searched_parts last marks accused call h =
    let parts = and_parts (is_below last accused call) (not (is_cleared last marks accused call)) h in
    record {
      inside = parts.0;
      free = λ above inside c. both_ways (is_cleared last marks accused call) (not-true (is_cleared last marks accused call) parts.1)
          (any_below (covers last marks accused call) (length last) above inside (covers_from last marks accused call above c));
    }

pub searched_from : (last : List ℕ) (marks : List Mark) (accused : Option ℕ) (call : ℕ) → Searched last marks accused call
    → is_searched last marks accused call ≡ true
searched_from last marks accused call s =
    let free : is_cleared last marks accused call ≡ false =
    none_below (covers last marks accused call) (length last) (λ above inside. false_from_ne_true (covers last marks accused call above)
    (λ e. s.free above inside (covers_parts last marks accused call above e))) in
    and_from (is_below last accused call) (not (is_cleared last marks accused call)) s.inside (not_from_false (is_cleared last marks accused call) free)

-- a call of the region with such a mark
abbrev pub is_marked : (Mark → Bool) → List ℕ → List Mark → Option ℕ → ℕ → Bool
is_marked test last marks accused call = is_searched last marks accused call && test (mark_at marks call)

pub suspects_are : (last : List ℕ) (marks : List Mark) (accused : Option ℕ)
    → suspects_of last marks accused ≡ filter (is_marked is_unjudged last marks accused) (numbers_below (length last))
unfolding suspects_of
suspects_are last marks accused = filter_filter (λ call. is_unjudged (mark_at marks call)) (is_searched last marks accused) (numbers_below (length last))

pub doubts_are : (last : List ℕ) (marks : List Mark) (accused : Option ℕ)
    → doubts_of last marks accused ≡ filter (is_marked is_unknown last marks accused) (numbers_below (length last))
unfolding doubts_of
doubts_are last marks accused = filter_filter (λ call. is_unknown (mark_at marks call)) (is_searched last marks accused) (numbers_below (length last))

pub unjudged_is : (mark : Mark) → is_unjudged mark ≡ true → mark ≡ Unjudged
unjudged_is Unjudged h = refl
unjudged_is Right h = absurd (let l : ⊥ = cc in l)
unjudged_is Wrong h = absurd (let l : ⊥ = cc in l)
unjudged_is Unknown h = absurd (let l : ⊥ = cc in l)
unjudged_is Trusted h = absurd (let l : ⊥ = cc in l)

-- a suspect is a call of the region that is unjudged
pub record Suspected (last : List ℕ) (marks : List Mark) (accused : Option ℕ) (call : ℕ) : Type 0 where
  pub a_call : call < length last
  pub searched : Searched last marks accused call
  pub unjudged : mark_at marks call ≡ Unjudged

pub suspected_of : (last : List ℕ) (marks : List Mark) (accused : Option ℕ) (call : ℕ) → Contains (suspects_of last marks accused) call
    → Suspected last marks accused call
suspected_of last marks accused call h =
    let there = passes_of_contains (is_marked is_unjudged last marks accused) (length last) call (rw (suspects_are last marks accused) at h) in
    let parts = and_parts (is_searched last marks accused call) (is_unjudged (mark_at marks call)) there.1 in
    record {
      a_call = there.0;
      searched = searched_parts last marks accused call parts.0;
      unjudged = unjudged_is (mark_at marks call) parts.1;
    }

-- a call of the region with such a mark is among them
pub suspect_from : (last : List ℕ) (marks : List Mark) (accused : Option ℕ) (call : ℕ) → call < length last → Searched last marks accused call
    → is_unjudged (mark_at marks call) ≡ true → Contains (suspects_of last marks accused) call
suspect_from last marks accused call inside s unjudged =
    rw (suspects_are last marks accused) (contains_of_passes (is_marked is_unjudged last marks accused) (length last) call inside
    (and_from (is_searched last marks accused call) (is_unjudged (mark_at marks call)) (searched_from last marks accused call s) unjudged))

pub doubt_from : (last : List ℕ) (marks : List Mark) (accused : Option ℕ) (call : ℕ) → call < length last → Searched last marks accused call
    → is_unknown (mark_at marks call) ≡ true → Contains (doubts_of last marks accused) call
doubt_from last marks accused call inside s unknown =
    rw (doubts_are last marks accused) (contains_of_passes (is_marked is_unknown last marks accused) (length last) call inside
    (and_from (is_searched last marks accused call) (is_unknown (mark_at marks call)) (searched_from last marks accused call s) unknown))

pub below_parts : (last : List ℕ) (accused call : ℕ) → is_below last (Some accused) call ≡ true → (accused < call) × (call ≤ slice_index last accused)
below_parts last accused call h =
    let parts = and_parts (is_in last accused call) (nat_lt accused call) h in
    (ltb-true accused call parts.1, (in_parts last accused call parts.0).1)

pub below_from : (last : List ℕ) (accused call : ℕ) → accused < call → call ≤ slice_index last accused → is_below last (Some accused) call ≡ true
below_from last accused call later within =
    and_from (is_in last accused call) (nat_lt accused call) (in_from last accused call (omega arith) within) (lt-ltb accused call later)

nested_to : (parent : List (Option ℕ)) (last : List ℕ) → IsNumbered parent last → (fuel top call : ℕ) → call ≤ top + fuel → top ≤ call
    → call ≤ slice_index last top → slice_index last call ≤ slice_index last top
nested_to parent last numbered zero top call near from to = let e : call ≡ top = omega arith in omega (arith, ap (slice_index last) e)
nested_to parent last numbered (suc fuel) top call near from to = elim (cases_eq call top) [
  | inl same ↦ omega (arith, ap (slice_index last) same)
  | inr differs ↦
      let above = numbered.parent_is_within top call (omega arith) to in
      let later : above.0 < call = numbered.child_is_later above.0 call above.2 in
      let inner : slice_index last call ≤ slice_index last above.0 = numbered.child_ends_within above.0 call above.2 in
      let from_top : top ≤ above.0 = above.1 in
      let outer = nested_to parent last numbered fuel top above.0 (omega arith) from_top (omega arith) in
      omega (arith, inner, outer)
]

-- a subtree within another ends no later
pub nested : (parent : List (Option ℕ)) (last : List ℕ) → IsNumbered parent last → (top call : ℕ) → top ≤ call → call ≤ slice_index last top
    → slice_index last call ≤ slice_index last top
nested parent last numbered top call from to = nested_to parent last numbered call top call (omega arith) from to

-- what stands in the subtree of a call below the accused stands below the accused
pub below_deeper : (parent : List (Option ℕ)) (last : List ℕ) → IsNumbered parent last → (accused : Option ℕ) (call deeper : ℕ)
    → is_below last accused call ≡ true → call ≤ deeper → deeper ≤ slice_index last call → is_below last accused deeper ≡ true
below_deeper parent last numbered None call deeper h from to = refl
below_deeper parent last numbered (Some accused) call deeper h from to =
    let parts = below_parts last accused call h in
    below_from last accused deeper (omega (arith, parts.0)) (omega (arith, parts.1, nested parent last numbered accused call (omega (arith, parts.0)) parts.1))

pub below_between : (last : List ℕ) (accused : Option ℕ) (first middle end : ℕ) → is_below last accused first ≡ true → is_below last accused end ≡ true
    → first ≤ middle → middle ≤ end → is_below last accused middle ≡ true
below_between last None first middle end a b c d = refl
below_between last (Some accused) first middle end a b c d =
    below_from last accused middle (omega (arith, (below_parts last accused first a).0)) (omega (arith, (below_parts last accused end b).1))

-- the suspects are calls, and no more than there are
pub suspects_inside : (last : List ℕ) (marks : List Mark) (accused : Option ℕ) → All (λ call. call < length last) (suspects_of last marks accused)
suspects_inside last marks accused =
    rw (suspects_are last marks accused)
    (All-filter (is_marked is_unjudged last marks accused) (λ call. call < length last) (numbers_below (length last)) (numbers_inside (length last)))

pub suspects_few : (last : List ℕ) (marks : List Mark) (accused : Option ℕ) → length (suspects_of last marks accused) ≤ length last
suspects_few last marks accused =
    rw (suspects_are last marks accused)
    (omega (
      arith,
      length-filter (is_marked is_unjudged last marks accused) (numbers_below (length last)),
      count_by-le-length (is_marked is_unjudged last marks accused) (numbers_below (length last)),
      length-range_with_len 0 (length last),
    ))

-- a suspect passes, and what passes is one
pub passes_of : (last : List ℕ) (marks : List Mark) (accused : Option ℕ) (call : ℕ) → Contains (suspects_of last marks accused) call
    → (call < length last) × (is_marked is_unjudged last marks accused call ≡ true)
passes_of last marks accused call h =
    passes_of_contains (is_marked is_unjudged last marks accused) (length last) call (rw (suspects_are last marks accused) at h)

pub suspect_contains : (last : List ℕ) (marks : List Mark) (accused : Option ℕ) (call : ℕ) → call < length last
    → is_marked is_unjudged last marks accused call ≡ true → Contains (suspects_of last marks accused) call
suspect_contains last marks accused call inside p =
    rw (suspects_are last marks accused) (contains_of_passes (is_marked is_unjudged last marks accused) (length last) call inside p)
