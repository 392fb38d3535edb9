-- The calls below the accused in order, and the next doubt among them.
use Rattle.std.proofs.Common.{◌&&◌, ◌+◌, ◌<◌, ◌∙◌, ◌≡◌, ◌≤◌, ℕ, Bool, List, None, Option, Some, ap, arith, cond, false, find, inl, inr, length, refl}
use Rattle.std.proofs.{Common.slice_index, Common.sym, Common.true, lemmas.Bool.and_from, lemmas.Bool.and_parts, lemmas.Bool.both_ways}
use Rattle.std.specs.Option.{ForSome}
use Rattle.call_tree.specs.{Clear.is_clear, Clear.is_unknown, Numbering.IsNumbered, declared.records.Mark.Mark}
use Rattle.call_tree.specs.declared.records.Mark.TheVariants.{Right, Trusted, Unjudged, Unknown, Wrong}
use Rattle.subtree_weights.specs.Searched.{is_below, is_searched, mark_at}
use Rattle.answer_book.specs.Numbers.{numbers_below}
use Rattle.optimal_query.proofs.{BestOfRuns.cases_lt, PassingNumbers.find_filter, PassingNumbers.first_from, PassingNumbers.none_to_find}
use Rattle.optimal_query.proofs.Searched.{Searched, below_from, below_parts, doubts_are, is_marked, nested, searched_from, searched_parts}
use Rattle.optimal_query.specs.{Nested.AreNested, Nested.end_below, Nested.start_below, Region.doubts_of, Region.is_after, Region.next_after}

pub are_nested : (parent : List (Option ℕ)) (last : List ℕ) → IsNumbered parent last → AreNested last
are_nested parent last numbered = record {
  intervals = numbered.intervals;
  nested = λ above call from to. nested parent last numbered above call from to;
}

-- below the accused is from the first call below it up to the end
pub below_of_bounds : (last : List ℕ) (accused : Option ℕ) (call : ℕ) → start_below accused ≤ call → call < end_below last accused
    → is_below last accused call ≡ true
below_of_bounds last None call from to = refl
below_of_bounds last (Some accused) call from to = below_from last accused call (omega arith) (omega arith)

pub bounds_of_below : (last : List ℕ) (accused : Option ℕ) (call : ℕ) → call < length last → is_below last accused call ≡ true
    → (start_below accused ≤ call) × (call < end_below last accused)
bounds_of_below last None call inside below = (omega arith, inside)
bounds_of_below last (Some accused) call inside below =
    let parts = below_parts last accused call below in
    (omega (arith, parts.0), omega (arith, parts.1))

pub end_inside : (last : List ℕ) (accused : Option ℕ) → AreNested last → ForSome accused (λ accused. accused < length last)
    → end_below last accused ≤ length last
end_inside last None nested known = omega arith
end_inside last (Some accused) nested known =
    let inside = nested.intervals.to_a_call accused (known accused refl) in omega arith

pub start_before_end : (last : List ℕ) (accused : Option ℕ) → AreNested last → ForSome accused (λ accused. accused < length last)
    → start_below accused ≤ end_below last accused
start_before_end last None nested known = omega arith
start_before_end last (Some accused) nested known =
    let inside = nested.intervals.from_itself accused (known accused refl) in omega arith

-- the subtrees of the calls below the accused end there
pub ends_inside : (last : List ℕ) (accused : Option ℕ) (call : ℕ) → AreNested last → call < length last
    → start_below accused ≤ call → call < end_below last accused → slice_index last call < end_below last accused
ends_inside last None call nested inside from to = nested.intervals.to_a_call call inside
ends_inside last (Some accused) call nested inside from to =
    let within = nested.nested accused call (omega arith) (omega arith) in omega arith

-- no subtree of a clear call before this one goes on
pub record AreLeft (last : List ℕ) (marks : List Mark) (accused : Option ℕ) (call : ℕ) : Type 0 where
  pub start : start_below accused ≤ call
  pub end : call ≤ end_below last accused
  pub ended : (above : ℕ) → start_below accused ≤ above → above < call → is_clear (mark_at marks above) ≡ true → slice_index last above < call

-- whether a call is a doubt after the one that is given
abbrev pub is_next : List ℕ → List Mark → Option ℕ → Option ℕ → ℕ → Bool
is_next last marks accused before call = is_marked is_unknown last marks accused call && is_after before call

pub record Looked (last : List ℕ) (marks : List Mark) (accused before : Option ℕ) (call : ℕ) : Type 0 where
  pub left : AreLeft last marks accused call
  pub none : (other : ℕ) → other < call → is_next last marks accused before other ≡ false

-- a call that comes next is searched, unless it is clear
searched_here : (last : List ℕ) (marks : List Mark) (accused : Option ℕ) (call : ℕ) → AreLeft last marks accused call → call < end_below last accused
    → call < length last → is_clear (mark_at marks call) ≡ false → Searched last marks accused call
searched_here last marks accused call left inside within unclear = record {
  inside = below_of_bounds last accused call left.start inside;
  free = λ above h c. elim (cases_lt above call) [
    | inl before ↦
        let bounds = bounds_of_below last accused above h c.inside in
        let ended : slice_index last above < call = left.ended above bounds.0 before c.clear in
        let to : call ≤ slice_index last above = c.to in
        (let l : ⊥ = omega arith in l)
    | inr after ↦
        let from : above ≤ call = c.from in
        let same : above ≡ call = omega arith in
        both_ways (is_clear (mark_at marks call)) unclear (ap (λ k. is_clear (mark_at marks k)) (sym same) ∙ c.clear)
  ];
}

unknown_unclear : (mark : Mark) → is_unknown mark ≡ true → is_clear mark ≡ false
unknown_unclear Unjudged h = refl
unknown_unclear Right h = absurd (let l : ⊥ = cc in l)
unknown_unclear Wrong h = refl
unknown_unclear Unknown h = refl
unknown_unclear Trusted h = absurd (let l : ⊥ = cc in l)

-- what is not below the accused is not next
next_by : (last : List ℕ) (marks : List Mark) (accused before : Option ℕ) (call : ℕ)
    → (call < length last → (start_below accused ≤ call) × (call < end_below last accused) → ⊥) → call < length last
    → (b : Bool) → is_next last marks accused before call ≡ b → is_next last marks accused before call ≡ false
next_by last marks accused before call outside inside true is =
    let parts = and_parts (is_marked is_unknown last marks accused call) (is_after before call) is in
    let marked = and_parts (is_searched last marks accused call) (is_unknown (mark_at marks call)) parts.0 in
    absurd (outside inside (bounds_of_below last accused call inside (searched_parts last marks accused call marked.0).inside))
next_by last marks accused before call outside inside false is = is

not_next : (last : List ℕ) (marks : List Mark) (accused before : Option ℕ) (call : ℕ)
    → (call < length last → (start_below accused ≤ call) × (call < end_below last accused) → ⊥) → call < length last
    → is_next last marks accused before call ≡ false
not_next last marks accused before call outside inside = next_by last marks accused before call outside inside (is_next last marks accused before call) refl

pub looked_none : (last : List ℕ) (marks : List Mark) (accused before : Option ℕ) → AreNested last → ForSome accused (λ accused. accused < length last)
    → Looked last marks accused before (start_below accused)
looked_none last marks accused before nested known = record {
  left = record {
    start = omega arith;
    end = start_before_end last accused nested known;
    ended = λ above h i clear. let l : ⊥ = omega arith in absurd l;
  };
  none = λ other h.
      let order = start_before_end last accused nested known in
      let inside = end_inside last accused nested known in
      not_next last marks accused before other (λ within bounds. let l : ⊥ = omega (arith, bounds.0) in l) (omega arith);
}

next_is : (last : List ℕ) (marks : List Mark) (accused before : Option ℕ) (o : Option ℕ)
    → find (is_next last marks accused before) (numbers_below (length last)) ≡ o → next_after (doubts_of last marks accused) before ≡ o
next_is last marks accused before o h =
    ap (find (is_after before)) (doubts_are last marks accused)
    ∙ find_filter (is_after before) (is_marked is_unknown last marks accused) (numbers_below (length last)) ∙ h

pub found_next : (last : List ℕ) (marks : List Mark) (accused before : Option ℕ) (call : ℕ) → Looked last marks accused before call
    → call < end_below last accused → call < length last → (is_unknown (mark_at marks call) && is_after before call) ≡ true
    → Some call ≡ next_after (doubts_of last marks accused) before
found_next last marks accused before call looked inside within wanted =
    let parts = and_parts (is_unknown (mark_at marks call)) (is_after before call) wanted in
    let searched = searched_here last marks accused call looked.left inside within (unknown_unclear (mark_at marks call) parts.0) in
    let marked = and_from (is_searched last marks accused call) (is_unknown (mark_at marks call)) (searched_from last marks accused call searched) parts.0 in
    sym (next_is last marks accused before (Some call) (first_from (is_next last marks accused before) 0 (length last) call (record {
      from_here = omega arith;
      inside = omega arith;
      passes = and_from (is_marked is_unknown last marks accused call) (is_after before call) marked parts.1;
      none_earlier = λ other h before. looked.none other before;
    })))

pub none_next : (last : List ℕ) (marks : List Mark) (accused before : Option ℕ) (call : ℕ) → Looked last marks accused before call
    → end_below last accused ≤ call → None ≡ next_after (doubts_of last marks accused) before
none_next last marks accused before call looked over =
    sym (next_is last marks accused before None (none_to_find (is_next last marks accused before) 0 (length last) (λ other h inside.
    elim (cases_lt other call) [
      | inl earlier ↦ looked.none other earlier
      | inr later ↦ not_next last marks accused before other (λ within bounds. let l : ⊥ = omega (arith, bounds.1) in l) (omega arith)
    ])))

unwanted : (last : List ℕ) (marks : List Mark) (accused before : Option ℕ) (call : ℕ) → (is_unknown (mark_at marks call) && is_after before call) ≡ false
    → (b : Bool) → is_next last marks accused before call ≡ b → is_next last marks accused before call ≡ false
unwanted last marks accused before call none true is =
    let parts = and_parts (is_marked is_unknown last marks accused call) (is_after before call) is in
    let marked = and_parts (is_searched last marks accused call) (is_unknown (mark_at marks call)) parts.0 in
    absurd (both_ways (is_unknown (mark_at marks call) && is_after before call) none
    (and_from (is_unknown (mark_at marks call)) (is_after before call) marked.1 parts.1))
unwanted last marks accused before call none false is = is

covered : (last : List ℕ) (marks : List Mark) (accused before : Option ℕ) (above call : ℕ) → above < length last → is_below last accused above ≡ true
    → is_clear (mark_at marks above) ≡ true → above ≤ call → call ≤ slice_index last above
    → (b : Bool) → is_next last marks accused before call ≡ b → is_next last marks accused before call ≡ false
covered last marks accused before above call inside below clear from to true is =
    let parts = and_parts (is_marked is_unknown last marks accused call) (is_after before call) is in
    let marked = and_parts (is_searched last marks accused call) (is_unknown (mark_at marks call)) parts.0 in
    absurd ((searched_parts last marks accused call marked.0).free above inside (record { clear = clear; inside = below; from = from; to = to }))
covered last marks accused before above call inside below clear from to false is = is

-- the next call to look at
pub looked_more : (last : List ℕ) (marks : List Mark) (accused before : Option ℕ) (call : ℕ) → AreNested last → Looked last marks accused before call
    → call < end_below last accused → call < length last → (is_unknown (mark_at marks call) && is_after before call) ≡ false
    → (clear : Bool) → is_clear (mark_at marks call) ≡ clear → Looked last marks accused before (cond clear (slice_index last call + 1) (call + 1))
looked_more last marks accused before call nested looked inside within none true clear =
    let left = looked.left in
    let start : start_below accused ≤ call = left.start in
    let itself : call ≤ slice_index last call = nested.intervals.from_itself call within in
    let ends : slice_index last call < end_below last accused = ends_inside last accused call nested within start inside in
    record {
      left = record {
        start = omega arith;
        end = omega arith;
        ended = λ above h i is. elim (cases_lt above call) [
          | inl earlier ↦ let e : slice_index last above < call = left.ended above h earlier is in omega arith
          | inr later ↦ let e : slice_index last above ≤ slice_index last call = nested.nested call above later (omega arith) in omega arith
        ];
      };
      none = λ other h. elim (cases_lt other call) [
        | inl earlier ↦ looked.none other earlier
        | inr later ↦ covered last marks accused before call other within (below_of_bounds last accused call start inside) clear later (omega arith)
            (is_next last marks accused before other) refl
      ];
    }
looked_more last marks accused before call nested looked inside within none false unclear =
    let left = looked.left in
    let start : start_below accused ≤ call = left.start in
    record {
      left = record {
        start = omega arith;
        end = omega arith;
        ended = λ above h i is. elim (cases_lt above call) [
          | inl earlier ↦ let e : slice_index last above < call = left.ended above h earlier is in omega arith
          | inr later ↦
              let same : above ≡ call = omega arith in
              absurd (both_ways (is_clear (mark_at marks call)) unclear (ap (λ k. is_clear (mark_at marks k)) (sym same) ∙ is))
        ];
      };
      none = λ other h. elim (cases_lt other call) [
        | inl earlier ↦ looked.none other earlier
        | inr later ↦
            let same : other ≡ call = omega arith in
            ap (is_next last marks accused before) same ∙ unwanted last marks accused before call none (is_next last marks accused before call) refl
      ];
    }
