-- What the tests of suspects say.
use Rattle.std.proofs.Common.{◌&&◌, ◌<◌, ◌==◌, ◌∙◌, ◌≡◌, ◌≢◌, ◌≤◌, ℕ, Bool, List, Option, Some, ap, arith, cond, false, inl, inr, length, nat_le, nat_lt, not}
use Rattle.std.proofs.Common.{refl, slice_index, sym, true}
use Rattle.std.proofs.lemmas.Bool.{and_from, and_parts, both_ways, cases_Bool, cases_eq, cond-false, cond-true, eqb-false, eqb-true, false_from_ne_true, le-leb}
use Rattle.std.proofs.lemmas.Bool.{leb-true, lt-ltb, ltb-true, not-true, not_from_false}
use Rattle.call_tree.specs.{Clear.is_clear, Clear.is_unjudged, Numbering.AreIntervals, declared.records.Mark.Mark}
use Rattle.subtree_weights.proofs.Totals.{any_number, some_number}
use Rattle.subtree_weights.specs.Searched.{covers, is_below, is_cleared, is_in, is_searched, is_suspect, mark_at}

pub same_tests : (a b : Bool) → (a ≡ true → b ≡ true) → (b ≡ true → a ≡ true) → a ≡ b
same_tests true true h k = refl
same_tests true false h k = sym (h refl)
same_tests false true h k = k refl
same_tests false false h k = refl

pub in_is : (last : List ℕ) (top call : ℕ) → is_in last top call ≡ true → (top ≤ call) × (call ≤ slice_index last top)
in_is last top call h =
    let parts = and_parts (nat_le top call) (nat_le call (slice_index last top)) h in
    (leb-true top call parts.0, leb-true call (slice_index last top) parts.1)

pub in_from : (last : List ℕ) (top call : ℕ) → top ≤ call → call ≤ slice_index last top → is_in last top call ≡ true
in_from last top call from within =
    and_from (nat_le top call) (nat_le call (slice_index last top)) (le-leb top call from) (le-leb call (slice_index last top) within)

pub below_is : (last : List ℕ) (top call : ℕ) → is_below last (Some top) call ≡ true → (top < call) × (call ≤ slice_index last top)
below_is last top call h =
    let parts = and_parts (is_in last top call) (nat_lt top call) h in
    (ltb-true top call parts.1, (in_is last top call parts.0).1)

pub below_from : (last : List ℕ) (top call : ℕ) → top < call → call ≤ slice_index last top → is_below last (Some top) call ≡ true
below_from last top call later within =
    and_from (is_in last top call) (nat_lt top call) (in_from last top call (omega arith) within) (lt-ltb top call later)

-- nothing is said of the call, and no clear call below `top` has it in its subtree
pub record IsSuspect (last : List ℕ) (marks : List Mark) (top : Option ℕ) (call : ℕ) : Type 0 where
  pub below : is_below last top call ≡ true
  pub unsaid : is_unjudged (mark_at marks call) ≡ true
  pub free : (above : ℕ) → above < length last → is_clear (mark_at marks above) ≡ true → is_below last top above ≡ true → above ≤ call
      → call ≤ slice_index last above → ⊥

pub suspect_is : (last : List ℕ) (marks : List Mark) (top : Option ℕ) (call : ℕ) → is_suspect last marks top call ≡ true → IsSuspect last marks top call
suspect_is last marks top call h =
    let parts = and_parts (is_searched last marks top call) (is_unjudged (mark_at marks call)) h in
    let searched = and_parts (is_below last top call) (not (is_cleared last marks top call)) parts.0 in
    record {
      below = searched.0;
      unsaid = parts.1;
      free = λ above a_call clear lower to within.
          let cleared : is_cleared last marks top call ≡ true =
          any_number (covers last marks top call) (length last) above a_call
          (and_from (is_clear (mark_at marks above) && is_below last top above) (is_in last above call)
          (and_from (is_clear (mark_at marks above)) (is_below last top above) clear lower) (in_from last above call to within)) in
          both_ways (is_cleared last marks top call) (not-true (is_cleared last marks top call) searched.1) cleared;
    }

pub suspect_from : (last : List ℕ) (marks : List Mark) (top : Option ℕ) (call : ℕ) → IsSuspect last marks top call → is_suspect last marks top call ≡ true
suspect_from last marks top call suspect =
    let uncleared : is_cleared last marks top call ≡ false =
    false_from_ne_true (is_cleared last marks top call) (λ cleared.
    let found = some_number (covers last marks top call) (length last) cleared in
    let parts = and_parts (is_clear (mark_at marks found.0) && is_below last top found.0) (is_in last found.0 call) found.2 in
    let clear = and_parts (is_clear (mark_at marks found.0)) (is_below last top found.0) parts.0 in
    let inside = in_is last found.0 call parts.1 in
    suspect.free found.0 found.1 clear.0 clear.1 inside.0 inside.1) in
    and_from (is_searched last marks top call) (is_unjudged (mark_at marks call))
    (and_from (is_below last top call) (not (is_cleared last marks top call)) suspect.below
    (not_from_false (is_cleared last marks top call) uncleared)) suspect.unsaid

-- whether a call is one of those that another call weighs: itself, or a suspect below it
abbrev pub counts : List ℕ → List Mark → ℕ → ℕ → Bool
counts last marks top call =
    cond (is_clear (mark_at marks top)) false (cond (top == call) (is_unjudged (mark_at marks call)) (is_suspect last marks (Some top) call))

pub record Counts (last : List ℕ) (marks : List Mark) (top call : ℕ) : Type 0 where
  pub from : top ≤ call
  pub within : call ≤ slice_index last top
  pub unsaid : is_unjudged (mark_at marks call) ≡ true
  pub free : (above : ℕ) → above < length last → is_clear (mark_at marks above) ≡ true → top ≤ above → above ≤ call → call ≤ slice_index last above → ⊥

-- a clear call weighs nothing
pub clear_counts : (last : List ℕ) (marks : List Mark) (top call : ℕ) → is_clear (mark_at marks top) ≡ true → counts last marks top call ≡ false
clear_counts last marks top call h =
    cond-true (is_clear (mark_at marks top)) false (cond (top == call) (is_unjudged (mark_at marks call)) (is_suspect last marks (Some top) call)) h

pub open_counts : (last : List ℕ) (marks : List Mark) (top call : ℕ) → is_clear (mark_at marks top) ≡ false
    → counts last marks top call ≡ cond (top == call) (is_unjudged (mark_at marks call)) (is_suspect last marks (Some top) call)
open_counts last marks top call h =
    cond-false (is_clear (mark_at marks top)) false (cond (top == call) (is_unjudged (mark_at marks call)) (is_suspect last marks (Some top) call)) h

module _ (last : List ℕ) (marks : List Mark) (top call : ℕ) (intervals : AreIntervals last) (a_call : top < length last) where
  counts_itself : is_clear (mark_at marks top) ≡ false → top ≡ call → is_unjudged (mark_at marks call) ≡ true → Counts last marks top call
  counts_itself open' same unsaid = record {
    from = omega arith;
    within = let itself = intervals.from_itself top a_call in omega arith;
    unsaid = unsaid;
    free = λ above inside clear lower to within.
        let at : above ≡ top = omega arith in
        both_ways (is_clear (mark_at marks top)) open' (ap (λ k. is_clear (mark_at marks k)) (sym at) ∙ clear);
  }

  counts_below : is_clear (mark_at marks top) ≡ false → IsSuspect last marks (Some top) call → Counts last marks top call
  counts_below open' suspect =
      let below = below_is last top call suspect.below in
      record {
        from = let later = below.0 in omega arith;
        within = below.1;
        unsaid = suspect.unsaid;
        free = λ above inside clear lower to within. elim (cases_eq top above) [
          | inl e ↦ both_ways (is_clear (mark_at marks top)) open' (ap (λ k. is_clear (mark_at marks k)) e ∙ clear)
          | inr other ↦
              let apart : top ≢ above = other in
              let ends = below.1 in
              suspect.free above inside clear (below_from last top above (omega arith) (omega arith)) to within
        ];
      }

  pub counts_is : counts last marks top call ≡ true → Counts last marks top call
  counts_is h = elim (cases_Bool (is_clear (mark_at marks top))) [
    | inl clear ↦ absurd (both_ways (counts last marks top call) (clear_counts last marks top call clear) h)
    | inr open' ↦
        let here : cond (top == call) (is_unjudged (mark_at marks call)) (is_suspect last marks (Some top) call) ≡ true =
        sym (open_counts last marks top call open') ∙ h in
        elim (cases_Bool (top == call)) [
          | inl e ↦ counts_itself open' (eqb-true top call e) (sym (cond-true (top == call) (is_unjudged (mark_at marks call))
              (is_suspect last marks (Some top) call) e) ∙ here)
          | inr n ↦ counts_below open' (suspect_is last marks (Some top) call (sym (cond-false (top == call) (is_unjudged (mark_at marks call))
              (is_suspect last marks (Some top) call) n) ∙ here))
        ]
  ]

  pub counts_from : Counts last marks top call → counts last marks top call ≡ true
  counts_from counted =
      let open' : is_clear (mark_at marks top) ≡ false =
      false_from_ne_true (is_clear (mark_at marks top)) (λ clear. counted.free top a_call clear (omega arith) counted.from counted.within) in
      open_counts last marks top call open' ∙ elim (cases_Bool (top == call)) [
        | inl e ↦ cond-true (top == call) (is_unjudged (mark_at marks call)) (is_suspect last marks (Some top) call) e ∙ counted.unsaid
        | inr n ↦
            cond-false (top == call) (is_unjudged (mark_at marks call)) (is_suspect last marks (Some top) call) n
            ∙ suspect_from last marks (Some top) call (record {
              below = let apart : top ≢ call = eqb-false top call n in let from = counted.from in below_from last top call (omega arith) counted.within;
              unsaid = counted.unsaid;
              free = λ above inside clear lower to within.
                  let below = below_is last top above lower in
                  counted.free above inside clear (let later = below.0 in omega arith) to within;
            })
      ]
