-- The marks of the calls of one routine are looked up anew, from the first such call to the last.
use Rattle.std.proofs.Common.{◌+◌, ◌<◌, ◌∙◌, ◌≡◌, ◌≢◌, ◌≤◌, ℕ, List, None, Some, add-one, ap, arith, get_or-set_other, get_or-set_same, inl, inr, length, refl}
use Rattle.std.proofs.Common.{slice_index, slice_set, suc, sum_by, sym, zero}
use Rattle.std.proofs.lemmas.Bool.{cases_eq, cases_lt, cond-false, cond-true, eq-eqb, ne_eqb, true≢false}
use Rattle.std.proofs.lemmas.List.{length-set, FromFn.fill_by_all, Sums.sum_by_push}
use Rattle.call_tree.specs.declared.records.Mark.{Mark, TheVariants.Unjudged}
use Rattle.weight_lanes.specs.{Answers.IsNext, Places.Holds}
use Rattle.subtree_weights.specs.{Searched.mark_at, Weighed.Weighed, Weighed.with_marks}
use Rattle.answer_book.specs.{Answers.Answers, Entries.standing_answers, Marks.mark_of, Marks.marks_of, Numbers.numbers_below}
use Rattle.optimal_query.proofs.PassingNumbers.{numbers_suc}
use Rattle.optimal_query.specs.Changed.{ChangesCallsOf, way_up, ways_up}

-- each call before `from` has its mark, and so has each call of another routine
pub record AreUpTo (book : Answers) (marks : List Mark) (routine from : ℕ) : Type 0 where
  pub each : length marks ≡ length book.routine
  pub before : (call : ℕ) → call < length book.routine → call < from → mark_at marks call ≡ mark_of book.routine (standing_answers book.entries) call
  pub others : (call : ℕ) → call < length book.routine → slice_index book.routine call ≢ routine
      → mark_at marks call ≡ mark_of book.routine (standing_answers book.entries) call

pub up_to_none : {book : Answers} {marks : List Mark} {routine : ℕ} → ChangesCallsOf book marks routine → AreUpTo book marks routine 0
up_to_none changes = record {
  each = changes.each;
  before = λ call inside early. absurd (let l : ⊥ = omega arith in l);
  others = changes.others_stay;
}

-- the next call of the routine gets its mark
pub up_to_next : {book : Answers} {marks : List Mark} {routine from : ℕ} (place : ℕ) (mark : Mark) → AreUpTo book marks routine from
    → IsNext book.routine from routine (Some place) → mark ≡ mark_of book.routine (standing_answers book.entries) place
    → AreUpTo book (slice_set marks place mark) routine (place + 1)
up_to_next {book} {marks} {routine} {from} place mark up next is =
    let own = mark_of book.routine (standing_answers book.entries) in
    let here = next.holds in
    let inside : place < length marks = omega (arith, here.inside, up.each) in
    record {
      each = length-set marks place mark ∙ up.each;
      before = λ call within early. elim (cases_eq call place) [
        | inl same ↦
            ap (mark_at (slice_set marks place mark)) same ∙ get_or-set_same marks place mark Unjudged inside ∙ is ∙ ap own (sym same)
        | inr differs ↦
            get_or-set_other marks place call mark Unjudged differs
            ∙ elim (cases_lt call from) [
              | inl earlier ↦ up.before call within earlier
              | inr later ↦
                  up.others call within
                  (λ e. let after = next.least call later (record { inside = within; same = e }) in differs (omega arith))
            ]
      ];
      others = λ call within other.
          get_or-set_other marks place call mark Unjudged (λ same. other (ap (slice_index book.routine) same ∙ here.same)) ∙ up.others call within other;
    }

-- where there is no further one each call has its mark
pub up_to_all : {book : Answers} {marks : List Mark} {routine from : ℕ} → AreUpTo book marks routine from → IsNext book.routine from routine None
    → marks ≡ marks_of book.routine (standing_answers book.entries)
up_to_all {book} {marks} {routine} {from} up last =
    fill_by_all (mark_of book.routine (standing_answers book.entries)) marks (length book.routine) Unjudged up.each
    (λ call within. elim (cases_lt call from) [
      | inl earlier ↦ up.before call within earlier
      | inr later ↦ up.others call within (λ e. last.none.0 refl call later (record { inside = within; same = e }))
    ])

-- each call before `from` has its mark
pub record AreBefore (book : Answers) (marks : List Mark) (from : ℕ) : Type 0 where
  pub each : length marks ≡ length book.routine
  pub before : (call : ℕ) → call < from → mark_at marks call ≡ mark_of book.routine (standing_answers book.entries) call

-- the next call gets its mark
pub before_next : {book : Answers} {marks : List Mark} {from : ℕ} (mark : Mark) → AreBefore book marks from → from < length marks
    → mark ≡ mark_of book.routine (standing_answers book.entries) from → AreBefore book (slice_set marks from mark) (from + 1)
before_next {book} {marks} {from} mark are inside is =
    let own = mark_of book.routine (standing_answers book.entries) in
    record {
      each = length-set marks from mark ∙ are.each;
      before = λ call early. elim (cases_eq call from) [
        | inl same ↦
            ap (mark_at (slice_set marks from mark)) same ∙ get_or-set_same marks from mark Unjudged inside ∙ is ∙ ap own (sym same)
        | inr differs ↦ get_or-set_other marks from call mark Unjudged differs ∙ are.before call (omega arith)
      ];
    }

-- after the last one all have theirs
pub before_all : {book : Answers} {marks : List Mark} {from : ℕ} → AreBefore book marks from → length marks ≤ from
    → marks ≡ marks_of book.routine (standing_answers book.entries)
before_all {book} {marks} {from} are end =
    fill_by_all (mark_of book.routine (standing_answers book.entries)) marks (length book.routine) Unjudged are.each
    (λ call within. are.before call (omega (arith, are.each)))

sum_more : (f : ℕ → ℕ) (n : ℕ) → sum_by f (numbers_below (suc n)) ≡ sum_by f (numbers_below n) + f n
sum_more f n = ap (λ (l : List ℕ). sum_by f l) (numbers_suc n) ∙ sum_by_push f (numbers_below n) n

-- numbers of which a function gives 0 add nothing
sum_stays : (f : ℕ → ℕ) (from to : ℕ) → from ≤ to → ((k : ℕ) → from ≤ k → k < to → f k ≡ 0)
    → sum_by f (numbers_below to) ≡ sum_by f (numbers_below from)
sum_stays f from zero order none = let e : from ≡ 0 = omega arith in ap (λ n. sum_by f (numbers_below n)) (sym e)
sum_stays f from (suc to) order none = elim (cases_eq from (suc to)) [
  | inl e ↦ ap (λ n. sum_by f (numbers_below n)) (sym e)
  | inr differs ↦
      let apart : from ≢ suc to = differs in
      let here = none to (omega arith) (omega arith) in
      sum_more f to ∙ omega (arith, here) ∙ sum_stays f from to (omega arith) (λ k at below. none k at (omega arith))
]

other_way : (depth routines : List ℕ) (wanted call : ℕ) → (slice_index routines call ≡ wanted → ⊥) → way_up depth routines wanted call ≡ 0
other_way depth routines wanted call other = cond-false _ _ _ (ne_eqb (slice_index routines call) wanted other)

pub no_ways : (depth routines : List ℕ) (wanted : ℕ) → ways_up depth routines wanted 0 ≡ 0
unfolding ways_up
no_ways depth routines wanted = refl

-- the ways up as far as the next call of the routine
pub ways_to_next : (depth : List ℕ) {routines : List ℕ} {wanted from : ℕ} (place : ℕ) → IsNext routines from wanted (Some place)
    → ways_up depth routines wanted (place + 1) ≡ ways_up depth routines wanted from + (slice_index depth place + 1)
unfolding ways_up
ways_to_next depth {routines} {wanted} {from} place next =
    let f = way_up depth routines wanted in
    let found = next.holds in
    let stays = sum_stays f from place next.at_least
    (λ call at below. other_way depth routines wanted call
    (λ e. let after = next.least call at (record { inside = omega (arith, found.inside); same = e }) in omega arith)) in
    let here : f place ≡ slice_index depth place + 1 = cond-true _ _ _ (eq-eqb (slice_index routines place) wanted found.same) in
    ap (λ n. sum_by f (numbers_below n)) (add-one place) ∙ sum_more f place ∙ ap (λ t. t + f place) stays
    ∙ ap (λ t. sum_by f (numbers_below from) + t) here

-- and where there is no further one, of all calls
pub ways_to_end : (depth : List ℕ) {routines : List ℕ} {wanted from : ℕ} → from ≤ length routines → IsNext routines from wanted None
    → ways_up depth routines wanted (length routines) ≡ ways_up depth routines wanted from
unfolding ways_up
ways_to_end depth {routines} {wanted} {from} within last =
    sum_stays (way_up depth routines wanted) from (length routines) within
    (λ call at below. other_way depth routines wanted call (λ e. last.none.0 refl call at (record { inside = below; same = e })))

-- the ways up of more calls are no fewer
pub ways_rise : (depth routines : List ℕ) (wanted from to : ℕ) → from ≤ to → ways_up depth routines wanted from ≤ ways_up depth routines wanted to
unfolding ways_up
ways_rise depth routines wanted from zero order = let e : from ≡ 0 = omega arith in rw e (omega arith)
ways_rise depth routines wanted from (suc to) order = elim (cases_eq from (suc to)) [
  | inl e ↦ rw e (omega arith)
  | inr differs ↦
      let apart : from ≢ suc to = differs in
      let f = way_up depth routines wanted in
      let before : sum_by f (numbers_below from) ≤ sum_by f (numbers_below to) = ways_rise depth routines wanted from to (omega arith) in
      omega (arith, before, sum_more f to)
]

-- calls with the same columns, and these marks
pub with_these : (one other : Weighed) {marks : List Mark} → one.columns ≡ other.columns → one.marks ≡ marks → one ≡ with_marks other marks
with_these one other columns marks = λ i. record { columns = columns i; marks = marks i }

-- a call of the routine is the next one from itself on
pub next_here : (routines : List ℕ) (wanted from : ℕ) → Holds routines wanted from → IsNext routines from wanted (Some from)
next_here routines wanted from here = record {
  none = (λ never. absurd (true≢false never), λ nowhere. absurd (nowhere from (omega arith) here));
  holds = here;
  at_least = omega arith;
  least = λ other at found. at;
}
