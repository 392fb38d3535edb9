-- The call that is found in the end is the one at fault.
use Rattle.std.proofs.Common.{◌+◌, ◌<◌, ◌∙◌, ◌∷◌, ◌≡◌, ◌≤◌, [], ℕ, Bool, List, None, Option, Some, ap, arith, cond, false, filter, inl, inr, length, map}
use Rattle.std.proofs.Common.{nat_le, refl, slice_index, slice_index_or, subst, suc, sym, true, zero}
use Rattle.std.proofs.lemmas.Bool.{and_from, and_parts, cases_eq, le-leb, leb-true, true≢false}
use Rattle.call_tree.specs.{Clear.is_unknown, Numbering.IsParent, declared.records.Mark.Mark, declared.records.Mark.TheVariants.Unjudged}
use Rattle.subtree_weights.specs.Searched.{is_in, is_searched, mark_at}
use Rattle.answer_book.specs.{Accused.accused_of, Entries.standing_answers, Marks.mark_of, Marks.marks_of, Numbers.numbers_below, declared.entries.What.What}
use Rattle.optimal_query.specs.{Narrowing.AgreesWithMarks, Narrowing.FoundIsBuggy, Narrowing.IsBuggy, Question.question_of, Region.doubts_of, State.state_by}
use Rattle.optimal_query.specs.{State.state_with, State.verdict_by, declared.state.SearchState.SearchState, declared.state.SearchState.TheVariants.Found}
use Rattle.optimal_query.specs.Laws.{NothingWrongIsNothing, QuestionIsLeast, doubts_in, mark_in, state_in, suspects_in}
use Rattle.dialog_replies.specs.Subject.{Subject, calls_recorded}
use Rattle.made_program.proofs.AgreedMarks.{AreAgreed, agreed, fair_clear, fair_known, fair_wrong}
use Rattle.made_program.proofs.FewerSuspects.{none_at_end}
use Rattle.made_program.specs.{Answering.call_at_fault, Answering.entries_at_end, Answering.most_answers, Asked.asks, Laws.FaultIsFound, Laws.IsSmallTree}

-- ---- nothing is in doubt

known_at : (f : ℕ → Mark) (xs : List ℕ) (k : ℕ) → ((x : ℕ) → is_unknown (f x) ≡ false) → is_unknown (slice_index_or (map f xs) k Unjudged) ≡ false
known_at f [] k known = refl
known_at f (x ∷ xs) zero known = known x
known_at f (x ∷ xs) (suc k) known = known_at f xs k known

none_kept : (p : ℕ → Bool) (xs : List ℕ) → ((x : ℕ) → p x ≡ false) → filter p xs ≡ []
none_kept p [] none = refl
none_kept p (x ∷ xs) none = ap (λ (b : Bool). cond b (x ∷ filter p xs) (filter p xs)) (none x) ∙ none_kept p xs none

no_doubt : (s : Subject) (answers : List What) → AreAgreed s answers → doubts_in s.tree answers ≡ []
unfolding doubts_of
no_doubt s answers are =
    let marks = marks_of s.tree.routine answers in
    none_kept (λ call. is_unknown (mark_at marks call))
    (filter (is_searched s.tree.last marks (accused_of s.tree.routine answers)) (numbers_below (length s.tree.last)))
    (λ call. known_at (mark_of s.tree.routine answers) (numbers_below (length s.tree.routine)) call
    (λ k. fair_known (mark_in s.tree answers k) (is_in s.tree.last k (call_at_fault s)) (are.fair k)))

-- ---- the verdict

verdict_of : (last suspects : List ℕ) (question : Option ℕ) (verdict : SearchState) → asks (state_by last suspects question verdict) ≡ false
    → state_by last suspects question verdict ≡ verdict
verdict_of last suspects None verdict none = refl
verdict_of last suspects (Some call) verdict none = absurd (true≢false none)

ends_in : (s : Subject) (answers : List What) → asks (state_in s.tree answers) ≡ false
    → state_in s.tree answers ≡ verdict_by (accused_of s.tree.routine answers) (doubts_in s.tree answers)
unfolding state_with
ends_in s answers none =
    verdict_of s.tree.last (suspects_in s.tree answers) (question_of s.tree.last (suspects_in s.tree answers))
    (verdict_by (accused_of s.tree.routine answers) (doubts_in s.tree answers)) none

found_by : (s : Subject) (answers : List What) (accused : Option ℕ) → IsSmallTree s → NothingWrongIsNothing → AreAgreed s answers
    → state_in s.tree answers ≡ verdict_by accused [] → (call : ℕ) × (state_in s.tree answers ≡ Found call)
found_by s answers (Some call) small nothing are h = (call, h)
found_by s answers None small nothing are h =
    let is = nothing s.tree answers small.tree h in
    absurd (is.none_wrong 0 (omega (arith, small.rooted)) are.root)

-- ---- a call that has the fault in its subtree, and no child that has

has_fault : (s : Subject) (call : ℕ) → is_in s.tree.last call (call_at_fault s) ≡ true → (call ≤ call_at_fault s)
    × (call_at_fault s ≤ slice_index s.tree.last call)
has_fault s call h =
    let parts = and_parts (nat_le call (call_at_fault s)) (nat_le (call_at_fault s) (slice_index s.tree.last call)) h in
    (leb-true call (call_at_fault s) parts.0, leb-true (call_at_fault s) (slice_index s.tree.last call) parts.1)

-- it stands between a call and the fault
pub record IsBetween (s : Subject) (top call : ℕ) : Type 0 where
  pub below : top < call
  pub within : call ≤ slice_index s.tree.last top
  pub from : call ≤ call_at_fault s
  pub to : call_at_fault s ≤ slice_index s.tree.last call

-- then a child of the first has the fault in its subtree
child_with : (s : Subject) (fuel top call : ℕ) → IsSmallTree s → call ≤ top + fuel → IsBetween s top call
    → (child : ℕ) × IsParent s.tree.parent top child × (child ≤ call_at_fault s) × (call_at_fault s ≤ slice_index s.tree.last child)
child_with s zero top call small near b = absurd (omega (arith, b.below))
child_with s (suc fuel) top call small near b =
    let numbered = small.tree.numbered in
    let above = numbered.parent_is_within top call b.below b.within in
    let child_of : IsParent s.tree.parent above.0 call = above.2 in
    let from_top : top ≤ above.0 = above.1 in
    let later = numbered.child_is_later above.0 call child_of in
    let ends = numbered.child_ends_within above.0 call child_of in
    elim (cases_eq above.0 top) [
      | inl same ↦ (call, subst (λ (k : ℕ). IsParent s.tree.parent k call) same child_of, b.from, b.to)
      | inr differs ↦ child_with s fuel top above.0 small (omega arith) (record {
        below = omega arith;
        within = omega (arith, b.within);
        from = omega (arith, b.from);
        to = omega (arith, b.to);
      })
    ]

is_the_fault : (s : Subject) (call : ℕ) → IsSmallTree s → IsBuggy s.tree (λ k. is_in s.tree.last k (call_at_fault s)) call → call ≡ call_at_fault s
is_the_fault s call small buggy =
    let bounds = has_fault s call buggy.wrong in
    let fault = call_at_fault s in
    let inside : fault < calls_recorded s = omega (arith, small.rooted) in
    elim (cases_eq call fault) [
      | inl same ↦ same
      | inr differs ↦
          let there = child_with s fault call fault small (omega arith) (record {
            below = omega (arith, bounds.0);
            within = bounds.1;
            from = omega arith;
            to = small.tree.numbered.intervals.from_itself fault inside;
          }) in
          let has : is_in s.tree.last there.0 fault ≡ true =
          and_from (nat_le there.0 fault) (nat_le fault (slice_index s.tree.last there.0)) (le-leb there.0 fault there.2)
          (le-leb fault (slice_index s.tree.last there.0) there.3) in
          absurd (true≢false (sym has ∙ buggy.children_right there.0 there.1))
    ]

agrees : (s : Subject) (answers : List What) → AreAgreed s answers → AgreesWithMarks s.tree answers (λ k. is_in s.tree.last k (call_at_fault s))
agrees s answers are = record {
  clear = λ call inside clear. fair_clear (mark_in s.tree answers call) (is_in s.tree.last call (call_at_fault s)) (are.fair call) clear;
  wrong = λ call inside wrong. fair_wrong (mark_in s.tree answers call) (is_in s.tree.last call (call_at_fault s)) (are.fair call) wrong;
}

-- the laws of the search that this rests on
pub record SearchLaws : Type 0 where
  pub least : QuestionIsLeast
  pub nothing : NothingWrongIsNothing
  pub buggy : FoundIsBuggy

found_in : (s : Subject) (answers : List What) → IsSmallTree s → SearchLaws → AreAgreed s answers → asks (state_in s.tree answers) ≡ false
    → state_in s.tree answers ≡ Found (call_at_fault s)
found_in s answers small laws are none =
    let verdict = ends_in s answers none ∙ ap (λ (ds : List ℕ). verdict_by (accused_of s.tree.routine answers) ds) (no_doubt s answers are) in
    let found = found_by s answers (accused_of s.tree.routine answers) small laws.nothing are verdict in
    let buggy = laws.buggy s.tree answers found.0 (λ k. is_in s.tree.last k (call_at_fault s)) small.tree found.1 (agrees s answers are) in
    found.1 ∙ ap Found (is_the_fault s found.0 small buggy)

pub fault_found : SearchLaws → FaultIsFound
fault_found laws = λ s small.
    found_in s (standing_answers (entries_at_end s)) small laws (agreed s most_answers small) (none_at_end s small laws.least)
