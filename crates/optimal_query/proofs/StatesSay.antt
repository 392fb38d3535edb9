-- What each state of the search says.
use Rattle.std.proofs.Common.{◌&&◌, ◌<◌, ◌∙◌, ◌∷◌, ◌≡◌, ◌≢◌, ◌≤◌, [], ℕ, Bool, Contains, List, None, Option, Some, ap, arith, false, filter, find, get_or, inl}
use Rattle.std.proofs.Common.{inr, length, nat_le, refl, slice_index, sym, true}
use Rattle.std.{proofs.lemmas.List.Elements.Contains-get_or, proofs.lemmas.List.Folds.list_all_at, specs.List.list_all}
use Rattle.std.proofs.lemmas.Bool.{and_from, and_parts, both_ways, cases_order, leb-true}
use Rattle.call_tree.specs.Clear.{is_unjudged}
use Rattle.subtree_weights.specs.Searched.{is_in}
use Rattle.answer_book.specs.{Accused.accused_of, Marks.marks_of, Numbers.numbers_below, declared.entries.What.What}
use Rattle.answer_book.specs.declared.entries.Judgement.{Judgement, TheVariants.Right, TheVariants.Unknown, TheVariants.Wrong}
use Rattle.optimal_query.proofs.{AnswersLeave.answers_leave, LeastExists.at_most_all}
use Rattle.optimal_query.proofs.PassingNumbers.{contains_of_passes, counts_one, find_filter, first_is, passes_of_contains}
use Rattle.optimal_query.proofs.Searched.{in_from, is_marked, suspected_of, suspects_are}
use Rattle.optimal_query.specs.{Question.leaves_least, Question.left_of, Question.question_of, Question.weight_of, State.state_by, State.state_with}
use Rattle.optimal_query.specs.{State.verdict_by, declared.state.SearchState.SearchState, declared.state.SearchState.TheVariants.Ask}
use Rattle.optimal_query.specs.Laws.{CallTree, IsAsked, IsCallTree, IsOptimal, doubts_in, left_after, state_in, suspects_in, worse_leaves}

-- what a state of the search is made of
pub record Parts (calls : CallTree) (answers : List What) (state : SearchState) : Type 0 where
  pub is : state_by calls.last (suspects_in calls answers) (question_of calls.last (suspects_in calls answers))
      (verdict_by (accused_of calls.routine answers) (doubts_in calls answers)) ≡ state

pub parts_of : (calls : CallTree) (answers : List What) (state : SearchState) → state_in calls answers ≡ state → Parts calls answers state
unfolding state_with
parts_of calls answers state h = record { is = h }

not_asked : (accused : Option ℕ) (doubts : List ℕ) (call weight many left : ℕ) → verdict_by accused doubts ≡ Ask call weight many left → ⊥
not_asked (Some a) [] call weight many left h = cc
not_asked (Some a) (d ∷ ds) call weight many left h = cc
not_asked None [] call weight many left h = cc
not_asked None (d ∷ ds) call weight many left h = cc

-- a question with its numbers
pub record Asks (last suspects : List ℕ) (question : Option ℕ) (call weight many left : ℕ) : Type 0 where
  pub question_is : question ≡ Some call
  pub weight_is : weight ≡ weight_of last suspects call
  pub many_is : many ≡ length suspects
  pub left_is : left ≡ left_of last suspects call

ask_cases : (last suspects : List ℕ) (q : Option ℕ) (accused : Option ℕ) (doubts : List ℕ) (call weight many left : ℕ)
    → state_by last suspects q (verdict_by accused doubts) ≡ Ask call weight many left → Asks last suspects q call weight many left
ask_cases last suspects None accused doubts call weight many left h = absurd (not_asked accused doubts call weight many left h)
ask_cases last suspects (Some c) accused doubts call weight many left h =
    let same : c ≡ call = cc in
    let its_weight : weight ≡ weight_of last suspects c = cc in
    let all_of_them : many ≡ length suspects = cc in
    let its_left : left ≡ left_of last suspects c = cc in
    record {
      question_is = ap Some same;
      weight_is = its_weight ∙ ap (weight_of last suspects) same;
      many_is = all_of_them;
      left_is = its_left ∙ ap (left_of last suspects) same;
    }

-- with a verdict there is no question
pub record Ends (question accused : Option ℕ) (doubts : List ℕ) (verdict : SearchState) : Type 0 where
  pub no_question : question ≡ None
  pub verdict_is : verdict_by accused doubts ≡ verdict

end_cases : (last suspects : List ℕ) (q : Option ℕ) (accused : Option ℕ) (doubts : List ℕ) (state : SearchState)
    → ((call weight many left : ℕ) → Ask call weight many left ≢ state)
    → state_by last suspects q (verdict_by accused doubts) ≡ state → Ends q accused doubts state
end_cases last suspects None accused doubts state differs h = record { no_question = refl; verdict_is = h }
end_cases last suspects (Some c) accused doubts state differs h =
    absurd (differs c (weight_of last suspects c) (length suspects) (left_of last suspects c) h)

pub asks : (calls : CallTree) (answers : List What) (call weight many left : ℕ) → state_in calls answers ≡ Ask call weight many left
    → Asks calls.last (suspects_in calls answers) (question_of calls.last (suspects_in calls answers)) call weight many left
asks calls answers call weight many left h =
    let parts = parts_of calls answers (Ask call weight many left) h in
    ask_cases calls.last (suspects_in calls answers) (question_of calls.last (suspects_in calls answers)) (accused_of calls.routine answers)
    (doubts_in calls answers) call weight many left parts.is

pub ends : (calls : CallTree) (answers : List What) (state : SearchState) → ((call weight many left : ℕ) → Ask call weight many left ≢ state)
    → state_in calls answers ≡ state
    → Ends (question_of calls.last (suspects_in calls answers)) (accused_of calls.routine answers) (doubts_in calls answers) state
ends calls answers state differs h =
    let parts = parts_of calls answers state h in
    end_cases calls.last (suspects_in calls answers) (question_of calls.last (suspects_in calls answers)) (accused_of calls.routine answers)
    (doubts_in calls answers) state differs parts.is

-- the question is the first suspect that leaves the least
pub record First (last suspects : List ℕ) (call : ℕ) : Type 0 where
  pub among : Contains suspects call
  pub least : leaves_least last suspects call ≡ true
  pub first : (other : ℕ) → Contains suspects other → leaves_least last suspects other ≡ true → call ≤ other

pub first_of : (p : ℕ → Bool) (n : ℕ) (last suspects : List ℕ) (call : ℕ) → suspects ≡ filter p (numbers_below n)
    → question_of last suspects ≡ Some call → First last suspects call
unfolding question_of
first_of p n last suspects call are h =
    let test = leaves_least last suspects in
    let found = first_is (λ k. p k && test k) 0 n call (sym (find_filter test p (numbers_below n)) ∙ sym (ap (find test) are) ∙ h) in
    let both = and_parts (p call) (test call) found.passes in
    let inside : call < n = omega (arith, found.inside) in
    record {
      among = rw are (contains_of_passes p n call inside both.0);
      least = both.1;
      first = λ other among least. elim (cases_order other call) [
        | inl same ↦ omega arith
        | inr (inl less) ↦
            let there = passes_of_contains p n other (rw are at among) in
            absurd (both_ways (p other && test other) (found.none_earlier other (omega arith) less) (and_from (p other) (test other) there.1 least))
        | inr (inr more) ↦ omega arith
      ];
    }

least_by : (last suspects : List ℕ) (call k d : ℕ) → k < length suspects → leaves_least last suspects call ≡ true → (b : Bool)
    → nat_le (left_of last suspects call) (left_of last suspects (get_or suspects k d)) ≡ b
    → left_of last suspects call ≤ left_of last suspects (get_or suspects k d)
least_by last suspects call k d inside least true is = leb-true (left_of last suspects call) (left_of last suspects (get_or suspects k d)) is
least_by last suspects call k d inside least false is =
    let test : ℕ → Bool = λ other. nat_le (left_of last suspects call) (left_of last suspects other) in
    absurd (both_ways (leaves_least last suspects call) (list_all_at test suspects k d inside is) least)

-- what the worse answer on a suspect leaves is the measure
worse_is : (calls : CallTree) (answers : List What) (call : ℕ) → IsCallTree calls → Contains (suspects_in calls answers) call
    → worse_leaves calls answers call ≡ left_of calls.last (suspects_in calls answers) call
worse_is calls answers call are among =
    let leave = answers_leave calls answers call are among in
    omega (arith, leave.wrong, leave.right)

pub question_is_least : (calls : CallTree) (answers : List What) (call weight suspects left : ℕ) → IsCallTree calls
    → state_in calls answers ≡ Ask call weight suspects left → IsOptimal calls answers call left
question_is_least calls answers call weight many left are h =
    let last = calls.last in
    let suspects = suspects_in calls answers in
    let marks = marks_of calls.routine answers in
    let accused = accused_of calls.routine answers in
    let asked = asks calls answers call weight many left h in
    let first = first_of (is_marked is_unjudged last marks accused) (length last) last suspects call (suspects_are last marks accused) asked.question_is in
    record {
      a_suspect = first.among;
      its_own = asked.left_is ∙ sym (worse_is calls answers call are first.among);
      none_leaves_fewer = λ k d inside.
          let other = get_or suspects k d in
          let worse = worse_is calls answers other are (Contains-get_or suspects k d inside) in
          let least = least_by last suspects call k d inside first.least (nat_le (left_of last suspects call) (left_of last suspects other)) refl in
          omega (arith, worse, least, asked.left_is);
      first_of_equals = λ k d inside same.
          let other = get_or suspects k d in
          let among = Contains-get_or suspects k d inside in
          let e : left_of last suspects other ≡ left_of last suspects call = sym (worse_is calls answers other are among) ∙ same ∙ asked.left_is in
          first.first other among (ap (λ v. list_all (λ m. nat_le v (left_of last suspects m)) suspects) e ∙ first.least);
    }

weighs_one : (last suspects : List ℕ) (call : ℕ) → call ≤ slice_index last call → Contains suspects call → 1 ≤ weight_of last suspects call
unfolding weight_of
weighs_one last suspects call itself among =
    counts_one (is_in last call) suspects among.0 call among.1 (ap (is_in last call) among.2 ∙ in_from last call call (omega arith) itself)

each_leaves_fewer : (calls : CallTree) (answers : List What) (call : ℕ) → IsCallTree calls → Contains (suspects_in calls answers) call
    → (answer : Judgement) → left_after calls answers call answer < length (suspects_in calls answers)
each_leaves_fewer calls answers call are among Wrong =
    let leave = answers_leave calls answers call are among in
    omega (arith, leave.wrong, at_most_all calls.last (suspects_in calls answers) call)
each_leaves_fewer calls answers call are among Right =
    let leave = answers_leave calls answers call are among in
    let suspect = suspected_of calls.last (marks_of calls.routine answers) (accused_of calls.routine answers) call among in
    let one = weighs_one calls.last (suspects_in calls answers) call (are.numbered.intervals.from_itself call suspect.a_call) among in
    omega (arith, leave.right, one)
each_leaves_fewer calls answers call are among Unknown =
    let leave = answers_leave calls answers call are among in
    omega (arith, leave.unknown)

pub question_is_asked : (calls : CallTree) (answers : List What) (call weight suspects left : ℕ) → IsCallTree calls
    → state_in calls answers ≡ Ask call weight suspects left → IsAsked calls answers call weight suspects
question_is_asked calls answers call weight many left are h =
    let asked = asks calls answers call weight many left h in
    let least = question_is_least calls answers call weight many left are h in
    record {
      its_weight = asked.weight_is;
      all_suspects = asked.many_is;
      fewer = λ answer. let fewer = each_leaves_fewer calls answers call are least.a_suspect answer in omega (arith, fewer, asked.many_is);
    }
