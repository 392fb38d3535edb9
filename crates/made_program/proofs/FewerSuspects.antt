-- Each answer leaves fewer suspects, so that no more is asked in the end.
use Rattle.std.proofs.Common.{◌+◌, ◌<◌, ◌∙◌, ◌≡◌, ◌≤◌, ℕ, Bool, List, Option, ap, arith, false, filter, length, refl, suc, sym, true, zero}
use Rattle.std.proofs.lemmas.{Bool.true≢false, List.FromFn.length-range_with_len, List.Sums.count_by-le-length, List.Sums.length-filter}
use Rattle.call_tree.specs.{Clear.is_unjudged, declared.records.Mark.Mark}
use Rattle.subtree_weights.specs.Searched.{is_searched, mark_at}
use Rattle.answer_book.specs.{Accused.accused_of, Entries.standing_answers, Marks.marks_of, Numbers.numbers_below}
use Rattle.answer_book.specs.declared.entries.{Entry.Entry, What.What}
use Rattle.optimal_query.specs.{Laws.QuestionIsLeast, Laws.judged, Laws.suspects_in, Region.suspects_of, declared.state.SearchState.SearchState}
use Rattle.optimal_query.specs.declared.state.SearchState.TheVariants.{Ask, Found, Narrowed, NothingWrong, Unclear}
use Rattle.dialog_replies.specs.Subject.{Subject, calls_recorded, state_after}
use Rattle.made_program.proofs.{AgreedMarks.one_more_stands, Answered.as_they_were}
use Rattle.made_program.specs.{Asked.asks, Laws.IsSmallTree}
use Rattle.made_program.specs.Answering.{answered_to, entries_answered, entries_at_end, judgement_of, most_answers}

filtered_few : (p : ℕ → Bool) (xs : List ℕ) → length (filter p xs) ≤ length xs
filtered_few p xs = omega (arith, length-filter p xs, count_by-le-length p xs)

-- no more suspects than calls
suspects_few : (last : List ℕ) (marks : List Mark) (accused : Option ℕ) → length (suspects_of last marks accused) ≤ length last
unfolding suspects_of
suspects_few last marks accused =
    let region = filter (is_searched last marks accused) (numbers_below (length last)) in
    omega (
      arith,
      filtered_few (λ call. is_unjudged (mark_at marks call)) region,
      filtered_few (is_searched last marks accused) (numbers_below (length last)),
      length-range_with_len 0 (length last),
    )

-- what is asked
pub record Question (state : SearchState) : Type 0 where
  pub call : ℕ
  pub weight : ℕ
  pub suspects : ℕ
  pub left : ℕ
  pub is : state ≡ Ask call weight suspects left

question_in : (state : SearchState) → asks state ≡ true → Question state
question_in (Ask call weight suspects left) h = record { call = call; weight = weight; suspects = suspects; left = left; is = refl }
question_in (Found call) h = absurd (let l : ⊥ = cc in l)
question_in (Narrowed call) h = absurd (let l : ⊥ = cc in l)
question_in NothingWrong h = absurd (let l : ⊥ = cc in l)
question_in Unclear h = absurd (let l : ⊥ = cc in l)

-- the suspects after entries
abbrev pub suspects_left : Subject → List Entry → ℕ
suspects_left s entries = length (suspects_in s.tree (standing_answers entries))

-- an answer leaves fewer
fewer : (s : Subject) (entries : List Entry) → IsSmallTree s → QuestionIsLeast → asks (state_after s entries) ≡ true
    → suspects_left s (answered_to s entries (state_after s entries)) < suspects_left s entries
fewer s entries small least asked =
    let q = question_in (state_after s entries) asked in
    let answers = standing_answers entries in
    let told = least s.tree answers q.call q.weight q.suspects q.left small.tree q.is in
    let after : suspects_left s (answered_to s entries (state_after s entries)) ≡ length (suspects_in s.tree (judged answers q.call (judgement_of s q.call))) =
    ap (λ (state : SearchState). suspects_left s (answered_to s entries state)) q.is
    ∙ ap (λ (said : List What). length (suspects_in s.tree said)) (one_more_stands entries q.call (judgement_of s q.call)) in
    omega (arith, after, told.1.fewer (judgement_of s q.call), told.1.all_suspects)

-- where something is asked there is a suspect
one_left : (s : Subject) (entries : List Entry) → IsSmallTree s → QuestionIsLeast → asks (state_after s entries) ≡ true → 0 < suspects_left s entries
one_left s entries small least asked =
    let q = question_in (state_after s entries) asked in
    let told = least s.tree (standing_answers entries) q.call q.weight q.suspects q.left small.tree q.is in
    let among = told.0.a_suspect in
    let inside : among.0 < suspects_left s entries = among.1 in
    omega arith

-- each answer so far took one away
falls_by : (s : Subject) (n : ℕ) (b : Bool) → IsSmallTree s → QuestionIsLeast → asks (state_after s (entries_answered s n)) ≡ b
    → (asks (state_after s (entries_answered s n)) ≡ true → suspects_left s (entries_answered s n) + n ≤ calls_recorded s)
    → asks (state_after s (entries_answered s (suc n))) ≡ true → suspects_left s (entries_answered s (suc n)) + suc n ≤ calls_recorded s
unfolding entries_answered
falls_by s n true small least asked before now =
    omega (arith, before asked, fewer s (entries_answered s n) small least asked)
falls_by s n false small least none before now =
    let same = as_they_were s (entries_answered s n) (state_after s (entries_answered s n)) none in
    absurd (true≢false (sym now ∙ ap (λ (es : List Entry). asks (state_after s es)) same ∙ none))

falls : (s : Subject) (n : ℕ) → IsSmallTree s → QuestionIsLeast → asks (state_after s (entries_answered s n)) ≡ true
    → suspects_left s (entries_answered s n) + n ≤ calls_recorded s
falls s zero small least asked =
    omega (
      arith,
      suspects_few s.tree.last (marks_of s.tree.routine (standing_answers (entries_answered s zero)))
          (accused_of s.tree.routine (standing_answers (entries_answered s zero))),
    )
falls s (suc n) small least asked =
    falls_by s n (asks (state_after s (entries_answered s n))) small least refl (λ before. falls s n small least before) asked

none_by : (s : Subject) (n : ℕ) (b : Bool) → IsSmallTree s → QuestionIsLeast → calls_recorded s ≤ n → asks (state_after s (entries_answered s n)) ≡ b
    → asks (state_after s (entries_answered s n)) ≡ false
none_by s n false small least many is = is
none_by s n true small least many is =
    absurd (omega (arith, falls s n small least is, one_left s (entries_answered s n) small least is))

-- so nothing is asked in the end
pub none_at_end : (s : Subject) → IsSmallTree s → QuestionIsLeast → asks (state_after s (entries_at_end s)) ≡ false
unfolding most_answers
none_at_end s small least =
    none_by s most_answers (asks (state_after s (entries_at_end s))) small least (omega (arith, small.few)) refl
