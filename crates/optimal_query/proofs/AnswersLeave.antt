-- What each answer on a suspect leaves.
use Rattle.std.proofs.Common.{◌&&◌, ◌+◌, ◌<◌, ◌==◌, ◌∙◌, ◌≡◌, ℕ, Bool, Contains, List, Option, Some, ap, arith, false, filter, inl, inr, length, not, refl, sym}
use Rattle.std.proofs.{Common.true, Math.Bool.and-true, lemmas.List.Filters.length-filter_both}
use Rattle.std.proofs.lemmas.Bool.{and_from, and_right, cases_eq, eq-eqb, ne_eqb, not_from_false, not_from_true}
use Rattle.call_tree.specs.{Clear.is_unjudged, Numbering.IsNumbered, declared.records.Mark.Mark, declared.records.Mark.TheVariants.Unjudged}
use Rattle.subtree_weights.specs.Searched.{is_in, is_searched, mark_at}
use Rattle.answer_book.specs.{Accused.accused_of, Marks.mark_by, Marks.mark_of, Marks.marks_of, Numbers.numbers_below, declared.entries.What.What}
use Rattle.answer_book.specs.declared.entries.Judgement.{Judgement, TheVariants.Right, TheVariants.Unknown, TheVariants.Wrong}
use Rattle.optimal_query.proofs.OneMoreAnswer.{Changes, accused_kept, accused_wrong, at_mark, changes, kept_test, right_test, weight_is, wrong_test}
use Rattle.optimal_query.proofs.PassingNumbers.{filter_filter, filter_same, one_more}
use Rattle.optimal_query.proofs.Searched.{Suspected, in_from, is_marked, searched_from, suspected_of, suspects_are}
use Rattle.optimal_query.specs.{Question.weight_of, Region.suspects_of, State.suspects_after}
use Rattle.optimal_query.specs.Laws.{CallTree, IsCallTree, LeaveWhatIsCounted, judged, suspects_in}

exchanged : (a k u : Bool) → ((a && k) && u) ≡ ((a && u) && k)
exchanged true true true = refl
exchanged true true false = refl
exchanged true false true = refl
exchanged true false false = refl
exchanged false k u = refl

-- one call is no longer unjudged, and of the others those are searched that the test keeps
pub record Keeps (last : List ℕ) (old new : List Mark) (accused after : Option ℕ) (call : ℕ) (keep : ℕ → Bool) : Type 0 where
  pub judged : is_unjudged (mark_at new call) ≡ false
  pub elsewhere : (other : ℕ) → other < length last → (other ≡ call → ⊥) → mark_at new other ≡ mark_at old other
  pub not_itself : keep call ≡ false
  pub others : (other : ℕ) → other < length last → (other ≡ call → ⊥)
      → is_searched last new after other ≡ (is_searched last old accused other && keep other)

kept_one : (last : List ℕ) (old new : List Mark) (accused after : Option ℕ) (call : ℕ) (keep : ℕ → Bool) → Keeps last old new accused after call keep
    → (other : ℕ) → other < length last → is_marked is_unjudged last new after other ≡ (is_marked is_unjudged last old accused other && keep other)
kept_one last old new accused after call keep keeps other inside = elim (cases_eq other call) [
  | inl same ↦
      and_right (is_searched last new after other) (is_unjudged (mark_at new other)) (ap (λ k. is_unjudged (mark_at new k)) same ∙ keeps.judged)
      ∙ sym (and_right (is_marked is_unjudged last old accused other) (keep other) (ap keep same ∙ keeps.not_itself))
  | inr differs ↦
      ap (λ b. b && is_unjudged (mark_at new other)) (keeps.others other inside differs)
      ∙ ap (λ m. (is_searched last old accused other && keep other) && is_unjudged m) (keeps.elsewhere other inside differs)
      ∙ exchanged (is_searched last old accused other) (keep other) (is_unjudged (mark_at old other))
]

kept : (last : List ℕ) (old new : List Mark) (accused after : Option ℕ) (call : ℕ) (keep : ℕ → Bool) → Keeps last old new accused after call keep
    → suspects_of last new after ≡ filter (λ other. is_marked is_unjudged last old accused other && keep other) (numbers_below (length last))
kept last old new accused after call keep keeps =
    suspects_are last new after
    ∙ filter_same (is_marked is_unjudged last new after) (λ other. is_marked is_unjudged last old accused other && keep other) (length last)
    (kept_one last old new accused after call keep keeps)

-- a suspect among the calls
pub record Asked (parent : List (Option ℕ)) (last routine : List ℕ) (answers : List What) (call : ℕ) : Type 0 where
  pub numbered : IsNumbered parent last
  pub of_routines : length routine ≡ length last
  pub suspect : Suspected last (marks_of routine answers) (accused_of routine answers) call

a_call : (parent : List (Option ℕ)) (last routine : List ℕ) (answers : List What) (call : ℕ) → Asked parent last routine answers call
    → call < length routine
a_call parent last routine answers call asked = omega (arith, asked.of_routines, asked.suspect.a_call)

changed : (parent : List (Option ℕ)) (last routine : List ℕ) (answers : List What) (call : ℕ) (answer : Judgement) → Asked parent last routine answers call
    → Changes (length last) (marks_of routine answers) (marks_of routine (judged answers call answer)) call (mark_by answer)
changed parent last routine answers call answer asked =
    rw (sym asked.of_routines)
    (changes routine answers call answer (a_call parent last routine answers call asked) asked.suspect.unjudged)

before_unjudged : (parent : List (Option ℕ)) (last routine : List ℕ) (answers : List What) (call : ℕ) (asked : Asked parent last routine answers call)
    → mark_of routine answers call ≡ Unjudged
before_unjudged parent last routine answers call asked =
    sym (at_mark routine answers call (a_call parent last routine answers call asked)) ∙ asked.suspect.unjudged

is_itself : (parent : List (Option ℕ)) (last routine : List ℕ) (answers : List What) (call : ℕ) → Asked parent last routine answers call
    → is_in last call call ≡ true
is_itself parent last routine answers call asked =
    in_from last call call (omega arith) (asked.numbered.intervals.from_itself call asked.suspect.a_call)

passes : (parent : List (Option ℕ)) (last routine : List ℕ) (answers : List What) (call : ℕ) → Asked parent last routine answers call
    → is_marked is_unjudged last (marks_of routine answers) (accused_of routine answers) call ≡ true
passes parent last routine answers call asked =
    let marks = marks_of routine answers in
    let accused = accused_of routine answers in
    and_from (is_searched last marks accused call) (is_unjudged (mark_at marks call)) (searched_from last marks accused call asked.suspect.searched)
    (ap is_unjudged asked.suspect.unjudged)

-- whether it is another call
abbrev pub is_other : ℕ → ℕ → Bool
is_other call other = not (other == call)

not_other : (call : ℕ) → is_other call call ≡ false
not_other call = not_from_true (call == call) (eq-eqb call call refl)

other_than : (call other : ℕ) → (other ≡ call → ⊥) → is_other call other ≡ true
other_than call other differs = not_from_false (other == call) (ne_eqb other call differs)

pub wrong_leaves : (parent : List (Option ℕ)) (last routine : List ℕ) (answers : List What) (call : ℕ) → Asked parent last routine answers call
    → length (suspects_after last routine (judged answers call Wrong)) + 1 ≡ weight_of last (suspects_after last routine answers) call
wrong_leaves parent last routine answers call asked =
    let n = length last in
    let old = marks_of routine answers in
    let new = marks_of routine (judged answers call Wrong) in
    let accused = accused_of routine answers in
    let p = is_marked is_unjudged last old accused in
    let keep : ℕ → Bool = λ other. is_in last call other && is_other call other in
    let ch = changed parent last routine answers call Wrong asked in
    let left : suspects_after last routine (judged answers call Wrong) ≡ filter (λ other. p other && keep other) (numbers_below n) =
    ap (suspects_of last new) (accused_wrong last routine answers call (a_call parent last routine answers call asked) asked.suspect.searched.inside)
    ∙ kept last old new accused (Some call) call keep (record {
      judged = ap is_unjudged ch.here;
      elsewhere = ch.elsewhere;
      not_itself = and_right (is_in last call call) (is_other call call) (not_other call);
      others = λ other inside differs. wrong_test parent last old new accused call other (mark_by Wrong) asked.numbered ch asked.suspect.searched;
    }) in
    let weight : weight_of last (suspects_after last routine answers) call ≡ length (filter (λ other. p other && is_in last call other) (numbers_below n)) =
    ap (λ l. weight_of last l call) (suspects_are last old accused) ∙ weight_is last p n call in
    let more = one_more (λ other. p other && is_in last call other) (λ other. p other && keep other) call n asked.suspect.a_call
    (and_from (p call) (is_in last call call) (passes parent last routine answers call asked) (is_itself parent last routine answers call asked))
    (and_right (p call) (keep call) (and_right (is_in last call call) (is_other call call) (not_other call)))
    (λ other within differs. ap (λ b. p other && b) (sym (ap (λ b. is_in last call other && b) (other_than call other differs)
    ∙ and-true (is_in last call other)))) in
    omega (arith, ap length left, weight, more)

pub right_leaves : (parent : List (Option ℕ)) (last routine : List ℕ) (answers : List What) (call : ℕ) → Asked parent last routine answers call
    → length (suspects_after last routine (judged answers call Right)) + weight_of last (suspects_after last routine answers) call
    ≡ length (suspects_after last routine answers)
right_leaves parent last routine answers call asked =
    let n = length last in
    let old = marks_of routine answers in
    let new = marks_of routine (judged answers call Right) in
    let accused = accused_of routine answers in
    let p = is_marked is_unjudged last old accused in
    let keep : ℕ → Bool = λ other. not (is_in last call other) in
    let ch = changed parent last routine answers call Right asked in
    let left : suspects_after last routine (judged answers call Right) ≡ filter keep (filter p (numbers_below n)) =
    ap (suspects_of last new) (accused_kept routine answers call Right (before_unjudged parent last routine answers call asked) refl)
    ∙ kept last old new accused accused call keep (record {
      judged = ap is_unjudged ch.here;
      elsewhere = ch.elsewhere;
      not_itself = not_from_true (is_in last call call) (is_itself parent last routine answers call asked);
      others = λ other inside differs. right_test last old new accused call other (mark_by Right) refl asked.suspect.a_call ch asked.suspect.searched;
    })
    ∙ sym (filter_filter keep p (numbers_below n)) in
    let weight : weight_of last (suspects_after last routine answers) call ≡ length (filter (is_in last call) (filter p (numbers_below n))) =
    ap (λ l. weight_of last l call) (suspects_are last old accused) ∙ weight_is last p n call
    ∙ sym (ap length (filter_filter (is_in last call) p (numbers_below n))) in
    omega (
      arith,
      ap length left,
      weight,
      ap length (suspects_are last old accused),
      length-filter_both (is_in last call) keep (λ other. refl) (filter p (numbers_below n)),
    )

pub unknown_leaves : (parent : List (Option ℕ)) (last routine : List ℕ) (answers : List What) (call : ℕ) → Asked parent last routine answers call
    → length (suspects_after last routine (judged answers call Unknown)) + 1 ≡ length (suspects_after last routine answers)
unknown_leaves parent last routine answers call asked =
    let n = length last in
    let old = marks_of routine answers in
    let new = marks_of routine (judged answers call Unknown) in
    let accused = accused_of routine answers in
    let p = is_marked is_unjudged last old accused in
    let ch = changed parent last routine answers call Unknown asked in
    let left : suspects_after last routine (judged answers call Unknown) ≡ filter (λ other. p other && is_other call other) (numbers_below n) =
    ap (suspects_of last new) (accused_kept routine answers call Unknown (before_unjudged parent last routine answers call asked) refl)
    ∙ kept last old new accused accused call (is_other call) (record {
      judged = ap is_unjudged ch.here;
      elsewhere = ch.elsewhere;
      not_itself = not_other call;
      others = λ other inside differs. kept_test last old new accused call other (mark_by Unknown) refl ch
          ∙ sym (ap (λ b. is_searched last old accused other && b) (other_than call other differs) ∙ and-true (is_searched last old accused other));
    }) in
    let more = one_more p (λ other. p other && is_other call other) call n asked.suspect.a_call (passes parent last routine answers call asked)
    (and_right (p call) (is_other call call) (not_other call))
    (λ other within differs. sym (ap (λ b. p other && b) (other_than call other differs) ∙ and-true (p other))) in
    omega (arith, ap length left, ap length (suspects_are last old accused), more)

pub asked_in : (calls : CallTree) (answers : List What) (call : ℕ) → IsCallTree calls → Contains (suspects_in calls answers) call
    → Asked calls.parent calls.last calls.routine answers call
asked_in calls answers call are among = record {
  numbered = are.numbered;
  of_routines = are.of_routines;
  suspect = suspected_of calls.last (marks_of calls.routine answers) (accused_of calls.routine answers) call among;
}

pub answers_leave : (calls : CallTree) (answers : List What) (call : ℕ) → IsCallTree calls → Contains (suspects_in calls answers) call
    → LeaveWhatIsCounted calls answers call
answers_leave calls answers call are among =
    let asked = asked_in calls answers call are among in
    record {
      wrong = wrong_leaves calls.parent calls.last calls.routine answers call asked;
      right = right_leaves calls.parent calls.last calls.routine answers call asked;
      unknown = unknown_leaves calls.parent calls.last calls.routine answers call asked;
    }
