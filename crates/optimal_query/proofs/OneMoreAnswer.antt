-- How one more judgement on a suspect changes the marks, the accused and the suspects.
use Rattle.std.proofs.Common.{◌&&◌, ◌++◌, ◌<◌, ◌==◌, ◌∙◌, ◌∷◌, ◌≡◌, ◌≤◌, [], ℕ, Bool, List, None, Option, Some, ap, append-nil, arith, false, filter, inl, inr}
use Rattle.std.proofs.Common.{length, not, refl, slice_index, sym, true}
use Rattle.std.{proofs.Math.Bool.or-false, proofs.lemmas.Bool.not-true, proofs.lemmas.Bool.not_from_false, specs.List.filter_map}
use Rattle.std.proofs.lemmas.Bool.{and_from, and_parts, both_ways, cases_eq, cases_order, cond-false, cond-true, eq-eqb, eqb-false, false_from_ne_true, ne_eqb}
use Rattle.std.proofs.lemmas.List.{Elements.filter_map-append, Folds.list_any-append, FromFn.get_or-map-range_with_len, Sums.length-filter}
use Rattle.call_tree.specs.{Clear.is_clear, Numbering.IsNumbered, declared.records.Mark.Mark, declared.records.Mark.TheVariants.Unjudged}
use Rattle.subtree_weights.specs.Searched.{is_below, is_in, is_searched, mark_at}
use Rattle.answer_book.proofs.FilterMaps.{gives_none, gives_one}
use Rattle.answer_book.proofs.LastWhere.{last_of_more, last_where_from, last_where_is, last_where_same, none_passes_where}
use Rattle.answer_book.specs.{Accused.accused_of, Accused.is_wrong, Numbers.last_of, Numbers.last_where, Numbers.numbers_below}
use Rattle.answer_book.specs.Marks.{is_trusted, judgement_on, last_judgement, mark_by, mark_given, mark_of, marks_of, trusts}
use Rattle.answer_book.specs.declared.entries.{Judgement.Judgement, Judgement.TheVariants.Wrong, What.What, What.TheVariants.Judged}
use Rattle.optimal_query.proofs.{PassingNumbers.filter_filter, PassingNumbers.same_test, Searched.searched_parts}
use Rattle.optimal_query.proofs.Searched.{Covers, Searched, below_between, below_deeper, below_from, below_parts, in_from, in_parts, searched_from}
use Rattle.optimal_query.specs.{Laws.judged, Question.weight_of}

-- marks in the column are those of the answers
pub at_mark : (routine : List ℕ) (answers : List What) (call : ℕ) → call < length routine
    → mark_at (marks_of routine answers) call ≡ mark_of routine answers call
at_mark routine answers call h = get_or-map-range_with_len (mark_of routine answers) 0 (length routine) call call Unjudged h (omega arith)

last_more : (answers : List What) (what : What) (call : ℕ)
    → last_judgement (answers ++ what ∷ []) call ≡ last_of (filter_map (judgement_on call) answers ++ filter_map (judgement_on call) (what ∷ []))
last_more answers what call = ap last_of (filter_map-append (judgement_on call) answers (what ∷ []))

pub new_mark : (routine : List ℕ) (answers : List What) (call : ℕ) (answer : Judgement) → mark_of routine (judged answers call answer) call ≡ mark_by answer
unfolding mark_of
new_mark routine answers call answer =
    let said = filter_map (judgement_on call) answers in
    let last : last_judgement (judged answers call answer) call ≡ Some answer =
    last_more answers (Judged call answer) call
    ∙ ap (λ l. last_of (said ++ l)) (gives_one (judgement_on call) (Judged call answer) answer (cond-true _ _ _ (eq-eqb call call refl)))
    ∙ last_of_more said answer in
    ap (λ o. mark_given o (is_trusted (judged answers call answer) (slice_index routine call))) last

pub old_mark : (routine : List ℕ) (answers : List What) (call : ℕ) (answer : Judgement) (other : ℕ) → (other ≡ call → ⊥)
    → mark_of routine (judged answers call answer) other ≡ mark_of routine answers other
unfolding mark_of
old_mark routine answers call answer other differs =
    let said = filter_map (judgement_on other) answers in
    let last : last_judgement (judged answers call answer) other ≡ last_judgement answers other =
    last_more answers (Judged call answer) other
    ∙ ap (λ l. last_of (said ++ l)) (gives_none (judgement_on other) (Judged call answer) (cond-false _ _ _ (ne_eqb call other (λ e. differs (sym e)))))
    ∙ ap last_of (append-nil said) in
    let trust : is_trusted (judged answers call answer) (slice_index routine other) ≡ is_trusted answers (slice_index routine other) =
    list_any-append (trusts (slice_index routine other)) answers (Judged call answer ∷ [])
    ∙ or-false (is_trusted answers (slice_index routine other)) in
    ap (λ o. mark_given o (is_trusted (judged answers call answer) (slice_index routine other))) last
    ∙ ap (mark_given (last_judgement answers other)) trust

-- one call of a column of marks, which was unjudged, has another mark
pub record Changes (n : ℕ) (old new : List Mark) (call : ℕ) (mark : Mark) : Type 0 where
  pub before : mark_at old call ≡ Unjudged
  pub here : mark_at new call ≡ mark
  pub elsewhere : (other : ℕ) → other < n → (other ≡ call → ⊥) → mark_at new other ≡ mark_at old other

pub changes : (routine : List ℕ) (answers : List What) (call : ℕ) (answer : Judgement) → call < length routine
    → mark_at (marks_of routine answers) call ≡ Unjudged
    → Changes (length routine) (marks_of routine answers) (marks_of routine (judged answers call answer)) call (mark_by answer)
changes routine answers call answer inside unjudged = record {
  before = unjudged;
  here = at_mark routine (judged answers call answer) call inside ∙ new_mark routine answers call answer;
  elsewhere = λ other h differs. at_mark routine (judged answers call answer) other h ∙ old_mark routine answers call answer other differs
      ∙ sym (at_mark routine answers other h);
}

-- an unjudged call is not clear
not_clear : (last : List ℕ) (marks : List Mark) (accused : Option ℕ) (call above other : ℕ) → mark_at marks call ≡ Unjudged → above ≡ call
    → Covers last marks accused other above → ⊥
not_clear last marks accused call above other unjudged same c =
    both_ways (is_clear (mark_at marks above)) (ap (λ k. is_clear (mark_at marks k)) same ∙ ap is_clear unjudged) c.clear

-- what covers a call elsewhere
moved : (last : List ℕ) (old new : List Mark) (accused : Option ℕ) (call above other : ℕ) → mark_at old above ≡ mark_at new above
    → Covers last old accused other above → Covers last new accused other above
moved last old new accused call above other same c = record {
  clear = sym (ap is_clear same) ∙ c.clear;
  inside = c.inside;
  from = c.from;
  to = c.to;
}

-- what stands in the subtree of the call judged wrong, the call itself aside, is what it was
wrong_forward : (parent : List (Option ℕ)) (last : List ℕ) (old new : List Mark) (accused : Option ℕ) (call other : ℕ) (mark : Mark)
    → IsNumbered parent last → Changes (length last) old new call mark → Searched last old accused call
    → Searched last new (Some call) other → Searched last old accused other
wrong_forward parent last old new accused call other mark numbered ch asked s =
    let parts = below_parts last call other s.inside in
    record {
      inside = below_deeper parent last numbered accused call other asked.inside (omega (arith, parts.0)) parts.1;
      free = λ above h c. elim (cases_order above call) [
        | inl same ↦ not_clear last old accused call above other ch.before same c
        | inr (inl less) ↦ asked.free above h (record { clear = c.clear; inside = c.inside; from = omega arith; to = omega (arith, c.to, parts.0) })
        | inr (inr more) ↦ s.free above h (record {
          clear = ap is_clear (ch.elsewhere above h (λ e. absurd (let l : ⊥ = omega arith in l))) ∙ c.clear;
          inside = below_from last call above more (omega (arith, c.from, parts.1));
          from = c.from;
          to = c.to;
        })
      ];
    }

wrong_backward : (last : List ℕ) (old new : List Mark) (accused : Option ℕ) (call other : ℕ) (mark : Mark) → Changes (length last) old new call mark
    → Searched last old accused call → Searched last old accused other → call < other → other ≤ slice_index last call
    → Searched last new (Some call) other
wrong_backward last old new accused call other mark ch asked s later to = record {
  inside = below_from last call other later to;
  free = λ above h c.
      let parts = below_parts last call above c.inside in
      s.free above h (record {
        clear = sym (ap is_clear (ch.elsewhere above h (λ e. absurd (let l : ⊥ = omega (arith, e, parts.0) in l)))) ∙ c.clear;
        inside = below_between last accused call above other asked.inside s.inside (omega (arith, parts.0)) c.from;
        from = c.from;
        to = c.to;
      });
}

pub wrong_test : (parent : List (Option ℕ)) (last : List ℕ) (old new : List Mark) (accused : Option ℕ) (call other : ℕ) (mark : Mark)
    → IsNumbered parent last → Changes (length last) old new call mark → Searched last old accused call
    → is_searched last new (Some call) other ≡ (is_searched last old accused other && (is_in last call other && not (other == call)))
wrong_test parent last old new accused call other mark numbered ch asked =
    same_test (is_searched last new (Some call) other) (is_searched last old accused other && (is_in last call other && not (other == call)))
    (λ h.
    let s = searched_parts last new (Some call) other h in
    let parts = below_parts last call other s.inside in
    and_from (is_searched last old accused other) (is_in last call other && not (other == call))
    (searched_from last old accused other (wrong_forward parent last old new accused call other mark numbered ch asked s))
    (and_from (is_in last call other) (not (other == call)) (in_from last call other (omega (arith, parts.0)) parts.1)
    (not_from_false (other == call) (ne_eqb other call (λ e. absurd (let l : ⊥ = omega (arith, e, parts.0) in l))))))
    (λ h.
    let parts = and_parts (is_searched last old accused other) (is_in last call other && not (other == call)) h in
    let rest = and_parts (is_in last call other) (not (other == call)) parts.1 in
    let both = in_parts last call other rest.0 in
    let differs : other ≡ call → ⊥ = eqb-false other call (not-true (other == call) rest.1) in
    searched_from last new (Some call) other
    (wrong_backward last old new accused call other mark ch asked (searched_parts last old accused other parts.0) (omega (arith, both.0)) both.1))

-- a call whose mark is not clear covers nothing, so that all others are searched as before
pub kept_test : (last : List ℕ) (old new : List Mark) (accused : Option ℕ) (call other : ℕ) (mark : Mark) → is_clear mark ≡ false
    → Changes (length last) old new call mark → is_searched last new accused other ≡ is_searched last old accused other
kept_test last old new accused call other mark unclear ch =
    same_test (is_searched last new accused other) (is_searched last old accused other)
    (λ h.
    let s = searched_parts last new accused other h in
    searched_from last old accused other (record {
      inside = s.inside;
      free = λ above h c. elim (cases_eq above call) [
        | inl same ↦ not_clear last old accused call above other ch.before same c
        | inr apart ↦ s.free above h (moved last old new accused call above other (sym (ch.elsewhere above h apart)) c)
      ];
    }))
    (λ h.
    let s = searched_parts last old accused other h in
    searched_from last new accused other (record {
      inside = s.inside;
      free = λ above h c. elim (cases_eq above call) [
        | inl same ↦ both_ways (is_clear (mark_at new above)) (ap (λ k. is_clear (mark_at new k)) same ∙ ap is_clear ch.here ∙ unclear) c.clear
        | inr apart ↦ s.free above h (moved last new old accused call above other (ch.elsewhere above h apart) c)
      ];
    }))

-- a call whose mark is clear covers its subtree, and nothing else is covered by it
pub right_test : (last : List ℕ) (old new : List Mark) (accused : Option ℕ) (call other : ℕ) (mark : Mark) → is_clear mark ≡ true → call < length last
    → Changes (length last) old new call mark → Searched last old accused call
    → is_searched last new accused other ≡ (is_searched last old accused other && not (is_in last call other))
right_test last old new accused call other mark clear within ch asked =
    same_test (is_searched last new accused other) (is_searched last old accused other && not (is_in last call other))
    (λ h.
    let s = searched_parts last new accused other h in
    let outside : (is_in last call other ≡ true) → ⊥ = λ e.
    let both = in_parts last call other e in
    s.free call within (record { clear = ap is_clear ch.here ∙ clear; inside = asked.inside; from = both.0; to = both.1 }) in
    and_from (is_searched last old accused other) (not (is_in last call other))
    (searched_from last old accused other (record {
      inside = s.inside;
      free = λ above h c. elim (cases_eq above call) [
        | inl same ↦ not_clear last old accused call above other ch.before same c
        | inr apart ↦ s.free above h (moved last old new accused call above other (sym (ch.elsewhere above h apart)) c)
      ];
    }))
    (not_from_false (is_in last call other) (false_from_ne_true (is_in last call other) outside)))
    (λ h.
    let parts = and_parts (is_searched last old accused other) (not (is_in last call other)) h in
    let s = searched_parts last old accused other parts.0 in
    let outside : call ≤ other → other ≤ slice_index last call → ⊥ = λ from to.
    both_ways (is_in last call other) (not-true (is_in last call other) parts.1) (in_from last call other from to) in
    searched_from last new accused other (record {
      inside = s.inside;
      free = λ above h c. elim (cases_eq above call) [
        | inl same ↦ outside (omega (arith, same, c.from)) (omega (arith, c.to, ap (slice_index last) same))
        | inr apart ↦ s.free above h (moved last new old accused call above other (ch.elsewhere above h apart) c)
      ];
    }))

-- the accused is the last call that is marked wrong
pub accused_is_last : (routine : List ℕ) (answers : List What) (accused : Option ℕ) → accused_of routine answers ≡ accused
    → last_where (λ call. is_wrong (mark_of routine answers call)) (numbers_below (length routine)) ≡ accused
unfolding accused_of
accused_is_last routine answers accused h = h

accused_from : (routine : List ℕ) (answers : List What) (accused : Option ℕ)
    → last_where (λ call. is_wrong (mark_of routine answers call)) (numbers_below (length routine)) ≡ accused
    → accused_of routine answers ≡ accused
unfolding accused_of
accused_from routine answers accused h = h

none_wrong_after : (last routine : List ℕ) (answers : List What) (call later : ℕ) (accused : Option ℕ) → accused_of routine answers ≡ accused
    → is_below last accused call ≡ true → call < later → later < length routine → is_wrong (mark_of routine answers later) ≡ false
none_wrong_after last routine answers call later None is inside after within =
    none_passes_where (λ k. is_wrong (mark_of routine answers k)) (length routine) (accused_is_last routine answers None is) later within
none_wrong_after last routine answers call later (Some accused) is inside after within =
    let found = last_where_is (λ k. is_wrong (mark_of routine answers k)) (length routine) accused (accused_is_last routine answers (Some accused) is) in
    found.none_later later (omega (arith, (below_parts last accused call inside).0)) within

-- a suspect that is judged wrong is the accused
pub accused_wrong : (last routine : List ℕ) (answers : List What) (call : ℕ) → call < length routine
    → is_below last (accused_of routine answers) call ≡ true → accused_of routine (judged answers call Wrong) ≡ Some call
accused_wrong last routine answers call within inside =
    accused_from routine (judged answers call Wrong) (Some call)
    (last_where_from (λ k. is_wrong (mark_of routine (judged answers call Wrong) k)) (length routine) call (record {
      inside = within;
      passes = ap is_wrong (new_mark routine answers call Wrong);
      none_later = λ other later other_within. ap is_wrong (old_mark routine answers call Wrong other (λ e. absurd (let l : ⊥ = omega arith in l)))
          ∙ none_wrong_after last routine answers call other (accused_of routine answers) refl inside later other_within;
    }))

-- an unjudged call that is judged otherwise changes no accused
pub accused_kept : (routine : List ℕ) (answers : List What) (call : ℕ) (answer : Judgement) → mark_of routine answers call ≡ Unjudged
    → is_wrong (mark_by answer) ≡ false → accused_of routine (judged answers call answer) ≡ accused_of routine answers
accused_kept routine answers call answer unjudged not_wrong =
    accused_from routine (judged answers call answer) (accused_of routine answers)
    (last_where_same (λ k. is_wrong (mark_of routine (judged answers call answer) k)) (λ k. is_wrong (mark_of routine answers k)) (length routine)
    (λ other h. elim (cases_eq other call) [
      | inl same ↦ ap (λ k. is_wrong (mark_of routine (judged answers call answer) k)) same ∙ ap is_wrong (new_mark routine answers call answer) ∙ not_wrong
          ∙ sym (ap (λ k. is_wrong (mark_of routine answers k)) same ∙ ap is_wrong unjudged)
      | inr differs ↦ ap is_wrong (old_mark routine answers call answer other differs)
    ])
    ∙ accused_is_last routine answers (accused_of routine answers) refl)

-- the weight of a call counts the calls that pass both tests
pub weight_is : (last : List ℕ) (p : ℕ → Bool) (n call : ℕ) → weight_of last (filter p (numbers_below n)) call
    ≡ length (filter (λ other. p other && is_in last call other) (numbers_below n))
unfolding weight_of
weight_is last p n call = sym (length-filter (is_in last call) (filter p (numbers_below n))) ∙ ap length (filter_filter (is_in last call) p (numbers_below n))
