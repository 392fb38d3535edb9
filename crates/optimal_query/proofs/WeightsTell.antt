-- What the weights tell of the suspects.
use Rattle.std.proofs.Common.{◌&&◌, ◌<◌, ◌∙◌, ◌∷◌, ◌≡◌, ◌≢◌, ◌≤◌, ◌⊎◌, [], ℕ, List, None, Option, Some, ap, arith, false, filter, get_or, inl, inr, length, map}
use Rattle.std.proofs.Common.{refl, slice_index, suc, sym, true, zero}
use Rattle.std.{proofs.lemmas.Bool.and_from, proofs.lemmas.Bool.and_parts, proofs.lemmas.Bool.both_ways, proofs.lemmas.Bool.cases_eq, specs.Option.ForSome}
use Rattle.std.proofs.lemmas.List.{length-map, FromFn.get_or-map-range_with_len, FromFn.length-map-range_with_len, Sums.length-filter}
use Rattle.call_tree.specs.{Clear.is_clear, Clear.is_unjudged, Numbering.IsNumbered, declared.records.Mark.Mark}
use Rattle.call_tree.specs.declared.records.Mark.TheVariants.{Right, Trusted, Unjudged, Unknown, Wrong}
use Rattle.weight_lanes.specs.{Places.left_at, declared.choice.Choice.Choice}
use Rattle.subtree_weights.specs.{Searched.is_below, Searched.is_in, Searched.is_searched, Searched.mark_at, Sums.SuspectsAreWeighed}
use Rattle.subtree_weights.specs.Weights.{suspects_below, under_of, weight_by, weight_of as weight_in_tree, weights_of}
use Rattle.answer_book.specs.Numbers.{numbers_below}
use Rattle.optimal_query.proofs.{BestOfRuns.cases_lt, LeastExists.at_most_all, OneMoreAnswer.weight_is, PassingNumbers.none_passes, PassingNumbers.nothing_from}
use Rattle.optimal_query.proofs.NextDoubt.{are_nested, below_of_bounds, bounds_of_below, end_inside, ends_inside, start_before_end}
use Rattle.optimal_query.proofs.QuestionFound.{Describes, no_question_left, question_is_best}
use Rattle.optimal_query.proofs.Searched.{Searched, below_from, below_parts, is_marked, searched_from, searched_parts, suspects_are}
use Rattle.optimal_query.specs.{Markings.askable_flag, Markings.verdict_from, Nested.end_below, Nested.start_below, Question.question_of, Question.weight_of}
use Rattle.optimal_query.specs.{State.state_by, State.state_with, State.verdict_by, declared.state.SearchState.TheVariants.Ask}
use Rattle.optimal_query.specs.Region.{doubts_of, next_after, suspects_of}
use Rattle.optimal_query.specs.Runs.{Field, IsBestAmong, IsField, MayBeAsked, field_of}

-- a call weighs nothing where it is clear, or where it is judged and no suspect stands under it
nothing_by : (mark : Mark) (under : ℕ) → weight_by mark under ≡ 0 → (is_clear mark ≡ true) ⊎ ((is_unjudged mark ≡ false) × (under ≡ 0))
nothing_by Unjudged under h = absurd (let l : ⊥ = omega arith in l)
nothing_by Right under h = inl refl
nothing_by Wrong under h = inr (refl, h)
nothing_by Unknown under h = inr (refl, h)
nothing_by Trusted under h = inl refl

clear_weighs_nothing : (mark : Mark) (under : ℕ) → is_clear mark ≡ true → weight_by mark under ≡ 0
clear_weighs_nothing Unjudged under h = absurd (let l : ⊥ = cc in l)
clear_weighs_nothing Right under h = refl
clear_weighs_nothing Wrong under h = absurd (let l : ⊥ = cc in l)
clear_weighs_nothing Unknown under h = absurd (let l : ⊥ = cc in l)
clear_weighs_nothing Trusted under h = refl

unjudged_weighs : (mark : Mark) (under : ℕ) → is_unjudged mark ≡ true → 1 ≤ weight_by mark under
unjudged_weighs Unjudged under h = omega arith
unjudged_weighs Right under h = absurd (let l : ⊥ = cc in l)
unjudged_weighs Wrong under h = absurd (let l : ⊥ = cc in l)
unjudged_weighs Unknown under h = absurd (let l : ⊥ = cc in l)
unjudged_weighs Trusted under h = absurd (let l : ⊥ = cc in l)

counted : (last : List ℕ) (marks : List Mark) (top : Option ℕ)
    → suspects_below last marks top ≡ length (filter (is_marked is_unjudged last marks top) (numbers_below (length last)))
unfolding suspects_below
counted last marks top = sym (length-filter (is_marked is_unjudged last marks top) (numbers_below (length last)))

none_under : (last : List ℕ) (marks : List Mark) (top call : ℕ) → suspects_below last marks (Some top) ≡ 0 → call < length last
    → is_marked is_unjudged last marks (Some top) call ≡ false
none_under last marks top call none inside =
    let p = is_marked is_unjudged last marks (Some top) in
    none_passes p (length last) call (nothing_from (filter p (numbers_below (length last))) (sym (counted last marks (Some top)) ∙ none)) inside

-- a suspect below the accused that stands below a call of the region's interval is one below that call
suspect_deeper : (last : List ℕ) (marks : List Mark) (accused : Option ℕ) (above call : ℕ) → above < length last → is_below last accused above ≡ true
    → above < call → call ≤ slice_index last above → call < length last
    → is_marked is_unjudged last marks accused call ≡ true → is_marked is_unjudged last marks (Some above) call ≡ true
suspect_deeper last marks accused above call h below later to inside p =
    let parts = and_parts (is_searched last marks accused call) (is_unjudged (mark_at marks call)) p in
    let s = searched_parts last marks accused call parts.0 in
    let bounds = bounds_of_below last accused above h below in
    let here = bounds_of_below last accused call inside s.inside in
    let searched : Searched last marks (Some above) call = record {
      inside = below_from last above call later to;
      free = λ third within c.
          let deep = below_parts last above third c.inside in
          let from : third ≤ call = c.from in
          s.free third within (record {
            clear = c.clear;
            inside = below_of_bounds last accused third (omega (arith, bounds.0, deep.0)) (omega (arith, here.1));
            from = from;
            to = c.to;
          });
    } in
    and_from (is_searched last marks (Some above) call) (is_unjudged (mark_at marks call)) (searched_from last marks (Some above) call searched) parts.1

-- in a subtree that weighs nothing no suspect stands
none_in_nothing : (last : List ℕ) (marks : List Mark) (accused : Option ℕ) (above call : ℕ) → above < length last → is_below last accused above ≡ true
    → above ≤ call → call ≤ slice_index last above → call < length last → weight_in_tree last marks above ≡ 0
    → is_marked is_unjudged last marks accused call ≡ true → ⊥
none_in_nothing last marks accused above call h below from to inside nothing p =
    let parts = and_parts (is_searched last marks accused call) (is_unjudged (mark_at marks call)) p in
    let s = searched_parts last marks accused call parts.0 in
    elim (nothing_by (mark_at marks above) (under_of last marks above) nothing) [
      | inl clear ↦ s.free above h (record { clear = clear; inside = below; from = from; to = to })
      | inr judged ↦ elim (cases_eq call above) [
        | inl same ↦ both_ways (is_unjudged (mark_at marks above)) judged.0 (ap (λ k. is_unjudged (mark_at marks k)) (sym same) ∙ parts.1)
        | inr differs ↦ both_ways (is_marked is_unjudged last marks (Some above) call) (none_under last marks above call judged.1 inside)
            (suspect_deeper last marks accused above call h below (omega arith) to inside p)
      ]
    ]

flag_at : (marks : List Mark) (call : ℕ) → call < length marks → get_or (map askable_flag marks) call 0 ≡ askable_flag (mark_at marks call)
flag_at [] call h = absurd (let l : ⊥ = omega arith in l)
flag_at (mark ∷ marks) zero h = refl
flag_at (mark ∷ marks) (suc call) h = flag_at marks call (omega arith)

unjudged_of_flag : (mark : Mark) → askable_flag mark ≢ 0 → is_unjudged mark ≡ true
unjudged_of_flag Unjudged h = refl
unjudged_of_flag Right h = absurd (h refl)
unjudged_of_flag Wrong h = absurd (h refl)
unjudged_of_flag Unknown h = absurd (h refl)
unjudged_of_flag Trusted h = absurd (h refl)

flag_of_unjudged : (mark : Mark) → is_unjudged mark ≡ true → askable_flag mark ≢ 0
flag_of_unjudged Unjudged h = λ e. let l : ⊥ = omega arith in l
flag_of_unjudged Right h = absurd (let l : ⊥ = cc in l)
flag_of_unjudged Wrong h = absurd (let l : ⊥ = cc in l)
flag_of_unjudged Unknown h = absurd (let l : ⊥ = cc in l)
flag_of_unjudged Trusted h = absurd (let l : ⊥ = cc in l)

-- the marks of numbered calls, and an accused that is one of them
pub record Marked (parent : List (Option ℕ)) (last : List ℕ) (marks : List Mark) (accused : Option ℕ) : Type 0 where
  pub numbered : IsNumbered parent last
  pub each : length marks ≡ length last
  pub known : ForSome accused (λ accused. accused < length last)
  pub weigh : SuspectsAreWeighed

abbrev pub field_by : List ℕ → List Mark → Option ℕ → ℕ → Field
field_by last marks accused total =
    field_of last (weights_of last marks) (map askable_flag marks) total (start_below accused) (end_below last accused)

weight_at : (last : List ℕ) (marks : List Mark) (call : ℕ) → call < length last → slice_index (weights_of last marks) call ≡ weight_in_tree last marks call
weight_at last marks call h = get_or-map-range_with_len (weight_in_tree last marks) 0 (length last) call call 0 h (omega arith)

pub describes : (parent : List (Option ℕ)) (last : List ℕ) (marks : List Mark) (accused : Option ℕ) (total : ℕ) → Marked parent last marks accused
    → total ≡ suspects_below last marks accused → Describes (field_by last marks accused total) marks accused
describes parent last marks accused total m is =
    let p = is_marked is_unjudged last marks accused in
    let nested = are_nested parent last m.numbered in
    let end = end_inside last accused nested m.known in
    record {
      suspected = λ call from to free.
          let inside : call < length last = omega arith in
          let unjudged = unjudged_of_flag (mark_at marks call) (λ e. free.unsaid (flag_at marks call (omega (arith, m.each)) ∙ e)) in
          let searched : Searched last marks accused call = record {
            inside = below_of_bounds last accused call from to;
            free = λ above h c.
                let bounds = bounds_of_below last accused above h c.inside in
                let nothing = clear_weighs_nothing (mark_at marks above) (under_of last marks above) c.clear in
                let ended : slice_index last above < call = free.free above bounds.0 c.from (weight_at last marks above h ∙ nothing) in
                let reaches : call ≤ slice_index last above = c.to in
                (let l : ⊥ = omega arith in l);
          } in
          and_from (is_searched last marks accused call) (is_unjudged (mark_at marks call)) (searched_from last marks accused call searched) unjudged;
      here = λ call inside q.
          let parts = and_parts (is_searched last marks accused call) (is_unjudged (mark_at marks call)) q in
          bounds_of_below last accused call inside (searched_parts last marks accused call parts.0).inside;
      opened = λ call inside q.
          let parts = and_parts (is_searched last marks accused call) (is_unjudged (mark_at marks call)) q in
          let here = bounds_of_below last accused call inside (searched_parts last marks accused call parts.0).inside in
          record {
            unsaid = λ e. flag_of_unjudged (mark_at marks call) parts.1 (sym (flag_at marks call (omega (arith, m.each))) ∙ e);
            free = λ above s below nothing. elim (cases_lt (slice_index last above) call) [
              | inl before ↦ before
              | inr after ↦
                  let h : above < length last = omega arith in
                  absurd (none_in_nothing last marks accused above call h (below_of_bounds last accused above s (omega (arith, here.1))) below after inside
                  (sym (weight_at last marks above h) ∙ nothing) q)
            ];
          };
      inside = end;
      weight_is = λ call inside q.
          weight_at last marks call inside
          ∙ sym (m.weigh parent last marks accused call m.numbered (omega (arith, m.numbered.same_length)) q)
          ∙ sym (length-filter (λ other. p other && is_in last call other) (numbers_below (length last)))
          ∙ sym (ap (λ l. weight_of last l call) (suspects_are last marks accused) ∙ weight_is last p (length last) call);
      total_is = is ∙ counted last marks accused ∙ sym (ap length (suspects_are last marks accused));
    }

pub is_field : (parent : List (Option ℕ)) (last : List ℕ) (marks : List Mark) (accused : Option ℕ) (total : ℕ) → Marked parent last marks accused
    → total ≡ suspects_below last marks accused → IsField (field_by last marks accused total)
is_field parent last marks accused total m is =
    let nested = are_nested parent last m.numbered in
    let d = describes parent last marks accused total m is in
    let end = end_inside last accused nested m.known in
    record {
      weighed = length-map-range_with_len (weight_in_tree last marks) 0 (length last);
      flagged = length-map marks askable_flag ∙ m.each;
      order = start_before_end last accused nested m.known;
      inside = end;
      from_itself = nested.intervals.from_itself;
      within = λ call from to. ends_inside last accused call nested (omega arith) from to;
      nested = nested.nested;
      weigh = λ call from to unsaid.
          let inside : call < length last = omega arith in
          let unjudged = unjudged_of_flag (mark_at marks call) (λ e. unsaid (flag_at marks call (omega (arith, m.each)) ∙ e)) in
          omega (arith, weight_at last marks call inside, unjudged_weighs (mark_at marks call) (under_of last marks call) unjudged);
      few = λ call from to free.
          let inside : call < length last = omega arith in
          omega (arith, d.weight_is call inside (d.suspected call from to free), at_most_all last (suspects_of last marks accused) call, d.total_is);
    }

verdict_is : (accused : Option ℕ) (doubts : List ℕ) → verdict_from accused (next_after doubts None) ≡ verdict_by accused doubts
verdict_is None [] = refl
verdict_is None (d ∷ ds) = refl
verdict_is (Some a) [] = refl
verdict_is (Some a) (d ∷ ds) = refl

by_question : (last : List ℕ) (marks : List Mark) (accused : Option ℕ) (q : Option ℕ) → question_of last (suspects_of last marks accused) ≡ q
    → state_by last (suspects_of last marks accused) q (verdict_by accused (doubts_of last marks accused)) ≡ state_with last marks accused
unfolding state_with
by_question last marks accused q is =
    ap (λ o. state_by last (suspects_of last marks accused) o (verdict_by accused (doubts_of last marks accused))) (sym is)

-- the state where there is a question
pub state_asks : (parent : List (Option ℕ)) (last : List ℕ) (marks : List Mark) (accused : Option ℕ) (total : ℕ) (choice : Choice)
    → Marked parent last marks accused → total ≡ suspects_below last marks accused
    → IsBestAmong (MayBeAsked (field_by last marks accused total)) (left_at (weights_of last marks) total) (start_below accused) (end_below last accused)
    (Some choice)
    → Ask choice.at (weight_in_tree last marks choice.at) total choice.left ≡ state_with last marks accused
state_asks parent last marks accused total choice m is best =
    let field = field_by last marks accused total in
    let d = describes parent last marks accused total m is in
    let q = question_is_best field marks accused choice d best in
    let weight = sym (weight_at last marks choice.at q.a_call) ∙ q.weight_is in
    ap (λ w. Ask choice.at w total choice.left) weight
    ∙ ap (λ t. Ask choice.at (weight_of last (suspects_of last marks accused) choice.at) t choice.left) d.total_is
    ∙ ap (Ask choice.at (weight_of last (suspects_of last marks accused) choice.at) (length (suspects_of last marks accused))) q.left_is
    ∙ by_question last marks accused (Some choice.at) q.question

-- and where there is none
pub state_ends : (parent : List (Option ℕ)) (last : List ℕ) (marks : List Mark) (accused : Option ℕ) (total : ℕ)
    → Marked parent last marks accused → total ≡ suspects_below last marks accused
    → IsBestAmong (MayBeAsked (field_by last marks accused total)) (left_at (weights_of last marks) total) (start_below accused) (end_below last accused) None
    → verdict_from accused (next_after (doubts_of last marks accused) None) ≡ state_with last marks accused
state_ends parent last marks accused total m is none =
    let d = describes parent last marks accused total m is in
    verdict_is accused (doubts_of last marks accused)
    ∙ by_question last marks accused None (no_question_left (field_by last marks accused total) marks accused d none)
