-- Verdicts, and that a buggy call is among those left.
use Rattle.std.proofs.Common.{◌&&◌, ◌<◌, ◌==◌, ◌||◌, ◌∙◌, ◌∷◌, ◌≡◌, ◌≤◌, ◌⊎◌, [], ℕ, Bool, Contains, List, None, Option, Some, ap, arith, false, inl, inr}
use Rattle.std.proofs.Common.{length, refl, slice_index, subst, sym, true}
use Rattle.std.proofs.lemmas.Bool.{and_from, and_parts, both_ways, cases_order, eq-eqb, eqb-true, true≢false}
use Rattle.std.proofs.lemmas.Option.{slice_get_within}
use Rattle.call_tree.specs.{Clear.is_clear, Clear.is_unjudged, Clear.is_unknown, Numbering.IsParent, declared.records.Mark.Mark}
use Rattle.call_tree.specs.declared.records.Mark.TheVariants.{Right, Trusted, Unjudged, Unknown, Wrong}
use Rattle.subtree_weights.specs.Searched.{is_below, is_searched, mark_at}
use Rattle.answer_book.proofs.LastWhere.{IsLast, last_where_is, none_passes_where}
use Rattle.answer_book.specs.{Accused.accused_of, Accused.is_wrong, Marks.mark_of, Marks.marks_of, declared.entries.What.What}
use Rattle.answer_book.specs.Numbers.{last_where, numbers_below}
use Rattle.optimal_query.proofs.{LeastExists.no_question, PassingNumbers.passes_of_contains, StatesSay.ends}
use Rattle.optimal_query.proofs.OneMoreAnswer.{accused_is_last, at_mark}
use Rattle.optimal_query.proofs.Searched.{Covers, Searched, below_from, below_parts, doubt_from, nested, searched_from, searched_parts, suspect_from}
use Rattle.optimal_query.specs.{Narrowing.AgreesWithMarks, Narrowing.IsBuggy, Narrowing.IsLeft, Narrowing.Truth, Region.doubts_of, Region.suspects_of}
use Rattle.optimal_query.specs.{State.verdict_by, declared.state.SearchState.TheVariants.Found, declared.state.SearchState.TheVariants.NothingWrong}
use Rattle.optimal_query.specs.Laws.{CallTree, IsAtFault, IsCallTree, NothingIsWrong, doubts_in, mark_in, region_in, state_in, suspects_in}

wrong_is : (mark : Mark) → is_wrong mark ≡ true → mark ≡ Wrong
wrong_is Unjudged h = absurd (let l : ⊥ = cc in l)
wrong_is Right h = absurd (let l : ⊥ = cc in l)
wrong_is Wrong h = refl
wrong_is Unknown h = absurd (let l : ⊥ = cc in l)
wrong_is Trusted h = absurd (let l : ⊥ = cc in l)

-- the greatest call that is marked wrong
pub record IsAccused (calls : CallTree) (answers : List What) (accused : ℕ) : Type 0 where
  pub a_call : accused < length calls.last
  pub wrong : mark_in calls answers accused ≡ Wrong
  pub none_later : (other : ℕ) → accused < other → other < length calls.last → is_wrong (mark_in calls answers other) ≡ false

pub accused_is : (calls : CallTree) (answers : List What) (accused : ℕ) → IsCallTree calls → accused_of calls.routine answers ≡ Some accused
    → IsAccused calls answers accused
accused_is calls answers accused are h =
    let test : ℕ → Bool = λ call. is_wrong (mark_of calls.routine answers call) in
    let found = last_where_is test (length calls.routine) accused (accused_is_last calls.routine answers (Some accused) h) in
    record {
      a_call = omega (arith, found.inside, are.of_routines);
      wrong = wrong_is (mark_of calls.routine answers accused) found.passes;
      none_later = λ other later inside. found.none_later other later (omega (arith, are.of_routines));
    }

-- the accused, or a call of the region below it
abbrev pub Reached : CallTree → List What → ℕ → ℕ → Type 0
Reached calls answers accused call =
    (call ≡ accused) ⊎ Searched calls.last (marks_of calls.routine answers) (Some accused) call

one_parent : (parent : List (Option ℕ)) (one other call : ℕ) → IsParent parent one call → IsParent parent other call → one ≡ other
one_parent parent one other call a b = let e : Some (Some one) ≡ Some (Some other) = sym a ∙ b in cc

reached_inside : (calls : CallTree) (answers : List What) (accused call : ℕ) → IsCallTree calls → Reached calls answers accused call
    → (accused ≤ call) × (slice_index calls.last call ≤ slice_index calls.last accused)
reached_inside calls answers accused call are (inl same) = (omega arith, omega (arith, ap (slice_index calls.last) same))
reached_inside calls answers accused call are (inr s) =
    let parts = below_parts calls.last accused call s.inside in
    (omega (arith, parts.0), nested calls.parent calls.last are.numbered accused call (omega (arith, parts.0)) parts.1)

-- what covers a child from above covers its parent
covered_above : (calls : CallTree) (answers : List What) (accused call above : ℕ) → Reached calls answers accused call → above < length calls.last
    → accused < above → Covers calls.last (marks_of calls.routine answers) (Some accused) call above → ⊥
covered_above calls answers accused call above (inl same) h deep c = let l : ⊥ = omega (arith, c.from) in l
covered_above calls answers accused call above (inr s) h deep c = s.free above h c

-- a child of a call that is reached is searched, unless it is clear
child_searched : (calls : CallTree) (answers : List What) (accused call child : ℕ) → IsCallTree calls → Reached calls answers accused call
    → IsParent calls.parent call child → is_clear (mark_in calls answers child) ≡ false
    → Searched calls.last (marks_of calls.routine answers) (Some accused) child
child_searched calls answers accused call child are reached is unclear =
    let numbered = are.numbered in
    let marks = marks_of calls.routine answers in
    let later : call < child = numbered.child_is_later call child is in
    let within : child < length calls.last = omega (arith, slice_get_within calls.parent child (Some call) is, numbered.same_length) in
    let itself = numbered.intervals.from_itself child within in
    let bounds = reached_inside calls answers accused call are reached in
    record {
      inside = below_from calls.last accused child (omega (arith, bounds.0)) (omega (arith, itself, numbered.child_ends_within call child is, bounds.1));
      free = λ above h c.
          let deep = (below_parts calls.last accused above c.inside).0 in
          elim (cases_order above child) [
            | inl same ↦ both_ways (is_clear (mark_at marks above))
                (ap (λ k. is_clear (mark_at marks k)) same ∙ ap is_clear (at_mark calls.routine answers child (omega (arith, within, are.of_routines)))
                ∙ unclear)
                c.clear
            | inr (inl less) ↦
                let between = numbered.parent_is_within above child less c.to in
                let same : between.0 ≡ call = one_parent calls.parent between.0 call child between.2 is in
                let from_there : above ≤ between.0 = between.1 in
                covered_above calls answers accused call above reached h deep
                (record { clear = c.clear; inside = c.inside; from = omega arith; to = omega (arith, c.to) })
            | inr (inr more) ↦ (let l : ⊥ = omega (arith, c.from) in l)
          ];
    }

sort_of : (mark : Mark) → is_clear mark ≡ false → is_wrong mark ≡ false → (is_unjudged mark ≡ true) ⊎ (is_unknown mark ≡ true)
sort_of Unjudged unclear not_wrong = inl refl
sort_of Right unclear not_wrong = absurd (true≢false unclear)
sort_of Wrong unclear not_wrong = absurd (true≢false not_wrong)
sort_of Unknown unclear not_wrong = inr refl
sort_of Trusted unclear not_wrong = absurd (true≢false unclear)

-- no call below the accused is marked wrong
not_wrong_below : (calls : CallTree) (answers : List What) (accused : Option ℕ) (call : ℕ) → IsCallTree calls → accused_of calls.routine answers ≡ accused
    → is_below calls.last accused call ≡ true → call < length calls.last → is_wrong (mark_in calls answers call) ≡ false
not_wrong_below calls answers None call are h below inside =
    none_passes_where (λ k. is_wrong (mark_of calls.routine answers k)) (length calls.routine) (accused_is_last calls.routine answers None h) call
    (omega (arith, inside, are.of_routines))
not_wrong_below calls answers (Some accused) call are h below inside =
    (accused_is calls answers accused are h).none_later call (below_parts calls.last accused call below).0 inside

-- a call of the region that is not clear is a suspect or a doubt
searched_is_left : (calls : CallTree) (answers : List What) (accused : Option ℕ) (call : ℕ) → IsCallTree calls → accused_of calls.routine answers ≡ accused
    → call < length calls.last → Searched calls.last (marks_of calls.routine answers) accused call
    → is_clear (mark_in calls answers call) ≡ false → Contains (suspects_in calls answers) call ⊎ Contains (doubts_in calls answers) call
searched_is_left calls answers accused call are h inside s unclear =
    let marks = marks_of calls.routine answers in
    let at = at_mark calls.routine answers call (omega (arith, inside, are.of_routines)) in
    let S : Option ℕ → Type 0 = λ a. Contains (suspects_of calls.last marks a) call in
    let D : Option ℕ → Type 0 = λ a. Contains (doubts_of calls.last marks a) call in
    elim (sort_of (mark_in calls answers call) unclear (not_wrong_below calls answers accused call are h s.inside inside)) [
      | inl unjudged ↦ inl (subst S (sym h) (suspect_from calls.last marks accused call inside s (ap is_unjudged at ∙ unjudged)))
      | inr unknown ↦ inr (subst D (sym h) (doubt_from calls.last marks accused call inside s (ap is_unknown at ∙ unknown)))
    ]

-- a call of the region is not clear
searched_unclear : (calls : CallTree) (answers : List What) (accused : Option ℕ) (call : ℕ) → IsCallTree calls → call < length calls.last
    → Searched calls.last (marks_of calls.routine answers) accused call
    → (b : Bool) → is_clear (mark_in calls answers call) ≡ b → is_clear (mark_in calls answers call) ≡ false
searched_unclear calls answers accused call are inside s true clear =
    absurd (s.free call inside (record {
      clear = ap is_clear (at_mark calls.routine answers call (omega (arith, inside, are.of_routines))) ∙ clear;
      inside = s.inside;
      from = omega arith;
      to = are.numbered.intervals.from_itself call inside;
    }))
searched_unclear calls answers accused call are inside s false unclear = unclear

pub region_is_left : (calls : CallTree) (answers : List What) (call : ℕ) → IsCallTree calls → Contains (region_in calls answers) call
    → Contains (suspects_in calls answers) call ⊎ Contains (doubts_in calls answers) call
region_is_left calls answers call are among =
    let marks = marks_of calls.routine answers in
    let accused = accused_of calls.routine answers in
    let there = passes_of_contains (is_searched calls.last marks accused) (length calls.last) call among in
    let s = searched_parts calls.last marks accused call there.1 in
    searched_is_left calls answers accused call are refl there.0 s
    (searched_unclear calls answers accused call are there.0 s (is_clear (mark_in calls answers call)) refl)

none_among : (xs : List ℕ) (call : ℕ) → xs ≡ [] → Contains xs call → ⊥
none_among [] call h among = let l : among.0 < 0 = among.1 in omega arith
none_among (x ∷ xs) call h among = cc

verdict_found : (accused : Option ℕ) (doubts : List ℕ) (call : ℕ) → verdict_by accused doubts ≡ Found call → (accused ≡ Some call) × (doubts ≡ [])
verdict_found (Some a) [] call h = (cc, refl)
verdict_found (Some a) (d ∷ ds) call h = absurd (let l : ⊥ = cc in l)
verdict_found None [] call h = absurd (let l : ⊥ = cc in l)
verdict_found None (d ∷ ds) call h = absurd (let l : ⊥ = cc in l)

verdict_nothing : (accused : Option ℕ) (doubts : List ℕ) → verdict_by accused doubts ≡ NothingWrong → (accused ≡ None) × (doubts ≡ [])
verdict_nothing (Some a) [] h = absurd (let l : ⊥ = cc in l)
verdict_nothing (Some a) (d ∷ ds) h = absurd (let l : ⊥ = cc in l)
verdict_nothing None [] h = (refl, refl)
verdict_nothing None (d ∷ ds) h = absurd (let l : ⊥ = cc in l)

-- what is found is accused, and nothing is left
pub record IsFound (calls : CallTree) (answers : List What) (call : ℕ) : Type 0 where
  pub accused : accused_of calls.routine answers ≡ Some call
  pub no_suspect : suspects_in calls answers ≡ []
  pub no_doubt : doubts_in calls answers ≡ []

found : (calls : CallTree) (answers : List What) (call : ℕ) → state_in calls answers ≡ Found call → IsFound calls answers call
found calls answers call h =
    let parts = ends calls answers (Found call) (λ c w m l e. let x : ⊥ = cc in x) h in
    let verdict = verdict_found (accused_of calls.routine answers) (doubts_in calls answers) call parts.verdict_is in
    record { accused = verdict.0; no_suspect = no_question calls.last (suspects_in calls answers) parts.no_question; no_doubt = verdict.1 }

clear_by : (calls : CallTree) (answers : List What) (call child : ℕ) → IsCallTree calls → IsFound calls answers call → IsParent calls.parent call child
    → (b : Bool) → is_clear (mark_in calls answers child) ≡ b → is_clear (mark_in calls answers child) ≡ true
clear_by calls answers call child are is child_of true clear = clear
clear_by calls answers call child are is child_of false unclear =
    let searched = child_searched calls answers call call child are (inl refl) child_of unclear in
    let inside : child < length calls.last =
    omega (arith, slice_get_within calls.parent child (Some call) child_of, are.numbered.same_length) in
    absurd (elim (searched_is_left calls answers (Some call) child are is.accused inside searched unclear) [
      | inl suspect ↦ none_among (suspects_in calls answers) child is.no_suspect suspect
      | inr doubt ↦ none_among (doubts_in calls answers) child is.no_doubt doubt
    ])

pub found_is_at_fault : (calls : CallTree) (answers : List What) (call : ℕ) → IsCallTree calls → state_in calls answers ≡ Found call
    → IsAtFault calls answers call
found_is_at_fault calls answers call are h =
    let is = found calls answers call h in
    let accused = accused_is calls answers call are is.accused in
    record {
      a_call = accused.a_call;
      judged_wrong = accused.wrong;
      children_clear = λ child child_of. clear_by calls answers call child are is child_of (is_clear (mark_in calls answers child)) refl;
      no_suspect = is.no_suspect;
      no_doubt = is.no_doubt;
    }

pub nothing_is_wrong : (calls : CallTree) (answers : List What) → IsCallTree calls → state_in calls answers ≡ NothingWrong → NothingIsWrong calls answers
nothing_is_wrong calls answers are h =
    let parts = ends calls answers NothingWrong (λ c w m l e. let x : ⊥ = cc in x) h in
    let verdict = verdict_nothing (accused_of calls.routine answers) (doubts_in calls answers) parts.verdict_is in
    record {
      none_wrong = λ call inside wrong. true≢false (sym (ap is_wrong wrong) ∙ none_passes_where (λ k. is_wrong (mark_of calls.routine answers k))
          (length calls.routine) (accused_is_last calls.routine answers None verdict.0) call (omega (arith, are.of_routines)));
      no_suspect = no_question calls.last (suspects_in calls answers) parts.no_question;
      no_doubt = verdict.1;
    }

-- whether a call went wrong and is the accused or searched
abbrev pub is_candidate : CallTree → List What → ℕ → Truth → ℕ → Bool
is_candidate calls answers accused went_wrong call =
    went_wrong call && (call == accused || is_searched calls.last (marks_of calls.routine answers) (Some accused) call)

or_cases : (a b : Bool) → (a || b) ≡ true → (a ≡ true) ⊎ (b ≡ true)
or_cases true b h = inl refl
or_cases false b h = inr h

or_right : (a b : Bool) → b ≡ true → (a || b) ≡ true
or_right true b h = refl
or_right false b h = h

candidate_reached : (calls : CallTree) (answers : List What) (accused call : ℕ) (went_wrong : Truth)
    → is_candidate calls answers accused went_wrong call ≡ true → Reached calls answers accused call
candidate_reached calls answers accused call went_wrong h =
    let marks = marks_of calls.routine answers in
    let parts = and_parts (went_wrong call) (call == accused || is_searched calls.last marks (Some accused) call) h in
    elim (or_cases (call == accused) (is_searched calls.last marks (Some accused) call) parts.1) [
      | inl same ↦ inl (eqb-true call accused same)
      | inr searched ↦ inr (searched_parts calls.last marks (Some accused) call searched)
    ]

-- a call that went wrong is not clear
unclear_by : (calls : CallTree) (answers : List What) (went_wrong : Truth) (call : ℕ) → AgreesWithMarks calls answers went_wrong
    → call < length calls.last → went_wrong call ≡ true → (b : Bool) → is_clear (mark_in calls answers call) ≡ b
    → is_clear (mark_in calls answers call) ≡ false
unclear_by calls answers went_wrong call agrees inside wrong true clear =
    absurd (both_ways (went_wrong call) (agrees.clear call inside clear) wrong)
unclear_by calls answers went_wrong call agrees inside wrong false unclear = unclear

-- a child of the last candidate went right
child_right : (calls : CallTree) (answers : List What) (accused call child : ℕ) (went_wrong : Truth) → IsCallTree calls
    → AgreesWithMarks calls answers went_wrong → IsLast (is_candidate calls answers accused went_wrong) (length calls.last) call
    → IsParent calls.parent call child → (b : Bool) → went_wrong child ≡ b → went_wrong child ≡ false
child_right calls answers accused call child went_wrong are agrees is child_of false right = right
child_right calls answers accused call child went_wrong are agrees is child_of true wrong =
    let marks = marks_of calls.routine answers in
    let inside : child < length calls.last =
    omega (arith, slice_get_within calls.parent child (Some call) child_of, are.numbered.same_length) in
    let unclear = unclear_by calls answers went_wrong child agrees inside wrong (is_clear (mark_in calls answers child)) refl in
    let searched = child_searched calls answers accused call child are (candidate_reached calls answers accused call went_wrong is.passes) child_of unclear in
    let candidate = and_from (went_wrong child) (child == accused || is_searched calls.last marks (Some accused) child) wrong
    (or_right (child == accused) (is_searched calls.last marks (Some accused) child) (searched_from calls.last marks (Some accused) child searched)) in
    absurd (both_ways (is_candidate calls answers accused went_wrong child)
    (is.none_later child (are.numbered.child_is_later call child child_of) inside) candidate)

last_is_left : (calls : CallTree) (answers : List What) (accused call : ℕ) (went_wrong : Truth) → IsCallTree calls
    → accused_of calls.routine answers ≡ Some accused → AgreesWithMarks calls answers went_wrong → call < length calls.last
    → went_wrong call ≡ true → Reached calls answers accused call → IsLeft calls answers call
last_is_left calls answers accused call went_wrong are h agrees inside wrong (inl same) = inl (h ∙ ap Some (sym same))
last_is_left calls answers accused call went_wrong are h agrees inside wrong (inr searched) =
    inr (searched_is_left calls answers (Some accused) call are h inside searched
    (unclear_by calls answers went_wrong call agrees inside wrong (is_clear (mark_in calls answers call)) refl))

buggy_by : (calls : CallTree) (answers : List What) (accused : ℕ) (went_wrong : Truth) → IsCallTree calls
    → accused_of calls.routine answers ≡ Some accused → AgreesWithMarks calls answers went_wrong
    → (o : Option ℕ) → last_where (is_candidate calls answers accused went_wrong) (numbers_below (length calls.last)) ≡ o
    → (call : ℕ) × IsLeft calls answers call × IsBuggy calls went_wrong call
buggy_by calls answers accused went_wrong are h agrees None none =
    let is = accused_is calls answers accused are h in
    let test = is_candidate calls answers accused went_wrong in
    let searched = is_searched calls.last (marks_of calls.routine answers) (Some accused) accused in
    let candidate : test accused ≡ true = and_from (went_wrong accused) (accused == accused || searched) (agrees.wrong accused is.a_call is.wrong)
    (ap (λ b. b || searched) (eq-eqb accused accused refl)) in
    absurd (both_ways (test accused) (none_passes_where test (length calls.last) none accused is.a_call) candidate)
buggy_by calls answers accused went_wrong are h agrees (Some call) some =
    let last = last_where_is (is_candidate calls answers accused went_wrong) (length calls.last) call some in
    let searched = is_searched calls.last (marks_of calls.routine answers) (Some accused) call in
    let wrong = (and_parts (went_wrong call) (call == accused || searched) last.passes).0 in (
      call,
      last_is_left calls answers accused call went_wrong are h agrees last.inside wrong
          (candidate_reached calls answers accused call went_wrong last.passes),
      record {
        a_call = last.inside;
        wrong = wrong;
        children_right = λ child child_of. child_right calls answers accused call child went_wrong are agrees last child_of (went_wrong child) refl;
      },
    )

pub buggy_is_left : (calls : CallTree) (answers : List What) (accused : ℕ) (went_wrong : Truth) → IsCallTree calls
    → accused_of calls.routine answers ≡ Some accused → AgreesWithMarks calls answers went_wrong
    → (call : ℕ) × IsLeft calls answers call × IsBuggy calls went_wrong call
buggy_is_left calls answers accused went_wrong are h agrees =
    buggy_by calls answers accused went_wrong are h agrees
    (last_where (is_candidate calls answers accused went_wrong) (numbers_below (length calls.last))) refl

left_is : (calls : CallTree) (answers : List What) (call other : ℕ) → IsFound calls answers call → IsLeft calls answers other → other ≡ call
left_is calls answers call other is (inl accused) = let e : Some other ≡ Some call = sym accused ∙ is.accused in cc
left_is calls answers call other is (inr (inl suspect)) = absurd (none_among (suspects_in calls answers) other is.no_suspect suspect)
left_is calls answers call other is (inr (inr doubt)) = absurd (none_among (doubts_in calls answers) other is.no_doubt doubt)

pub found_is_buggy : (calls : CallTree) (answers : List What) (call : ℕ) (went_wrong : Truth) → IsCallTree calls
    → state_in calls answers ≡ Found call → AgreesWithMarks calls answers went_wrong → IsBuggy calls went_wrong call
found_is_buggy calls answers call went_wrong are h agrees =
    let is = found calls answers call h in
    let there = buggy_is_left calls answers call went_wrong are is.accused agrees in
    let P : ℕ → Type 0 = IsBuggy calls went_wrong in
    subst P (left_is calls answers call there.0 is there.1) there.2
