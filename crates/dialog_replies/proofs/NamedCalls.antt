-- The calls that a state of the search names are calls of the run, and so are the doubts, which rise.
use Rattle.std.proofs.Common.{◌<◌, ◌∙◌, ◌∷◌, ◌≡◌, [], ℕ, List, None, Option, Some, ap, find, length, refl, subst, sym}
use Rattle.call_tree.specs.declared.records.Mark.{Mark}
use Rattle.subtree_weights.specs.Searched.{is_searched}
use Rattle.answer_book.{proofs.LastWhere.last_where_is, specs.declared.entries.Entry.Entry, specs.declared.entries.What.What}
use Rattle.answer_book.specs.{Accused.accused_of, Accused.is_wrong, Entries.standing_answers, Marks.mark_of, Marks.marks_of, Numbers.numbers_below}
use Rattle.optimal_query.specs.{Question.leaves_least, Question.question_of, Search.Search, Search.answers_in, Search.next_doubt, State.state_by}
use Rattle.optimal_query.specs.{State.state_of, State.state_with, State.verdict_by, declared.state.SearchState.SearchState}
use Rattle.optimal_query.specs.Region.{doubts_of, is_after, next_after, suspects_of}
use Rattle.optimal_query.specs.State as search_state
use Rattle.optimal_query.specs.declared.state.SearchState.TheVariants.{Ask, Found, Narrowed, NothingWrong, Unclear}
use Rattle.dialog_replies.proofs.RisingCalls.{Rises, filter_rises, found_within, numbers_rise}
use Rattle.dialog_replies.specs.{Kept.IsSearchOf, Subject.Subject, Subject.calls_recorded, Subject.doubts_after, Subject.state_after}

suspects_rise : (last : List ℕ) (marks : List Mark) (accused : Option ℕ) → Rises 0 (length last) (suspects_of last marks accused)
unfolding suspects_of
suspects_rise last marks accused =
    filter_rises _ 0 (length last) _ (filter_rises (is_searched last marks accused) 0 (length last) (numbers_below (length last)) (numbers_rise (length last)))

pub doubts_rise : (last : List ℕ) (marks : List Mark) (accused : Option ℕ) → Rises 0 (length last) (doubts_of last marks accused)
unfolding doubts_of
doubts_rise last marks accused =
    filter_rises _ 0 (length last) _ (filter_rises (is_searched last marks accused) 0 (length last) (numbers_below (length last)) (numbers_rise (length last)))

-- the call that a state names, if it names one, is below a number
abbrev pub NamesBelow : ℕ → SearchState → Type 0
NamesBelow n (Ask call weight suspects left) = call < n
NamesBelow n (Found call) = call < n
NamesBelow n (Narrowed call) = call < n
NamesBelow n NothingWrong = Unit {0}
NamesBelow n Unclear = Unit {0}

verdict_below : (n : ℕ) (accused : Option ℕ) (doubts : List ℕ) → ((a : ℕ) → accused ≡ Some a → a < n) → NamesBelow n (verdict_by accused doubts)
verdict_below n (Some a) [] h = h a refl
verdict_below n (Some a) (d ∷ ds) h = h a refl
verdict_below n None [] h = tt
verdict_below n None (d ∷ ds) h = tt

asked_below : (n : ℕ) (last suspects : List ℕ) (question : Option ℕ) (verdict : SearchState) → ((call : ℕ) → question ≡ Some call → call < n)
    → NamesBelow n verdict → NamesBelow n (state_by last suspects question verdict)
asked_below n last suspects (Some call) verdict h v = h call refl
asked_below n last suspects None verdict h v = v

question_below : (n : ℕ) (last suspects : List ℕ) (call : ℕ) → Rises 0 n suspects → question_of last suspects ≡ Some call → call < n
unfolding question_of
question_below n last suspects call r h = (found_within (leaves_least last suspects) 0 n suspects call r h).1

accused_below : (routine : List ℕ) (answers : List What) (call : ℕ) → accused_of routine answers ≡ Some call → call < length routine
unfolding accused_of
accused_below routine answers call h = (last_where_is (λ k. is_wrong (mark_of routine answers k)) (length routine) call h).inside

state_below : (last routine : List ℕ) (answers : List What) → length routine ≡ length last → NamesBelow (length last) (state_of last routine answers)
unfolding state_with
state_below last routine answers same =
    let marks = marks_of routine answers in
    let accused = accused_of routine answers in
    asked_below (length last) last (suspects_of last marks accused) (question_of last (suspects_of last marks accused))
    (verdict_by accused (doubts_of last marks accused))
    (λ call h. question_below (length last) last (suspects_of last marks accused) call (suspects_rise last marks accused) h)
    (verdict_below (length last) accused (doubts_of last marks accused) (λ a h. subst (λ n. a < n) same (accused_below routine answers a h)))

-- the calls that the state names
pub names_a_call : (s : Subject) (entries : List Entry) (state : SearchState) → length s.tree.routine ≡ length s.tree.last
    → state ≡ state_after s entries → NamesBelow (calls_recorded s) state
names_a_call s entries state same is =
    subst (NamesBelow (calls_recorded s)) (sym is) (state_below s.tree.last s.tree.routine (standing_answers entries) same)

-- there is a routine for each call
pub routines_match : (s : Subject) (search : Search) → IsSearchOf s search → length s.tree.routine ≡ length s.tree.last
routines_match s search h = sym (ap length h.routine) ∙ h.of_routines ∙ ap length h.last

-- the call that a state of this search names
pub named_below : (s : Subject) (search : Search) (state : SearchState) → IsSearchOf s search → state ≡ state_after s search.book.entries
    → NamesBelow (calls_recorded s) state
named_below s search state h is = names_a_call s search.book.entries state (routines_match s search h) is

-- ---- doubts

pub all_rise : (s : Subject) (entries : List Entry) → Rises 0 (calls_recorded s) (doubts_after s entries)
all_rise s entries =
    doubts_rise s.tree.last (marks_of s.tree.routine (standing_answers entries)) (accused_of s.tree.routine (standing_answers entries))

pub next_of_doubts : (s : Subject) (search : Search) (before : Option ℕ) → IsSearchOf s search
    → next_doubt search before ≡ find (is_after before) (doubts_after s search.book.entries)
next_of_doubts s search before h =
    ap (λ last. next_after (search_state.doubts_after last search.book.routine (answers_in search)) before) h.last
    ∙ ap (λ routine. next_after (search_state.doubts_after s.tree.last routine (answers_in search)) before) h.routine
