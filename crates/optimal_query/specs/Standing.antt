-- Lists of commands to a search, and that it depends on nothing but the answers that stand after them. A command that
-- is refused changes nothing.
use Rattle.std.specs.Prelude.{◌∷◌, ◌≡◌, [], ℕ, Err, List, Ok, Option, Result}
use Rattle.call_tree.specs.Recording.{Recording, lasts_of, routines_of}
use Rattle.answer_book.specs.Answers.{judge_answer, take_back_answer, take_back_last_answer, trust_answer}
use Rattle.answer_book.specs.Marks.{marks_of}
use Rattle.answer_book.specs.declared.entries.{BookFault.BookFault, Judgement.Judgement}
use Rattle.answer_book.specs.declared.entries.What.{What, TheVariants.Judged, TheVariants.Trusted}
use Rattle.optimal_query.specs.{Region.next_after, State.doubts_after, State.state_of}
use Rattle.optimal_query.specs.Search.{Search, answers_in, marks_now, new_search, next_doubt, search_with}
use Rattle.optimal_query.specs.Search.{search_without, state_now}

pub data Command : Type 0 where
  Judge : (call : ℕ) (judgement : Judgement) → Command
  Trust : (routine : ℕ) → Command
  TakeBack : (number : ℕ) → Command
  TakeBackLast : Command

-- the search that a command changes, by the answer to it
abbrev pub if_accepted : {X : Type 0} → Result X BookFault → Search → Search → Search
if_accepted (Ok answer) changed search = changed
if_accepted (Err fault) changed search = search

abbrev pub search_taken_back : Result ℕ BookFault → Search → Search
search_taken_back (Ok number) search = search_without search number
search_taken_back (Err fault) search = search

abbrev pub after_command : Search → Command → Search
after_command search (Judge call judgement) =
    if_accepted (judge_answer search.book call) (search_with search (Judged call judgement)) search
after_command search (Trust routine) =
    if_accepted (trust_answer search.book routine) (search_with search (Trusted routine)) search
after_command search (TakeBack number) =
    if_accepted (take_back_answer search.book number) (search_without search number) search
after_command search TakeBackLast = search_taken_back (take_back_last_answer search.book) search

-- the search after a list of commands, first to last
abbrev pub after_commands : Search → List Command → Search
after_commands search [] = search
after_commands search (command ∷ commands) = after_commands (after_command search command) commands

-- a new search over a run after these commands, and the answers that stand then
abbrev pub searched : Recording → List Command → Search
searched run commands = after_commands (new_search run) commands

abbrev pub answers_after : Recording → List Command → List What
answers_after run commands = answers_in (searched run commands)

-- its marks, its state and its doubts are those that the answers that stand give over the columns of the run
pub record DependsOnWhatStands (run : Recording) (commands : List Command) : Type 0 where
  pub marks : marks_now (searched run commands) ≡ marks_of (routines_of run.calls) (answers_after run commands)
  pub state : state_now (searched run commands)
      ≡ state_of (lasts_of run.calls) (routines_of run.calls) (answers_after run commands)
  pub doubts : (before : Option ℕ) → next_doubt (searched run commands) before
      ≡ next_after (doubts_after (lasts_of run.calls) (routines_of run.calls) (answers_after run commands)) before

abbrev pub SearchDependsOnWhatStands : Type 0
SearchDependsOnWhatStands = (run : Recording) (commands : List Command) → DependsOnWhatStands run commands
