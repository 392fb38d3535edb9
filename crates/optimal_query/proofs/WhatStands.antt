-- No command changes the columns of a search.
use Rattle.std.proofs.Common.{◌∙◌, ◌∷◌, ◌≡◌, [], ℕ, Err, List, Ok, Result, ap, refl}
use Rattle.call_tree.specs.Recording.{lasts_of}
use Rattle.answer_book.specs.{Answers.judge_answer, Answers.take_back_answer, Answers.take_back_last_answer, Answers.trust_answer, Marks.marks_of}
use Rattle.answer_book.specs.declared.entries.{BookFault.BookFault, What.TheVariants.Judged, What.TheVariants.Trusted}
use Rattle.optimal_query.specs.{Region.next_after, Standing.if_accepted, Standing.search_taken_back, Standing.searched, State.doubts_after, State.state_of}
use Rattle.optimal_query.specs.Search.{Search, new_search, search_with, search_without}
use Rattle.optimal_query.specs.Standing.{Command, Judge, SearchDependsOnWhatStands, TakeBack, TakeBackLast, Trust, after_command, after_commands, answers_after}

pub record SameColumns (after before : Search) : Type 0 where
  pub last : after.last ≡ before.last
  pub routine : after.book.routine ≡ before.book.routine
  pub routines : after.book.routines ≡ before.book.routines

same_if_accepted : {X : Type 0} (answer : Result X BookFault) (changed search : Search) → SameColumns changed search
    → SameColumns (if_accepted answer changed search) search
same_if_accepted (Ok answer) changed search same = same
same_if_accepted (Err fault) changed search same = record { last = refl; routine = refl; routines = refl }

same_without_last : (answer : Result ℕ BookFault) (search : Search) → SameColumns (search_taken_back answer search) search
same_without_last (Ok number) search = record { last = refl; routine = refl; routines = refl }
same_without_last (Err fault) search = record { last = refl; routine = refl; routines = refl }

pub same_after_command : (search : Search) (command : Command) → SameColumns (after_command search command) search
same_after_command search (Judge call judgement) =
    same_if_accepted (judge_answer search.book call) (search_with search (Judged call judgement)) search
    (record { last = refl; routine = refl; routines = refl })
same_after_command search (Trust routine) =
    same_if_accepted (trust_answer search.book routine) (search_with search (Trusted routine)) search
    (record { last = refl; routine = refl; routines = refl })
same_after_command search (TakeBack number) =
    same_if_accepted (take_back_answer search.book number) (search_without search number) search
    (record { last = refl; routine = refl; routines = refl })
same_after_command search TakeBackLast = same_without_last (take_back_last_answer search.book) search

same_after_commands : (search : Search) (commands : List Command) → SameColumns (after_commands search commands) search
same_after_commands search [] = record { last = refl; routine = refl; routines = refl }
same_after_commands search (command ∷ commands) =
    let rest = same_after_commands (after_command search command) commands in
    let first = same_after_command search command in
    record { last = rest.last ∙ first.last; routine = rest.routine ∙ first.routine; routines = rest.routines ∙ first.routines }

pub depends_on_what_stands : SearchDependsOnWhatStands
depends_on_what_stands run commands =
    let same = same_after_commands (new_search run) commands in
    let said = answers_after run commands in
    let own = (searched run commands).book.routine in
    record {
      marks = ap (λ (routine : List ℕ). marks_of routine said) same.routine;
      state = ap (λ (last : List ℕ). state_of last own said) same.last
          ∙ ap (λ (routine : List ℕ). state_of (lasts_of run.calls) routine said) same.routine;
      doubts = λ before. ap (λ (last : List ℕ). next_after (doubts_after last own said) before) same.last
          ∙ ap (λ (routine : List ℕ). next_after (doubts_after (lasts_of run.calls) routine said) before) same.routine;
    }
