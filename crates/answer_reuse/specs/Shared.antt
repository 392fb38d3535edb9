-- Judgements on all calls of a class at once, and the marks that they leave.
use Rattle.std.specs.Prelude.{if◌then◌else◌, ◌&&◌, ◌*◌, ◌+◌, ◌<◌, ◌==◌, ◌∷◌, [], ℕ, Bool, Err, List, None, Ok, Option}
use Rattle.std.specs.Prelude.{Result, Some, false, filter, fold, length, map, nat_le, nat_lt, slice_index}
use Rattle.std.specs.{Prelude.slice_index_or, Prelude.sum_by, Prelude.true, List.cons_option, List.list_any}
use Rattle.call_tree.specs.declared.records.Mark.{Mark}
use Rattle.answer_book.specs.{Accused.is_wrong, Answers.Answers, Answers.trust_answer, Entries.entry_at}
use Rattle.answer_book.specs.{Marks.is_trusted, Marks.mark_given, Numbers.last_of, Numbers.last_where}
use Rattle.answer_book.specs.{Numbers.numbers_below, declared.entries.BookFault.BookFault, declared.entries.Entry.Entry}
use Rattle.answer_book.specs.declared.entries.BookFault.TheVariants as fault
use Rattle.answer_book.specs.declared.entries.Judgement.{Judgement, TheVariants.Wrong}
use Rattle.answer_book.specs.declared.entries.What.{What, TheVariants.Judged, TheVariants.Trusted}
use Rattle.optimal_query.specs.Changed.{most_steps_at}
use Rattle.optimal_query.specs.Search.{Search, answers_in, search_with, search_without}
use Rattle.answer_reuse.specs.Classes.{class_of, class_size}

-- the most entries of a book
abbrev pub most_entries : ℕ
most_entries = 100000

-- ---- one judgement on each call of a class

-- the first and the last entry, where there is room for all
abbrev pub judge_alike_answer : Answers → (classes : List ℕ) → (call : ℕ) → Result (ℕ × ℕ) BookFault
judge_alike_answer book classes call =
    if nat_le (length book.routine) call then Err (fault.NoCall call)
    else (if nat_lt most_entries (length book.entries + class_size classes call) then Err fault.Full
    else Ok (length book.entries + 1, length book.entries + class_size classes call))

abbrev pub judged_each : Judgement → (calls : List ℕ) → List What
judged_each judgement calls = map (λ call. Judged call judgement) calls

abbrev pub search_with_each : Search → List What → Search
search_with_each search whats = fold search_with search whats

-- one judgement on a call, if it is one of those to be judged
abbrev pub search_with_one : Search → Bool → (call : ℕ) → Judgement → Search
search_with_one search is_one call judgement = if is_one then search_with search (Judged call judgement) else search

abbrev pub one_steps : (depth : List ℕ) → Bool → (call : ℕ) → ℕ
one_steps depth is_one call = if is_one then 3 * (slice_index depth call + 1) else 0

-- what one judgement on each of these calls costs at most, and what one change of the mark of each does
abbrev pub shared_steps : (depth : List ℕ) → (calls : List ℕ) → ℕ
shared_steps depth calls = sum_by (λ call. 3 * (slice_index depth call + 1)) calls

-- ---- the standing judgements on the calls of a class, taken back

-- whether an entry stands and judges a call of the class with this least call
abbrev pub judges_call_of : (classes : List ℕ) → (least : ℕ) → What → Bool
judges_call_of classes least (Judged other judgement) = slice_index classes other == least
judges_call_of classes least (Trusted routine) = false

abbrev pub judges_of : (classes : List ℕ) → (least : ℕ) → Entry → Bool
judges_of classes least entry = entry.standing && judges_call_of classes least entry.what

abbrev pub judges_in : (classes : List ℕ) → (least : ℕ) → Option Entry → Bool
judges_in classes least (Some entry) = judges_of classes least entry
judges_in classes least None = false

-- the numbers of these, rising
abbrev pub standing_of : List Entry → (classes : List ℕ) → (least : ℕ) → List ℕ
standing_of entries classes least =
    filter (λ number. judges_in classes least (entry_at entries number)) (numbers_below (length entries + 1))

abbrev pub standing_alike : List Entry → (classes : List ℕ) → (call : ℕ) → List ℕ
standing_alike entries classes call = standing_of entries classes (slice_index classes call)

abbrev pub number_taken : List ℕ → Result ℕ BookFault
number_taken [] = Err fault.NothingStanding
number_taken (number ∷ numbers) = Ok (length (number ∷ numbers))

abbrev pub take_back_alike_answer : Answers → (classes : List ℕ) → (call : ℕ) → Result ℕ BookFault
take_back_alike_answer book classes call =
    if nat_le (length book.routine) call then Err (fault.NoCall call)
    else number_taken (standing_alike book.entries classes call)

-- a call that is judged is one of these many
abbrev pub IsOfCalls : (calls : ℕ) → What → Type 0
IsOfCalls calls (Judged call judgement) = call < calls
IsOfCalls calls (Trusted routine) = Unit {0}

-- an entry taken back, if it is one of those to be taken back
abbrev pub search_without_one : Search → Bool → (number : ℕ) → Search
search_without_one search is_one number = if is_one then search_without search number else search

abbrev pub without_one_steps : Search → Bool → (number : ℕ) → ℕ
without_one_steps search is_one number =
    if is_one then most_steps_at search (entry_at search.book.entries number) else 0

abbrev pub search_without_each : Search → List ℕ → Search
search_without_each search numbers = fold search_without search numbers

-- ---- the marks that such judgements leave

-- A judgement on all calls alike to one, taking these back, trust, and taking back the entry of this number. The last
-- is for entries that trust; where another has the number, or it was taken back before, nothing changes.
pub data SharedCommand : Type 0 where
  JudgeAlike : (call : ℕ) (judgement : Judgement) → SharedCommand
  TakeBackAlike : (call : ℕ) → SharedCommand
  TrustRoutine : (routine : ℕ) → SharedCommand
  TakeBackTrust : (number : ℕ) → SharedCommand

abbrev pub says_trust : What → Bool
says_trust (Trusted routine) = true
says_trust (Judged call judgement) = false

abbrev pub is_trust : Option Entry → Bool
is_trust (Some entry) = entry.standing && says_trust entry.what
is_trust None = false

-- whether a command is accepted, and the search after it
abbrev pub is_accepted : {X : Type 0} → Result X BookFault → Bool
is_accepted (Ok answer) = true
is_accepted (Err why) = false

abbrev pub accepts : (classes : List ℕ) → Search → SharedCommand → Bool
accepts classes search (JudgeAlike call judgement) = is_accepted (judge_alike_answer search.book classes call)
accepts classes search (TakeBackAlike call) = is_accepted (take_back_alike_answer search.book classes call)
accepts classes search (TrustRoutine routine) = is_accepted (trust_answer search.book routine)
accepts classes search (TakeBackTrust number) = is_trust (entry_at search.book.entries number)

abbrev pub after_accepted : (classes : List ℕ) → Search → SharedCommand → Search
after_accepted classes search (JudgeAlike call judgement) =
    search_with_each search (judged_each judgement (class_of classes call))
after_accepted classes search (TakeBackAlike call) =
    search_without_each search (standing_alike search.book.entries classes call)
after_accepted classes search (TrustRoutine routine) = search_with search (Trusted routine)
after_accepted classes search (TakeBackTrust number) = search_without search number

abbrev pub after_shared : (classes : List ℕ) → Search → List SharedCommand → Search
after_shared classes search [] = search
after_shared classes search (command ∷ commands) = after_shared classes
    (if accepts classes search command then after_accepted classes search command else search) commands

-- the commands among these that are accepted, first to last
abbrev pub accepted_of : (classes : List ℕ) → Search → List SharedCommand → List SharedCommand
accepted_of classes search [] = []
accepted_of classes search (command ∷ commands) =
    if accepts classes search command
    then command ∷ accepted_of classes (after_accepted classes search command) commands
    else accepted_of classes search commands

-- the judgement that such a command gives on the calls alike to a call
abbrev pub judges_alike : (classes : List ℕ) → (call : ℕ) → SharedCommand → Option Judgement
judges_alike classes call (JudgeAlike other judgement) =
    if slice_index classes other == slice_index classes call then Some judgement else None
judges_alike classes call command = None

-- whether it takes such judgements back
abbrev pub takes_back_alike : (classes : List ℕ) → (call : ℕ) → SharedCommand → Bool
takes_back_alike classes call (TakeBackAlike other) = slice_index classes other == slice_index classes call
takes_back_alike classes call command = false

-- the judgements that commands give on the calls alike to a call, first to last, but for those that a later one of them
-- takes back
abbrev pub judgements_left : (classes : List ℕ) → (call : ℕ) → List SharedCommand → List Judgement
judgements_left classes call [] = []
judgements_left classes call (command ∷ later) = cons_option
    (if list_any (takes_back_alike classes call) later then None else judges_alike classes call command)
    (judgements_left classes call later)

-- The judgement that accepted commands leave on a call is the last of these. The run was wrong, and so was call 0,
-- before the first command.
abbrev pub shared_judgement : (classes : List ℕ) → List SharedCommand → (call : ℕ) → Option Judgement
shared_judgement classes accepted call = last_of (judgements_left classes call (JudgeAlike 0 Wrong ∷ accepted))

-- the mark by it, and where there is none, by whether the routine is trusted
abbrev pub shared_mark : (classes : List ℕ) → Search → List SharedCommand → (call : ℕ) → Mark
shared_mark classes first commands call =
    mark_given (shared_judgement classes (accepted_of classes first commands) call)
    (is_trusted (answers_in (after_shared classes first commands)) (slice_index first.book.routine call))

-- the accused by these marks: the greatest call that is marked wrong
abbrev pub accused_by : List Mark → Option ℕ
accused_by marks =
    last_where (λ call. is_wrong (slice_index_or marks call Mark.Unjudged)) (numbers_below (length marks))
