-- What each line of the dialog is replied, and the entries after it.
use Rattle.std.specs.Prelude.{if◌then◌else◌, ◌&&◌, ◌++◌, [], ℕ, Bool, Err, List, None, Ok, Option, Result, Some, codes}
use Rattle.std.specs.Prelude.{decimal, flat_map, length, nat_le, nat_lt}
use Rattle.core_program.specs.ProgramRows.{ProgramRows}
use Rattle.answer_book.specs.Answers.{judge_answer, take_back_answer, take_back_last_answer, trust_answer}
use Rattle.answer_book.specs.Entries.{entries_with, entries_without, standing_answers}
use Rattle.answer_book.specs.declared.entries.{BookFault.BookFault, Entry.Entry, Judgement.Judgement}
use Rattle.answer_book.specs.declared.entries.What.{What, TheVariants.Judged, TheVariants.Trusted}
use Rattle.optimal_query.specs.declared.state.SearchState.{SearchState, TheVariants.Ask}
use Rattle.answer_reuse.specs.{Classes.class_of, Shared.judged_each, Shared.number_taken, Shared.standing_alike}
use Rattle.session_file.specs.Notes.{with_note}
use Rattle.dialog_replies.specs.{Alike.entries_without_all, Said.Held, Said.Said, Said.kept_on}
use Rattle.dialog_replies.specs.{Start.gives_replies_alone, Start.said_at_start, Texts.report, Texts.tree_text}
use Rattle.dialog_replies.specs.Slices.{all_answer, entries_with_all, slice_answers}
use Rattle.dialog_replies.specs.Subject.{Subject, book_of, calls_recorded, routine_named, state_after}
use Rattle.dialog_replies.specs.declared.{references.Referred.Referred, slices.SliceOf.SliceOf, start.Start.Start}
use Rattle.dialog_replies.specs.declared.instructions.{DialogCommand.DialogCommand, Instruction.Instruction}
use Rattle.dialog_replies.specs.declared.slices.SliceOf.TheVariants as slices

-- what was said after a line, and its reply
pub record LineOutcome : Type 0 where
  pub said : Said
  pub reply : List ℕ

abbrev pub replied : Said → List ℕ → LineOutcome
replied said reply = record { said = said; reply = reply }

-- ---- refusals, which change nothing

abbrev pub no_call : ℕ → List ℕ
no_call call = codes "no call " ++ decimal call ++ codes "\n"

abbrev pub book_fault_text : BookFault → List ℕ
book_fault_text (BookFault.NoCall call) = no_call call
book_fault_text (BookFault.NoRoutine routine) = codes "no routine #" ++ decimal routine ++ codes "\n"
book_fault_text (BookFault.NotStanding number) = codes "entry " ++ decimal number ++ codes " does not stand\n"
book_fault_text BookFault.NothingStanding = codes "nothing stands\n"
book_fault_text BookFault.Full = codes "book is full\n"

-- ---- a new entry, if the book takes it

-- the same with these entries
abbrev pub with_entries_now : Said → List Entry → Said
with_entries_now said entries = record said { entries = entries }

abbrev pub entry_text : Subject → Said → ℕ → List ℕ
entry_text s said number = codes "entry " ++ decimal number ++ codes "\n" ++ report s said

abbrev pub adds : Subject → Said → What → Result ℕ BookFault → LineOutcome
adds s said what (Ok number) =
    replied (with_entries_now said (entries_with said.entries what))
    (entry_text s (with_entries_now said (entries_with said.entries what)) number)
adds s said what (Err why) = replied said (book_fault_text why)

abbrev pub judges : Subject → Said → Judgement → ℕ → LineOutcome
judges s said judgement call = adds s said (Judged call judgement) (judge_answer (book_of s said.entries) call)

-- a judgement on the call that is asked about
abbrev pub judges_asked : Subject → Said → Judgement → SearchState → LineOutcome
judges_asked s said judgement (Ask call weight suspects left) = judges s said judgement call
judges_asked s said judgement state = replied said (codes "no question\n")

-- the reply that was kept to the question, as a judgement on the call that is asked about
abbrev pub judges_as_kept : Subject → Said → (call : ℕ) → Option Judgement → LineOutcome
judges_as_kept s said call (Some judgement) = judges s said judgement call
judges_as_kept s said call None = replied said (codes "no kept reply\n")

abbrev pub judges_same : Subject → Said → SearchState → LineOutcome
judges_same s said (Ask call weight suspects left) = judges_as_kept s said call (kept_on s said.replies call)
judges_same s said state = replied said (codes "no question\n")

abbrev pub trust_outcome : Subject → Said → ℕ → LineOutcome
trust_outcome s said routine = adds s said (Trusted routine) (trust_answer (book_of s said.entries) routine)

abbrev pub trusts_named : Subject → Said → List ℕ → Option ℕ → LineOutcome
trusts_named s said name (Some routine) = trust_outcome s said routine
trusts_named s said name None = replied said (codes "no routine " ++ name ++ codes "\n")

-- ---- an entry is taken back, if it stands

abbrev pub back_text : Subject → Said → ℕ → List ℕ
back_text s said number = codes "back " ++ decimal number ++ codes "\n" ++ report s said

abbrev pub without : Subject → Said → ℕ → LineOutcome
without s said number =
    replied (with_entries_now said (entries_without said.entries number))
    (back_text s (with_entries_now said (entries_without said.entries number)) number)

abbrev pub takes_back : Subject → Said → ℕ → Result (Unit {0}) BookFault → LineOutcome
takes_back s said number (Ok done) = without s said number
takes_back s said number (Err why) = replied said (book_fault_text why)

abbrev pub takes_back_last : Subject → Said → Result ℕ BookFault → LineOutcome
takes_back_last s said (Ok number) = without s said number
takes_back_last s said (Err why) = replied said (book_fault_text why)

-- ---- a note is put on an entry, also on one that was taken back

abbrev pub is_made : Said → (entry : ℕ) → Bool
is_made said entry = nat_le 1 entry && nat_le entry (length said.entries)

abbrev pub notes_entry : Said → (entry : ℕ) → (note : List ℕ) → LineOutcome
notes_entry said entry note =
    if is_made said entry then
    replied (record said { notes = with_note said.notes entry note }) (codes "noted " ++ decimal entry ++ codes "\n")
    else replied said (codes "no entry " ++ decimal entry ++ codes "\n")

-- ---- what is asked for

abbrev pub card_or_none : Subject → ℕ → List ℕ
card_or_none s call = if nat_lt call (calls_recorded s) then s.card call else no_call call

abbrev pub trace_or_none : Subject → ℕ → List ℕ
trace_or_none s call = if nat_lt call (calls_recorded s) then s.trace call else no_call call

abbrev pub no_cell : (call : ℕ) → (name : List ℕ) → List ℕ
no_cell call name = codes "no cell " ++ name ++ codes " at call " ++ decimal call ++ codes "\n"

-- what the cells of a name held before and after a call
abbrev pub state_or_none : Subject → (call : ℕ) → (name : List ℕ) → List ℕ
state_or_none s call name =
    if nat_lt call (calls_recorded s) then (if s.has_cell call name then s.state call name else no_cell call name)
    else no_call call

abbrev pub carry_line : (words : List ℕ) → (call onto : ℕ) → List ℕ
carry_line words call onto = codes "call " ++ decimal call ++ words ++ decimal onto ++ codes "\n"

abbrev pub carry_text : (carries : Bool) → (call onto : ℕ) → List ℕ
carry_text carries call onto =
    if carries then carry_line (codes " carries to call ") call onto
    else carry_line (codes " does not carry to call ") call onto

-- whether the record of a call may be put in place of its run where another call was entered
abbrev pub carry_or_none : Subject → (call onto : ℕ) → List ℕ
carry_or_none s call onto =
    if nat_lt call (calls_recorded s) then
    (if nat_lt onto (calls_recorded s) then carry_text (s.carries call onto) call onto else no_call onto)
    else no_call call

-- ---- the search is narrowed to the slice of a wrong output

abbrev pub entries_line : (first last : ℕ) → List ℕ
entries_line first last = codes "entries " ++ decimal first ++ codes " to " ++ decimal last ++ codes "\n"

abbrev pub entries_text : Subject → Said → (numbers : ℕ × ℕ) → List ℕ
entries_text s said numbers = entries_line numbers.0 numbers.1 ++ report s said

-- all of these are said, if there is room for them
abbrev pub adds_all : Subject → Said → List What → Result (ℕ × ℕ) BookFault → LineOutcome
adds_all s said whats (Ok numbers) =
    replied (with_entries_now said (entries_with_all said.entries whats))
    (entries_text s (with_entries_now said (entries_with_all said.entries whats)) numbers)
adds_all s said whats (Err why) = replied said (book_fault_text why)

abbrev pub says_all : Subject → Said → List What → LineOutcome
says_all s said whats = adds_all s said whats (all_answer said.entries whats)

abbrev pub no_output : (name : List ℕ) → List ℕ
no_output name = codes "no output " ++ name ++ codes "\n"

abbrev pub slices_by : Subject → Said → (call : ℕ) → (name : List ℕ) → SliceOf (ℕ → Bool) → LineOutcome
slices_by s said call name (slices.Slice has) =
    says_all s said (slice_answers s (standing_answers said.entries) has call)
slices_by s said call name slices.NoOutput = replied said (no_output name)
slices_by s said call name slices.TooMany = replied said (codes "too many to compare\n")

-- the call is wrong, and so is its output of this name
abbrev pub slices_output : Subject → Said → (call : ℕ) → (name : List ℕ) → LineOutcome
slices_output s said call name =
    if nat_lt call (calls_recorded s) then slices_by s said call name (s.slice call name)
    else replied said (no_call call)

-- ---- one answer for calls that are alike

-- what is replied where there is a call of this number, and not too much to compare
abbrev pub if_compared : Said → Option (List ℕ) → (List ℕ → LineOutcome) → LineOutcome
if_compared said (Some classes) goes = goes classes
if_compared said None goes = replied said (codes "too many to compare\n")

abbrev pub with_classes : Subject → Said → (call : ℕ) → (List ℕ → LineOutcome) → LineOutcome
with_classes s said call goes =
    if nat_lt call (calls_recorded s) then if_compared said s.classes goes else replied said (no_call call)

-- the calls that are alike to a call, with that call itself
abbrev pub numbered : ℕ → List ℕ
numbered call = codes " " ++ decimal call

abbrev pub alike_text : (classes : List ℕ) → (call : ℕ) → List ℕ
alike_text classes call = codes "alike" ++ flat_map numbered (class_of classes call) ++ codes "\n"

abbrev pub tells_alike : Subject → Said → (call : ℕ) → LineOutcome
tells_alike s said call = with_classes s said call (λ classes. replied said (alike_text classes call))

-- a judgement on each of them
abbrev pub judges_class : Subject → Said → Judgement → (call : ℕ) → LineOutcome
judges_class s said judgement call =
    with_classes s said call (λ classes. says_all s said (judged_each judgement (class_of classes call)))

abbrev pub judges_class_asked : Subject → Said → Judgement → SearchState → LineOutcome
judges_class_asked s said judgement (Ask call weight suspects left) = judges_class s said judgement call
judges_class_asked s said judgement state = replied said (codes "no question\n")

-- the entries with these numbers are taken back
abbrev pub taken_text : Subject → Said → (taken : ℕ) → List ℕ
taken_text s said taken = codes "taken back " ++ decimal taken ++ codes "\n" ++ report s said

abbrev pub takes_all : Subject → Said → (numbers : List ℕ) → Result ℕ BookFault → LineOutcome
takes_all s said numbers (Ok taken) =
    replied (with_entries_now said (entries_without_all said.entries numbers (Ok taken)))
    (taken_text s (with_entries_now said (entries_without_all said.entries numbers (Ok taken))) taken)
takes_all s said numbers (Err why) = replied said (book_fault_text why)

-- each judgement that stands on one of them is taken back
abbrev pub takes_each_back : Subject → Said → (numbers : List ℕ) → LineOutcome
takes_each_back s said numbers = takes_all s said numbers (number_taken numbers)

abbrev pub takes_back_class : Subject → Said → (call : ℕ) → LineOutcome
takes_back_class s said call =
    with_classes s said call (λ classes. takes_each_back s said (standing_alike said.entries classes call))

-- ---- a right program answers for the user

abbrev pub no_reference_for : (call : ℕ) → List ℕ
no_reference_for call = codes "no reference for call " ++ decimal call ++ codes "\n"

-- the call is judged as the program says, if it says anything of it
abbrev pub refers_by : Subject → Said → (call : ℕ) → Referred → LineOutcome
refers_by s said call (Referred.Judged judgement) = judges s said judgement call
refers_by s said call Referred.Unfit = replied said (no_reference_for call)
refers_by s said call Referred.NoAnswer = replied said (codes "reference gave no answer\n")

abbrev pub refers_to : Subject → Said → (reference : ProgramRows) → (call : ℕ) → LineOutcome
refers_to s said reference call =
    if nat_lt call (calls_recorded s) then refers_by s said call (s.refer reference call)
    else replied said (no_call call)

-- the call that is asked about
abbrev pub refers_asked : Subject → Said → (reference : ProgramRows) → SearchState → LineOutcome
refers_asked s said reference (Ask call weight suspects left) = refers_to s said reference call
refers_asked s said reference state = replied said (codes "no question\n")

abbrev pub refers : Subject → Said → (reference : ProgramRows) → (call : Option ℕ) → LineOutcome
refers s said reference (Some call) = refers_to s said reference call
refers s said reference None = refers_asked s said reference (state_after s said.entries)

-- where no program was read, that is said first
abbrev pub refers_if : Subject → Said → (reference : Option ProgramRows) → (call : Option ℕ) → LineOutcome
refers_if s said (Some reference) call = refers s said reference call
refers_if s said None call = replied said (codes "no reference\n")

unfoldable pub command_outcome : Subject → Said → DialogCommand → LineOutcome
command_outcome s said DialogCommand.Nothing = replied said []
command_outcome s said (DialogCommand.Judge judgement None) = judges_asked s said judgement (state_after s said.entries)
command_outcome s said (DialogCommand.Judge judgement (Some call)) = judges s said judgement call
command_outcome s said DialogCommand.Same = judges_same s said (state_after s said.entries)
command_outcome s said (DialogCommand.TrustNamed name) = trusts_named s said name (routine_named s name)
command_outcome s said (DialogCommand.Trust routine) = trust_outcome s said routine
command_outcome s said (DialogCommand.TakeBack None) =
    takes_back_last s said (take_back_last_answer (book_of s said.entries))
command_outcome s said (DialogCommand.TakeBack (Some number)) =
    takes_back s said number (take_back_answer (book_of s said.entries) number)
command_outcome s said (DialogCommand.Note entry note) = notes_entry said entry note
command_outcome s said (DialogCommand.Show call) = replied said (card_or_none s call)
command_outcome s said (DialogCommand.State call name) = replied said (state_or_none s call name)
command_outcome s said (DialogCommand.Trace call) = replied said (trace_or_none s call)
command_outcome s said (DialogCommand.Slice call name) = slices_output s said call name
command_outcome s said (DialogCommand.Alike call) = tells_alike s said call
command_outcome s said (DialogCommand.JudgeAlike judgement None) =
    judges_class_asked s said judgement (state_after s said.entries)
command_outcome s said (DialogCommand.JudgeAlike judgement (Some call)) = judges_class s said judgement call
command_outcome s said (DialogCommand.TakeBackAlike call) = takes_back_class s said call
command_outcome s said (DialogCommand.Carry call onto) = replied said (carry_or_none s call onto)
command_outcome s said DialogCommand.Tree = replied said (tree_text s said.entries)
command_outcome s said DialogCommand.Other = replied said (codes "not understood\n")

-- What a line that saves, or reads a right program, is replied depends on the keeper, and is said where the session is
-- held.
abbrev pub outcome : Subject → Held → Instruction → LineOutcome
outcome s held (Instruction.Command command) = command_outcome s held.said command
outcome s held (Instruction.Refer call) = refers_if s held.said held.reference call
outcome s held (Instruction.Save file) = replied held.said []
outcome s held (Instruction.Reference file) = replied held.said []
outcome s held Instruction.Quit = replied held.said []

-- ---- what a session opens with, where this was said before: the card of call 0, and a report

abbrev pub opening : Subject → Said → List ℕ
opening s said = s.card 0 ++ report s said

-- and before that, where a saved session of another run gives its replies alone, a line that says so
abbrev pub opening_of : Subject → Start → List ℕ
opening_of s start =
    (if gives_replies_alone start then codes "replies only\n" else []) ++ opening s (said_at_start start)
