-- What the lines of a console do to the entries, read as acts: an entry stands if one of these made it and none took it
-- back. No list of entries with flags is kept here, as a book keeps one.
use Rattle.std.specs.Prelude.{if◌then◌else◌, ◌++◌, ◌+◌, ◌∷◌, ◌≡◌, [], ℕ, Bool, List, None, Option, Some, length, nat_le}
use Rattle.std.specs.Prelude.{nat_lt, option_map}
use Rattle.core_program.specs.ProgramRows.{ProgramRows}
use Rattle.answer_book.specs.declared.entries.{Judgement.Judgement, What.What}
use Rattle.optimal_query.specs.{Accepted.standing_after, Laws.state_in}
use Rattle.optimal_query.specs.Accepted.{CommandAct, Made, act_of, acts_giving, and_then, entries_after, number_made}
use Rattle.optimal_query.specs.Standing.{Command, Judge, TakeBack, TakeBackLast, Trust}
use Rattle.optimal_query.specs.declared.state.SearchState.{SearchState, TheVariants.Ask}
use Rattle.answer_reuse.specs.{Classes.class_of, Shared.judged_each, Shared.standing_alike}
use Rattle.dialog_replies.specs.{Instructions.instruction_of, Said.Held, Said.KeptReplies, Said.kept_on}
use Rattle.dialog_replies.specs.{Slices.slice_answers, Subject.Subject, Subject.calls_recorded, Subject.routine_named}
use Rattle.dialog_replies.specs.declared.{references.Referred.Referred, slices.SliceOf.SliceOf}
use Rattle.dialog_replies.specs.declared.instructions.{DialogCommand.DialogCommand, Instruction.Instruction}
use Rattle.dialog_replies.specs.declared.slices.SliceOf.TheVariants as slices
use Rattle.ask_session.specs.Dialog.{Granted, errand_in, granted_after_line, is_too_long, next_granted, reference_after}
use Rattle.ask_session.specs.Turned.{held_through}

-- a judgement on the call that is asked about, if one is
abbrev pub judgement_on : Judgement → SearchState → Option Command
judgement_on judgement (Ask call weight suspects left) = Some (Judge call judgement)
judgement_on judgement state = None

-- the judgement that was kept of the question, on the call that is asked about, if there are both
abbrev pub judgement_kept : Subject → KeptReplies → SearchState → Option Command
judgement_kept s kept (Ask call weight suspects left) = option_map (Judge call) (kept_on s kept call)
judgement_kept s kept state = None

-- the judgement of a right program on a call, if there is such a call and it judges it
abbrev pub judgement_by : (call : ℕ) → Referred → Option Command
judgement_by call (Referred.Judged judgement) = Some (Judge call judgement)
judgement_by call none = None

abbrev pub judgement_referred : Subject → (reference : ProgramRows) → (call : ℕ) → Option Command
judgement_referred s reference call =
    if nat_lt call (calls_recorded s) then judgement_by call (s.refer reference call) else None

abbrev pub judgement_asked : Subject → (reference : ProgramRows) → SearchState → Option Command
judgement_asked s reference (Ask call weight suspects left) = judgement_referred s reference call
judgement_asked s reference state = None

-- on the call of this number, or on the one that is asked about
abbrev pub refer_command : Subject → (reference : Option ProgramRows) → (call : Option ℕ) → SearchState → Option Command
refer_command s None call state = None
refer_command s (Some reference) (Some call) state = judgement_referred s reference call
refer_command s (Some reference) None state = judgement_asked s reference state

-- what is known beside the acts: the replies that are kept, and the right program that answers, if one was read
pub record Known : Type 0 where
  pub kept : KeptReplies
  pub reference : Option ProgramRows

-- the command to a search that an instruction is after these acts, if it is one, where this is known
abbrev pub command_in : Subject → Known → List CommandAct → Instruction → Option Command
command_in s known acts (Instruction.Command (DialogCommand.Judge judgement None)) =
    judgement_on judgement (state_in s.tree (standing_after acts))
command_in s known acts (Instruction.Command (DialogCommand.Judge judgement (Some call))) = Some (Judge call judgement)
command_in s known acts (Instruction.Command DialogCommand.Same) =
    judgement_kept s known.kept (state_in s.tree (standing_after acts))
command_in s known acts (Instruction.Command (DialogCommand.TrustNamed name)) = option_map Trust (routine_named s name)
command_in s known acts (Instruction.Command (DialogCommand.Trust routine)) = Some (Trust routine)
command_in s known acts (Instruction.Command (DialogCommand.TakeBack None)) = Some TakeBackLast
command_in s known acts (Instruction.Command (DialogCommand.TakeBack (Some number))) = Some (TakeBack number)
command_in s known acts (Instruction.Refer call) =
    refer_command s known.reference call (state_in s.tree (standing_after acts))
command_in s known acts instruction = None

-- what it does; nothing where it is refused
abbrev pub act_by : Subject → List CommandAct → Option Command → Option CommandAct
act_by s acts None = None
act_by s acts (Some command) = act_of (length s.tree.routine) s.routines acts command

-- ---- a line that slices makes an entry for each call that it speaks of, if there is room for all of them

abbrev pub acts_making : List CommandAct → List What → List CommandAct
acts_making acts [] = acts
acts_making acts (what ∷ whats) = acts_making (acts ++ Made (number_made acts + 1) what ∷ []) whats

abbrev pub acts_if_room : List CommandAct → List What → List CommandAct
acts_if_room acts whats = if nat_le (number_made acts + length whats) 100000 then acts_making acts whats else acts

abbrev pub acts_by_slice : Subject → List CommandAct → (call : ℕ) → SliceOf (ℕ → Bool) → List CommandAct
acts_by_slice s acts call (slices.Slice has) = acts_if_room acts (slice_answers s (standing_after acts) has call)
acts_by_slice s acts call slices.NoOutput = acts
acts_by_slice s acts call slices.TooMany = acts

abbrev pub acts_of_slice : Subject → List CommandAct → (call : ℕ) → (name : List ℕ) → List CommandAct
acts_of_slice s acts call name =
    if nat_lt call (calls_recorded s) then acts_by_slice s acts call (s.slice call name) else acts

-- ---- so does one that judges all calls that are alike to one; or it takes such judgements back

abbrev pub acts_by_classes : (classes : Option (List ℕ)) → List CommandAct → (List ℕ → List CommandAct)
    → List CommandAct
acts_by_classes None acts goes = acts
acts_by_classes (Some classes) acts goes = goes classes

abbrev pub acts_on_alike : Subject → List CommandAct → (call : ℕ) → (List ℕ → List CommandAct) → List CommandAct
acts_on_alike s acts call goes = if nat_lt call (calls_recorded s) then acts_by_classes s.classes acts goes else acts

abbrev pub acts_judging_alike : Subject → List CommandAct → Judgement → (call : ℕ) → List CommandAct
acts_judging_alike s acts judgement call =
    acts_on_alike s acts call (λ classes. acts_if_room acts (judged_each judgement (class_of classes call)))

abbrev pub acts_judging_asked : Subject → List CommandAct → Judgement → SearchState → List CommandAct
acts_judging_asked s acts judgement (Ask call weight suspects left) = acts_judging_alike s acts judgement call
acts_judging_asked s acts judgement state = acts

-- each entry as it is by a command of its own
abbrev pub acts_taking_back : Subject → List CommandAct → (numbers : List ℕ) → List CommandAct
acts_taking_back s acts [] = acts
acts_taking_back s acts (number ∷ numbers) =
    acts_taking_back s (and_then acts (act_by s acts (Some (TakeBack number)))) numbers

abbrev pub acts_taking_back_alike : Subject → List CommandAct → (call : ℕ) → List CommandAct
acts_taking_back_alike s acts call = acts_on_alike s acts call
    (λ classes. acts_taking_back s acts (standing_alike (entries_after acts) classes call))

-- these acts and those of an instruction
abbrev pub acts_after_instruction : Subject → Known → List CommandAct → Instruction → List CommandAct
acts_after_instruction s known acts (Instruction.Command (DialogCommand.Slice call name)) =
    acts_of_slice s acts call name
acts_after_instruction s known acts (Instruction.Command (DialogCommand.JudgeAlike judgement None)) =
    acts_judging_asked s acts judgement (state_in s.tree (standing_after acts))
acts_after_instruction s known acts (Instruction.Command (DialogCommand.JudgeAlike judgement (Some call))) =
    acts_judging_alike s acts judgement call
acts_after_instruction s known acts (Instruction.Command (DialogCommand.TakeBackAlike call)) =
    acts_taking_back_alike s acts call
acts_after_instruction s known acts instruction = and_then acts (act_by s acts (command_in s known acts instruction))

-- these acts and those of a line
abbrev pub acts_after_line : Subject → Known → List CommandAct → (line : List ℕ) → List CommandAct
acts_after_line s known acts line =
    if is_too_long line then acts else acts_after_instruction s known acts (instruction_of line)

-- what is known after it
abbrev pub known_after_line : Known → Granted → (line : List ℕ) → Known
known_after_line known granted line = record {
  kept = known.kept;
  reference = reference_after known.reference (errand_in line) granted;
}

abbrev pub acts_after_lines : Subject → Known → List CommandAct → (granted : List Granted) → (lines : List (List ℕ))
    → List CommandAct
acts_after_lines s known acts granted [] = acts
acts_after_lines s known acts granted (line ∷ lines) =
    acts_after_lines s (known_after_line known (next_granted granted) line) (acts_after_line s known acts line)
    (granted_after_line (errand_in line) granted) lines

-- After these lines the entries are those that the acts make which gave the first ones, and those of the lines; an
-- entry stands there if no act took it back.
abbrev pub EntriesFollowLines : Subject → Type 0
EntriesFollowLines s =
    (first : Held) (granted : List Granted) (lines : List (List ℕ))
    → (held_through s first granted lines).said.entries
    ≡ entries_after (acts_after_lines s (record { kept = first.said.replies; reference = first.reference })
    (acts_giving first.said.entries) granted lines)
