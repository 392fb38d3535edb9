-- A right program that answers for the user: what bytes are read as, and what it says of a call of a run.
use Rattle.std.specs.Prelude.{◌≡◌, ℕ, List, None, Option, Some, slice_get}
use Rattle.pas_phrases.specs.declared.fault.ParseFault.{ParseFault}
use Rattle.core_program.specs.{ProgramRows.ProgramRows, Run.Call, Run.run}
use Rattle.check_steps.specs.declared.breaks.CheckFault.{CheckFault}
use Rattle.code_checker.specs.Pieces.{fault_of_piece}
use Rattle.code_checker.specs.declared.faults.{SourceFault.SourceFault, SourceRefusal.SourceRefusal}
use Rattle.body_replay.specs.Replays.{records_of}
use Rattle.answer_book.specs.declared.entries.Judgement.{Judgement}
use Rattle.reference_oracle.specs.{Fitting.asked, Reading.IsSourceOf, Reading.IsUnreadReference, Verdicts.verdict_on}
use Rattle.reference_oracle.specs.declared.{faults.RefFault.RefFault, verdicts.Verdict.Verdict}
use Rattle.dialog_replies.specs.declared.references.{Reading.Reading, Referred.Referred}
use Rattle.debuggee.specs.{Execution.Execution, Refusing.refusal_at}

-- ---- bytes that are refused: why and where, as it is told of the source of a run

abbrev pub fault_of_parse : ParseFault → (line byte : ℕ) → SourceFault
fault_of_parse (ParseFault.NotProgram token) line byte = SourceFault.Refused SourceRefusal.NotProgram line byte
fault_of_parse (ParseFault.TooDeep token) line byte = SourceFault.Refused SourceRefusal.TooDeep line byte
fault_of_parse ParseFault.Memory line byte = SourceFault.Memory

abbrev pub fault_of_rule : CheckFault → (line byte : ℕ) → SourceFault
fault_of_rule (CheckFault.Rule rule token) line byte = SourceFault.Refused (SourceRefusal.Rule rule) line byte
fault_of_rule (CheckFault.TooBig token) line byte = SourceFault.Refused SourceRefusal.TooBig line byte
fault_of_rule CheckFault.Memory line byte = SourceFault.Memory

abbrev pub fault_of_reference : (source : List ℕ) → RefFault → SourceFault
fault_of_reference source (RefFault.Lex fault) = fault_of_piece source fault
fault_of_reference source (RefFault.Parse fault line byte) = fault_of_parse fault line byte
fault_of_reference source (RefFault.Check fault line byte) = fault_of_rule fault line byte
fault_of_reference source RefFault.Memory = SourceFault.Memory

-- what is printed of it; nothing where memory ran out
abbrev pub told_of : SourceFault → Option (List ℕ)
told_of (SourceFault.Refused why line byte) = Some (refusal_at why line byte)
told_of SourceFault.Memory = None

-- What bytes are read as: the program that they are the source of; or, where they are none, the first fault of the
-- lexer, else of the parser, else of the check.
abbrev pub IsReading : (bytes : List ℕ) → Reading ProgramRows → Type 0
IsReading bytes (Reading.Program reference) = IsSourceOf bytes reference
IsReading bytes (Reading.Refused why) =
    (fault : RefFault) × IsUnreadReference bytes fault × (told_of (fault_of_reference bytes fault) ≡ Some why)

-- ---- what is said of a call

abbrev pub referred : Verdict → Referred
referred Verdict.Right = Referred.Judged Judgement.Right
referred Verdict.Wrong = Referred.Judged Judgement.Wrong
referred Verdict.Unfit = Referred.Unfit
referred (Verdict.NoAnswer way) = Referred.NoAnswer

abbrev pub referred_on : Execution → (reference : ProgramRows) → Option Call → Referred
referred_on h reference None = Referred.Unfit
referred_on h reference (Some c) = referred (verdict_on (asked h.recorded.program reference c h.supply.budget))

-- what a right program says of the call of this number
abbrev pub refer : Execution → (reference : ProgramRows) → (call : ℕ) → Referred
refer h reference call = referred_on h reference
    (slice_get (records_of (run h.recorded.program h.supply.input h.supply.budget)) call)
