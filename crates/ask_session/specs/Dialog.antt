-- The dialog: what the lines of the console are replied, one after the other, up to `quit`.
use Rattle.std.specs.Prelude.{if◌then◌else◌, ◌++◌, ◌∷◌, [], ℕ, Bool, List, None, Option, Some, codes, false, length}
use Rattle.std.specs.{Prelude.nat_lt, Prelude.true, List.filter_map, List.list_any}
use Rattle.edge_ports.specs.{Limits.line_bytes, Lines.lines_of, declared.ports.FetchFault.FetchFault}
use Rattle.core_program.specs.ProgramRows.{ProgramRows}
use Rattle.dialog_replies.specs.{Fit.misfit, Instructions.instruction_of, Lines.misfit_line, Replies.opening_of}
use Rattle.dialog_replies.specs.{Replies.outcome, Said.Held, Said.Said, Start.said_at_start, Subject.Subject}
use Rattle.dialog_replies.specs.declared.{misfits.Misfit.Misfit, references.Reading.Reading, start.Start.Start}
use Rattle.dialog_replies.specs.declared.instructions.Instruction.{Instruction}
use Rattle.dialog_replies.specs.declared.instructions.Instruction.TheVariants.{Quit, Reference, Save}

abbrev pub is_quit : Instruction → Bool
is_quit Quit = true
is_quit _ = false

abbrev pub is_too_long : List ℕ → Bool
is_too_long line = nat_lt line_bytes (length line)

-- the session ends here
abbrev pub ends_session : List ℕ → Bool
ends_session line = if is_too_long line then false else is_quit (instruction_of line)

-- a line that ends the session is among these
abbrev pub ends_among : List (List ℕ) → Bool
ends_among lines = list_any ends_session lines

-- ---- a line that asks the keeper for something

-- to store the session in this file: `save F`; or to fetch a right program: `reference F`
pub data Errand : Type 0 where
  ToStore : (file : List ℕ) → Errand
  ToFetch : (file : List ℕ) → Errand

abbrev pub errand_of : Instruction → Option Errand
errand_of (Save file) = Some (ToStore file)
errand_of (Reference file) = Some (ToFetch file)
errand_of _ = None

abbrev pub errand_in : (line : List ℕ) → Option Errand
errand_in line = if is_too_long line then None else errand_of (instruction_of line)

-- What the keeper gave to such a line: whether it stored a file; or the bytes that it fetched, and what they are read
-- as; or nothing, for this reason.
pub data Granted : Type 0 where
  Stored : (stored : Bool) → Granted
  Fetched : (bytes : List ℕ) → (reading : Reading ProgramRows) → Granted
  Missing : (why : FetchFault) → Granted

-- the truth values that the lines got that save, and what was fetched for those that ask for a right program: bytes, or
-- nothing
abbrev pub stored_of : Granted → Option Bool
stored_of (Stored stored) = Some stored
stored_of granted = None

abbrev pub fetched_of : Granted → Option (Option (List ℕ))
fetched_of (Stored stored) = None
fetched_of (Fetched bytes reading) = Some (Some bytes)
fetched_of (Missing why) = Some None

abbrev pub saves_among : List Granted → List Bool
saves_among granted = filter_map stored_of granted

abbrev pub fetched_among : List Granted → List (Option (List ℕ))
fetched_among granted = filter_map fetched_of granted

-- Of each such line, in order, what it was given: of the next one. Where the dialog ended before, nothing is known of
-- it, and its reply is that of a file that was stored, or of none that was fetched.
abbrev pub next_granted : List Granted → Granted
next_granted [] = Stored true
next_granted (g ∷ granted) = g

-- of those after a line
abbrev pub granted_after_line : Option Errand → List Granted → List Granted
granted_after_line None granted = granted
granted_after_line (Some errand) [] = []
granted_after_line (Some errand) (g ∷ granted) = granted

-- the reply to a line that saves, by whether the file was stored
abbrev pub save_reply : Bool → List ℕ → List ℕ
save_reply true file = codes "saved " ++ file ++ codes "\n"
save_reply false file = codes "not saved " ++ file ++ codes "\n"

-- the reply to a line that asks for a right program: it answers from now on; or its file is none, and why and where; or
-- no file was fetched
abbrev pub reading_reply : Reading ProgramRows → (file : List ℕ) → List ℕ
reading_reply (Reading.Program reference) file = codes "reference " ++ file ++ codes "\n"
reading_reply (Reading.Refused why) file = codes "reference refused: " ++ why ++ codes "\n"

abbrev pub fetch_reply : Granted → (file : List ℕ) → List ℕ
fetch_reply (Fetched bytes reading) file = reading_reply reading file
fetch_reply granted file = codes "not fetched " ++ file ++ codes "\n"

abbrev pub errand_reply : Errand → Granted → List ℕ
errand_reply (ToStore file) (Stored stored) = save_reply stored file
errand_reply (ToStore file) granted = save_reply true file
errand_reply (ToFetch file) granted = fetch_reply granted file

-- the right program that answers after that: the one that was read, and else the one before
abbrev pub reference_read : Option ProgramRows → Granted → Option ProgramRows
reference_read before (Fetched bytes (Reading.Program reference)) = Some reference
reference_read before granted = before

abbrev pub reference_after : Option ProgramRows → Option Errand → Granted → Option ProgramRows
reference_after before (Some (ToFetch file)) granted = reference_read before granted
reference_after before errand granted = before

-- ---- the reply to a line, and what is held after it

-- where it asks the keeper for nothing
abbrev pub plain_reply : Subject → Held → (line : List ℕ) → List ℕ
plain_reply s held line =
    if is_too_long line then codes "line too long\n" else (outcome s held (instruction_of line)).reply

abbrev pub reply_or_errand : Option Errand → Granted → List ℕ → List ℕ
reply_or_errand None granted reply = reply
reply_or_errand (Some errand) granted reply = errand_reply errand granted

abbrev pub line_reply : Subject → Held → Granted → (line : List ℕ) → List ℕ
line_reply s held granted line = reply_or_errand (errand_in line) granted (plain_reply s held line)

abbrev pub said_after_line : Subject → Held → (line : List ℕ) → Said
said_after_line s held line =
    if is_too_long line then held.said else (outcome s held (instruction_of line)).said

abbrev pub held_after_line : Subject → Held → Granted → (line : List ℕ) → Held
held_after_line s held granted line = record {
  said = said_after_line s held line;
  reference = reference_after held.reference (errand_in line) granted;
}

-- the replies to the lines of a console, in order, up to `quit`
abbrev pub line_replies : Subject → Held → (granted : List Granted) → (lines : List (List ℕ)) → List ℕ
line_replies s held granted [] = []
line_replies s held granted (line ∷ lines) =
    if ends_session line then [] else line_reply s held (next_granted granted) line
    ++ line_replies s (held_after_line s held (next_granted granted) line)
    (granted_after_line (errand_in line) granted) lines

-- what is held at the start: no right program was read
abbrev pub held_at_start : Start → Held
held_at_start start = record { said = said_at_start start; reference = None }

-- ---- what is printed

-- of a saved session that does not fit, the line on it and nothing else
abbrev pub printed_if_fits : Option Misfit → List ℕ → List ℕ
printed_if_fits (Some misfit) text = misfit_line misfit
printed_if_fits None text = text

-- the opening, and the replies
abbrev pub all_printed : Subject → Start → (granted : List Granted) → (lines : List (List ℕ)) → List ℕ
all_printed s start granted lines =
    printed_if_fits (misfit s start) (opening_of s start ++ line_replies s (held_at_start start) granted lines)

-- The whole of what is printed where the console has these bytes. It follows from them, from what the session starts
-- with, and from what the keeper gave: whether each file was stored, and what was fetched.
abbrev pub transcript : Subject → Start → (granted : List Granted) → (bytes : List ℕ) → List ℕ
transcript s start granted bytes = all_printed s start granted (lines_of bytes)
