-- The theorem on a whole session, on one page: whatever was answered and taken back, what is printed follows from the
-- source, its input, the budget and the entries that stand.
use Rattle.std.specs.Prelude.{◌≡◌, ℕ, List, Option, Some}
use Rattle.std.specs.List.{slice_get}
use Rattle.edge_ports.specs.{Files.FileMap, Told.GaveAll}
use Rattle.pas_lexer.specs.Lexed.{Lexed}
use Rattle.core_program.specs.{ProgramRows.ProgramRows, Replay.Replayed, Run.Call, Run.run, WholeTables.WholeTables}
use Rattle.body_replay.specs.{Laws.GivesItsExit, Replays.records_of, Replays.work_of}
use Rattle.answer_book.specs.{Entries.standing_answers, declared.entries.Entry.Entry}
use Rattle.optimal_query.specs.{Laws.IsAtFault, declared.state.SearchState.TheVariants.Found}
use Rattle.dialog_replies.specs.Subject.{state_after}
use Rattle.ask_session.specs.{Dialog.Granted, Dialog.transcript, Wishes.AreReadIn}
use Rattle.ask_session.specs.Laws.{AsksTheBest, NarrowsTheFault}
use Rattle.debuggee.specs.{References.IsReading, Subjects.subject_of}
use Rattle.debuggee.specs.Execution.{Execution, Supply, execution_of}
use Rattle.debug_cli.specs.{Meaning.Requested, Named.Begun, Named.start_in, Named.subject_in, Setting.Told}

-- the run that a session is about: that of the program of the source, with its input and the budget that the words give
abbrev pub execution_in : {r : Requested} {files : Option FileMap} → Begun r files → Execution
execution_in {r} b = execution_of b.run.source.tokens b.run.source.rows
    (record { input = b.run.input; budget = r.budget })

-- the records of the calls of a run, in order of entry
abbrev pub records_in : Execution → List Call
records_in e = records_of (run e.recorded.program e.supply.input e.supply.budget)

-- the own work of a call of a run: its routine's body, run from the recorded entry of the call with the recorded
-- effects of the calls that it makes
abbrev pub work_in : Execution → (call : ℕ) → Replayed
work_in e call = work_of e.recorded.program (run e.recorded.program e.supply.input e.supply.budget) call

-- What a verdict on a call is worth: the call is judged wrong, and each call that it made is right or trusted; and its
-- own work gives exactly its recorded way out, its recorded result and its recorded exit.
pub record VerdictHolds (e : Execution) (entries : List Entry) (call : ℕ) : Type 0 where
  pub at_fault : IsAtFault (subject_of e).tree (standing_answers entries) call
  pub row : Call
  pub recorded : slice_get (records_in e) call ≡ Some row
  pub own_work : GivesItsExit row (work_in e call)

-- so it is with each call that is found, whatever the entries are
abbrev pub EachVerdictIsFound : Execution → Type 0
EachVerdictIsFound e =
    (entries : List Entry) (call : ℕ) → state_after (subject_of e) entries ≡ Found call → VerdictHolds e entries call

-- and in the run of each program, whose tables are whole, with each input and budget
abbrev pub VerdictsAreFound : Type 0
VerdictsAreFound =
    (t : Lexed) (p : ProgramRows) → WholeTables p → (s : Supply) → EachVerdictIsFound (execution_of t p s)

-- The theorem. The words name a source that is a program, and all files and the console tell their bytes.
pub record Headline {r : Requested} {files : Option FileMap} {left : Option (List ℕ)} (t : Told r files left)
    (given given' : Option (List ℕ)) : Type 0
  where
    -- for each line that asks the keeper, what it was given: whether its file was stored, or what was fetched
    pub granted : List Granted
    -- what was fetched is read as what it is: a right program, or why it is none
    pub read : AreReadIn IsReading granted
    -- What the screen got is the transcript: what each line of the console is replied, computed from the run of the
    -- source with its input and budget, and from the entries that were made and not taken back.
    pub printed : GaveAll given given' (transcript (subject_in t.begun) (start_in t.begun) granted t.console)
    -- A question is on a suspect; of no other suspect would the worse answer leave fewer calls to ask about.
    pub asks : AsksTheBest (subject_in t.begun)
    -- While a call is accused, one of those that are left went wrong though each call that it made went right.
    pub narrows : NarrowsTheFault (subject_in t.begun)
    -- A call that is found is at fault, and its body gives what was recorded of it.
    pub finds : EachVerdictIsFound (execution_in t.begun)
