-- What is kept of a call of a run and of a reference's answer, as far as a verdict asks for it.
use Rattle.std.specs.Prelude.{◌&&◌, ◌+◌, ◌≡◌, ℕ, Bool, List, None, Option, Some, nat_eq, nat_le}
use Rattle.std.specs.List.{list_all}
use Rattle.cell_value.specs.{Effects.given_of, Effects.taken_of, declared.values.Value.Value}
use Rattle.core_program.specs.{ProgramRows.ProgramRows, ProgramRows.frame_of, Run.Call, State.stack_end}
use Rattle.effect_log.specs.declared.by_maps.Footprint.{Footprint}
use Rattle.call_tree.specs.Told.{part_of}
use Rattle.call_tree.specs.declared.records.Call as table
use Rattle.program_run.specs.{History.output_of, History.recording_of, declared.history.History.History}
use Rattle.body_replay.specs.ByRows.{IsEffectOf}
use Rattle.reference_oracle.specs.{Fitting.Asked, Fitting.FitsReference, Matches.matches, declared.asked.Fit.Fit}
use Rattle.reference_oracle.specs.Answers.{bytes_given, items_taken, reference_answer}
use Rattle.reference_oracle.specs.Places.{ArePlaces, has_place, is_placed}

-- a row of the table of a run is that of a call
pub record IsKeptCall (run : History) (row : table.Call) (c : Call) : Type 0 where
  pub routine : row.routine ≡ c.routine
  pub args : row.args ≡ c.args
  pub way : row.way ≡ c.way
  pub result : row.result ≡ c.result
  -- before it
  pub base : row.entry.top ≡ c.base
  pub cells : row.entry.store ≡ c.entry.cells
  pub items : run.input ≡ c.entry.items
  pub place : row.entry.place ≡ c.entry.place
  -- after it
  pub left : row.exit.store ≡ c.exit.cells
  pub log : part_of run.log row ≡ c.log
  pub taken : taken_of c.log ≡ items_taken c
  pub given : given_of c.log ≡ bytes_given c

-- this routine answers for a call of a run that fits; and these are the matches, where they are, and the call's effect
pub record IsFit (a : Asked) (run : History) (row : table.Call) (fit : Fit) : Type 0 where
  pub fits : FitsReference a fit.routine
  pub matched : fit.matches.items ≡ matches a.programs
  pub places : ArePlaces (matches a.programs) fit.places.items
  pub found : IsEffectOf run.log row fit.found

-- it fits exactly where something is found
abbrev pub FitsIf : Asked → History → (row : table.Call) → Option Fit → Type 0
FitsIf a run row None = (routine : ℕ) → FitsReference a routine → ⊥
FitsIf a run row (Some fit) = IsFit a run row fit

-- this is kept of what the reference did in place of the call
pub record IsAnswerOf (a : Asked) (routine : ℕ) (h : History) : Type 0 where
  pub calls : h.calls ≡ recording_of a.programs.reference (reference_answer a routine)
  pub output : h.output ≡ output_of (reference_answer a routine)

-- ---- tests by what is kept

-- a call with these arguments and this effect worked on cells of matching variables alone, and made none of the heap
abbrev pub worked_within : List (Option ℕ) → List Value → Footprint → Bool
worked_within places args found = list_all (is_placed places) args && (list_all (λ x. has_place places x.0) found.reads
    && (list_all (λ x. has_place places x.0) found.changes && nat_eq found.made 0))

-- the frames of the program block and of a routine fit the stack
abbrev pub has_room : ProgramRows → (routine : ℕ) → Bool
has_room p routine = nat_le (frame_of p 0 + frame_of p routine) stack_end
