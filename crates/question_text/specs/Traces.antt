-- The trace of a call: what happened in its body, a line for each event, and how the call ended.
use Rattle.std.specs.Prelude.{◌++◌, [], ℕ, List, None, Option, Some, codes, decimal, flat_map, slice_get}
use Rattle.cell_value.specs.declared.ways_out.WayOut.{WayOut}
use Rattle.core_program.specs.ProgramRows.{ProgramRows}
use Rattle.call_tree.specs.declared.events.Event.{Event, TheVariants.Child, TheVariants.Line}
use Rattle.call_tree.specs.declared.records.Call.{Call}
use Rattle.question_text.specs.{Cards.Recorded, Lines.call_text, Lines.inner_line, WaysOut.way_text}

-- a call that a body made: its number and the name of its routine
abbrev pub child_line : ProgramRows → (k : ℕ) → Option Call → List ℕ
child_line p k None = []
child_line p k (Some call) = inner_line (call_text p k call)

-- a statement began on a line of the source, or the body made a call
abbrev pub event_line : Recorded → Event → List ℕ
event_line r (Line line) = inner_line (codes "line " ++ decimal line)
event_line r (Child k) = child_line r.program k (slice_get r.calls k)

abbrev pub trace_by : Recorded → List Event → WayOut → Option Call → List ℕ
trace_by r events way None = []
trace_by r events way (Some call) =
    flat_map (event_line r) events ++ inner_line (way_text r.calls call.parent way)

-- the trace of call k of a run, in whose body these events happened, and which ended so
unfoldable pub trace_text : Recorded → (k : ℕ) → List Event → WayOut → List ℕ
trace_text r k events way = trace_by r events way (slice_get r.calls k)
