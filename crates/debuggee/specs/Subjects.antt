-- What a dialog on a run is about.
use Rattle.std.specs.Prelude.{[], ℕ, List, None, Some, length, map}
use Rattle.core_program.specs.{ProgramRows.name_of, Replay.Replayed, Run.run, Run.way_out}
use Rattle.call_tree.specs.Recording.{lasts_of, parents_of, routines_of}
use Rattle.body_replay.specs.{Agreement.carries, Replays.kept_event, Replays.records_of, Replays.work_of}
use Rattle.question_text.specs.{States.has_cell, States.state_text, Traces.trace_text, Trees.tree_text}
use Rattle.question_text.specs.Cards.{Recorded, card, question}
use Rattle.answer_reuse.specs.Classes.{compared}
use Rattle.dialog_replies.specs.Subject.{Subject}
use Rattle.debuggee.specs.{Execution.Execution, References.refer, Slicing.slice_named}

-- the trace of a call that did this work: what happened in it, and how it ended
abbrev pub trace_of_work : Recorded → (k : ℕ) → Replayed → List ℕ
trace_of_work r k None = []
trace_of_work r k (Some work) = trace_text r k (map (λ e. kept_event e.event) work.events) (way_out work.end)

-- The trace of call k of a run: that of its own work, which is its body, run from its recorded entry with the recorded
-- effects of the calls that it makes.
unfoldable pub trace : Execution → (k : ℕ) → List ℕ
trace h k =
    let p = h.recorded.program in
    trace_of_work h.recorded k (work_of p (run p h.supply.input h.supply.budget) k)

-- the columns of its calls, the routines of its program by number and name, the cards, questions and traces of its
-- calls, the lines on the cells before and after each, which calls had a part in an output of each, which are alike,
-- whether one may stand where another was entered, what a right program says of each, and the lines of all calls with
-- what is said of each
abbrev pub subject_of : Execution → Subject
subject_of h = record {
  tree = record {
    parent = parents_of h.recorded.calls;
    last = lasts_of h.recorded.calls;
    routine = routines_of h.recorded.calls;
  };
  routines = length h.recorded.program.routines;
  name = name_of h.recorded.program;
  card = card h.recorded;
  question = question h.recorded;
  trace = trace h;
  has_cell = has_cell h.recorded;
  state = state_text h.recorded;
  slice = slice_named h;
  classes = compared (records_of (run h.recorded.program h.supply.input h.supply.budget));
  carries = carries (run h.recorded.program h.supply.input h.supply.budget);
  refer = refer h;
  marked = tree_text h.recorded.program h.recorded.calls;
}
