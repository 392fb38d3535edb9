-- The trace of a call is that of its own work.
use Rattle.std.proofs.Common.{◌∙◌, ◌≡◌, ℕ, List, None, Some, ap, refl, sym}
use Rattle.std.specs.Option.{option_map}
use Rattle.cell_value.specs.declared.ways_out.WayOut.{WayOut}
use Rattle.core_program.proofs.OutcomesCompose.{none_some, some_same}
use Rattle.core_program.specs.{ProgramRows.ProgramRows, Replay.Replayed, Run.run, Run.way_out}
use Rattle.call_tree.specs.declared.events.Event.{Event}
use Rattle.program_run.specs.{History.IsOfRun, declared.history.History.History}
use Rattle.body_replay.specs.Replays.{events_in, work_of}
use Rattle.question_text.specs.{Cards.Recorded, Traces.trace_text}
use Rattle.debuggee.specs.{Execution.Execution, Subjects.trace, Subjects.trace_of_work, Told.history_of}

-- a history that is that of a run
pub is_of_run : {p : ProgramRows} {input : List ℕ} {h : History} → h ≡ history_of p input h.budget → IsOfRun p input h.budget h
is_of_run e = record {
  calls = ap (λ (h : History). h.calls) e;
  log = ap (λ (h : History). h.log) e;
  output = ap (λ (h : History). h.output) e;
  items = ap (λ (h : History). h.input) e;
  steps = refl;
}

-- the other way round
pub history_is : {p : ProgramRows} {input : List ℕ} {budget : ℕ} {h : History} → IsOfRun p input budget h → h ≡ history_of p input h.budget
history_is {p = p} {input = input} {budget = budget} {h = h} g =
    let here : h ≡ history_of p input budget =
    λ i. record { calls = g.calls i; log = g.log i; input = g.items i; output = g.output i; budget = g.steps i } in
    here ∙ ap (history_of p input) (sym g.steps)

of_work : (r : Recorded) (k : ℕ) (work : Replayed) (events : List Event) (way : WayOut) → events ≡ events_in work
    → option_map (λ w. way_out w.end) work ≡ Some way → trace_text r k events way ≡ trace_of_work r k work
of_work r k None events way e w = absurd (none_some w)
of_work r k (Some work) events way e w = λ i. trace_text r k (e i) (sym (some_same w) i)

pub trace_is : (h : Execution) (k : ℕ) (events : List Event) (way : WayOut)
    → events ≡ events_in (work_of h.recorded.program (run h.recorded.program h.supply.input h.supply.budget) k)
    → option_map (λ w. way_out w.end) (work_of h.recorded.program (run h.recorded.program h.supply.input h.supply.budget) k) ≡ Some way
    → trace_text h.recorded k events way ≡ trace h k
unfolding trace
trace_is h k events way e w = of_work h.recorded k (work_of h.recorded.program (run h.recorded.program h.supply.input h.supply.budget) k) events way e w
