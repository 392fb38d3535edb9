-- What is prepared for the texts on the calls of a run.
use Rattle.std.specs.Prelude.{◌≡◌, List}
use Rattle.body_replay.specs.declared.replays.Trace.{Trace}
use Rattle.cell_names.specs.declared.places.PlacedPart.{PlacedPart}
use Rattle.question_text.specs.{Traces.trace_text, declared.prepared.CardParts.CardParts}
use Rattle.question_text.specs.Prepared.{AreOpenedIn, AreParts}
use Rattle.output_slice.specs.{Backward.some_at, SlicePairs.Sliced}
use Rattle.dialog_replies.specs.Prepared.{Prepared}
use Rattle.debuggee.specs.{Execution.Execution, Slicing.IsSliceFor, Subjects.trace}

abbrev pub prepared_of : Execution → Prepared CardParts (List PlacedPart) Trace Sliced
prepared_of h = record {
  card = AreParts h.recorded;
  opened = AreOpenedIn h.recorded;
  trace = λ k t. trace_text h.recorded k t.events t.way ≡ trace h k;
  slice = IsSliceFor h;
  in_slice = λ slice call. some_at call slice.pairs;
}
