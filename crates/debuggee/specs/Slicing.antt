-- Which output of a call a name names, and which calls had a part in that output.
use Rattle.std.specs.Prelude.{if◌then◌else◌, ◌<◌, ◌≡◌, ℕ, Bool, List, None, Option, Some, codes, length, nat_le}
use Rattle.std.specs.{Prelude.slice_get, Prelude.true, Str.bytes_eq}
use Rattle.core_program.specs.Run.{Call, Marked, Outcome, Result as RunResult, run}
use Rattle.core_program.specs.State.{State}
use Rattle.call_tree.specs.declared.records.Call as table
use Rattle.question_text.specs.{Cards.Recorded, CellNames.cell_named}
use Rattle.output_slice.specs.{LeftOut.sliced_call, Outputs.InSlice, Outputs.has_output, SlicePairs.Sliced}
use Rattle.output_slice.specs.{Slices.most_touches, Touches.touches_below, declared.outputs.Output.Output}
use Rattle.output_slice.specs.Backward.{slice_list, some_at}
use Rattle.output_slice.specs.declared.outputs.Output.TheVariants.{Cell, Gives, Makes, Result, Takes, Way}
use Rattle.dialog_replies.specs.declared.slices.SliceOf.{SliceOf}
use Rattle.dialog_replies.specs.declared.slices.SliceOf.TheVariants as slices
use Rattle.debuggee.specs.Execution.{Execution}

-- the output that a word stands for
abbrev pub output_of_word : List ℕ → Option Output
output_of_word word =
    if bytes_eq word (codes "result") then Some Result
    else (if bytes_eq word (codes "gives") then Some Gives
    else (if bytes_eq word (codes "takes") then Some Takes
    else (if bytes_eq word (codes "makes") then Some Makes
    else (if bytes_eq word (codes "way") then Some Way else None))))

abbrev pub output_by : (cell : Option ℕ) → (name : List ℕ) → Option Output
output_by (Some address) name = Some (Cell address)
output_by None name = output_of_word name

-- The output that a name names at call k of a run: the cell that the call changed and its card prints by this name, or
-- else what the word stands for.
abbrev pub output_named : Recorded → (k : ℕ) → (name : List ℕ) → Option Output
output_named r k name = output_by (cell_named r k name) name

-- Which calls of a run had a part in an output of one of them, if the call has it and the parts of the log of the calls
-- below are no longer than 50,000,000 touches, taken together: those of which the slice has an output.
abbrev pub slice_at : List table.Call → RunResult State Call → (k : ℕ) → Marked Call → Output → SliceOf (ℕ → Bool)
slice_at rows r k entry output =
    if has_output entry.event output then
    (if nat_le (touches_below rows k entry.event.below) most_touches
    then slices.Slice (λ other. some_at other (slice_list r k output)) else slices.TooMany)
    else slices.NoOutput

abbrev pub slice_by : List table.Call → RunResult State Call → (k : ℕ) → Option (Marked Call) → Output
    → SliceOf (ℕ → Bool)
slice_by rows r k None output = slices.NoOutput
slice_by rows r k (Some entry) output = slice_at rows r k entry output

abbrev pub slice_in : List table.Call → Outcome → (k : ℕ) → Output → SliceOf (ℕ → Bool)
slice_in rows None k output = slices.NoOutput
slice_in rows (Some r) k output = slice_by rows r k (slice_get r.events k) output

abbrev pub slice_if : List table.Call → Outcome → (k : ℕ) → Option Output → SliceOf (ℕ → Bool)
slice_if rows x k None = slices.NoOutput
slice_if rows x k (Some output) = slice_in rows x k output

-- the slice of the output of call k of a run that a name names
unfoldable pub slice_named : Execution → (k : ℕ) → (name : List ℕ) → SliceOf (ℕ → Bool)
slice_named h k name =
    slice_if h.recorded.calls (run h.recorded.program h.supply.input h.supply.budget) k
    (output_named h.recorded k name)

-- What is told of the output that a name names: call k has it, and the calls that are told are those with an output in
-- its slice.
pub record TellsSlice (h : Execution) (r : RunResult State Call) (k : ℕ) (name : List ℕ) (told : ℕ → Bool) :
    Type 0 where
  pub output : Output
  pub named : output_named h.recorded k name ≡ Some output
  pub entry : Marked Call
  pub of_call : slice_get r.events k ≡ Some entry
  pub is_output : has_output entry.event output ≡ true
  pub each : (other : ℕ) (from : Output) → InSlice r k output other from → told other ≡ true
  pub no_more : (other : ℕ) → told other ≡ true → (from : Output) × InSlice r k output other from

-- so it is with each slice that is told of a run
abbrev pub SlicesAreTold : Type 0
SlicesAreTold = (h : Execution) (r : RunResult State Call)
    → run h.recorded.program h.supply.input h.supply.budget ≡ Some r → (k : ℕ) (name : List ℕ) (told : ℕ → Bool)
    → slice_named h k name ≡ slices.Slice told → TellsSlice h r k name told

-- what was prepared is a slice of an output of call k of the run
pub record IsSliceFor (h : Execution) (k : ℕ) (slice : Sliced) : Type 0 where
  pub some : 0 < length slice.pairs
  pub first : sliced_call slice.pairs ≡ k
  pub of_run : slice.calls ≡ length h.recorded.calls
