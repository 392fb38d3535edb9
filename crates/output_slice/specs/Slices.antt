-- What is answered where the slice of an output is asked for.
use Rattle.std.specs.Prelude.{◌<◌, ◌≡◌, ◌≤◌, ℕ, Err, Ok, Result as Outcome, false, true}
use Rattle.core_program.specs.{Run.Call, Run.Marked, Run.Result, State.State}
use Rattle.output_slice.specs.{Outputs.has_output, SliceLists.IsEachOnce, SliceLists.IsSliceList, SlicePairs.Sliced}
use Rattle.output_slice.specs.declared.{outputs.Output.Output, slices.SliceFault.SliceFault}
use Rattle.output_slice.specs.declared.slices.SliceFault.TheVariants.{Memory, NoOutput, TooMany}

-- calls are not sliced where their parts of the log are longer than this, taken together
abbrev pub most_touches : ℕ
most_touches = 50000000

-- the output of a call of a run that is asked about, and the call's record
pub record Asked : Type 0 where
  pub run : Result State Call
  pub call : ℕ
  pub entry : Marked Call
  pub output : Output

-- the answer where its slice is asked for, of a call below which there are so many touches
abbrev pub AnswersSlice : (touches : ℕ) → Asked → Outcome Sliced SliceFault → Type 0
AnswersSlice touches asked (Ok slice) = (touches ≤ most_touches) × (has_output asked.entry.event asked.output ≡ true)
    × IsSliceList asked.run asked.call asked.output slice.pairs × IsEachOnce slice.pairs
AnswersSlice touches asked (Err NoOutput) =
    (touches ≤ most_touches) × (has_output asked.entry.event asked.output ≡ false)
AnswersSlice touches asked (Err (TooMany n)) = (n ≡ touches) × (most_touches < n)
AnswersSlice touches asked (Err Memory) = Unit {0}
