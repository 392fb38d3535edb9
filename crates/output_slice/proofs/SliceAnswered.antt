-- What is answered where a slice is asked for, in each case.
use Rattle.std.proofs.Common.{◌<◌, ◌∙◌, ◌≡◌, ◌≤◌, ℕ, Bool, Err, Ok, false, subst, sym, true}
use Rattle.core_program.specs.{Run.Call, Run.Marked, Run.Result, State.State}
use Rattle.program_run.specs.declared.history.History.{History}
use Rattle.output_slice.proofs.{KeptOfRuns.forest_at, PairsOnce.once_places, PairsOnce.slice_once, SliceByOnePass.slice_list_is}
use Rattle.output_slice.specs.{Backward.slice_list, KeptRuns.IsKeptRun, Outputs.has_output, SliceLists.IsEachOnce, SliceLists.IsSliceList, SlicePairs.Sliced}
use Rattle.output_slice.specs.{Slices.AnswersSlice, Slices.Asked, Slices.most_touches, Touches.touches_below}
use Rattle.output_slice.specs.declared.{outputs.Output.Output, slices.SliceFault.TheVariants.NoOutput, slices.SliceFault.TheVariants.TooMany}

module _ {h : History} {r : Result State Call} (k : IsKeptRun h r) (call : ℕ) (e : Marked Call) (o : Output) (touches : ℕ)
    (is : touches ≡ touches_below h.calls.calls call e.event.below) where
  abbrev pub below : ℕ
  below = touches_below h.calls.calls call e.event.below

  abbrev pub asked : Asked
  asked = record { run = r; call = call; entry = e; output = o }

  pub too_many : most_touches < touches → AnswersSlice below asked (Err (TooMany touches))
  too_many l = (is, l)

  few : touches ≤ most_touches → below ≤ most_touches
  few l = subst (λ n. n ≤ most_touches) is l

  pub no_output : touches ≤ most_touches → (has : Bool) → has ≡ has_output e.event o → has ≡ false → AnswersSlice below asked (Err NoOutput)
  no_output l has a b = (few l, sym a ∙ b)

  pub a_slice : touches ≤ most_touches → (has : Bool) → has ≡ has_output e.event o → has ≡ true → (slice : Sliced) → slice.pairs ≡ slice_list r call o
      → AnswersSlice below asked (Ok slice)
  a_slice l has a b slice s = (
    few l,
    sym a ∙ b,
    subst (IsSliceList r call o) (sym s) (slice_list_is r call o),
    subst IsEachOnce (sym s) (record { once = once_places (slice_list r call o) (slice_once r (forest_at k) call o) }),
  )
