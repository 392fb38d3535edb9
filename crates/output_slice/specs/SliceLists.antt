-- The slice of an output as a list.
use Rattle.std.specs.Prelude.{◌≡◌, ℕ, Contains, List, Some}
use Rattle.std.specs.List.{slice_get}
use Rattle.core_program.specs.{Run.Call, State.State}
use Rattle.core_program.specs.Run as meaning
use Rattle.output_slice.specs.{Outputs.InSlice, declared.outputs.Output.Output}

-- these are the pairs of the slice, the output itself first
pub record IsSliceList (r : meaning.Result State Call) (call : ℕ) (o : Output) (pairs : List (ℕ × Output)) :
    Type 0 where
  pub first : slice_get pairs 0 ≡ Some (call, o)
  pub whole : (other : ℕ) (from : Output) → InSlice r call o other from → Contains pairs (other, from)
  pub no_more : (other : ℕ) (from : Output) → Contains pairs (other, from) → InSlice r call o other from

-- no pair stands at two places
pub record IsEachOnce (pairs : List (ℕ × Output)) : Type 0 where
  pub once : (i j : ℕ) (y : ℕ × Output) → slice_get pairs i ≡ Some y → slice_get pairs j ≡ Some y → i ≡ j

-- each slice is a list
abbrev pub SlicesAreLists : Type 0
SlicesAreLists = (r : meaning.Result State Call) (call : ℕ) (o : Output)
    → (pairs : List (ℕ × Output)) × IsSliceList r call o pairs
