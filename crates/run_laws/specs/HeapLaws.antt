-- What a run meets of the heap, and how calls end that miss a cell. Of this the definitions of runs say nothing by
-- themselves: acts may ask for any address.
use Rattle.std.specs.Prelude.{◌&&◌, ◌++◌, ◌∷◌, ◌≡◌, [], ℕ, Bool, List, Some, false, nat_le, true}
use Rattle.std.specs.List.{list_any}
use Rattle.cell_value.specs.Effects.{heap_start}
use Rattle.cell_value.specs.declared.{entries.Touch.Touch, ways_out.Kind.Kind, ways_out.WayOut.WayOut}
use Rattle.core_program.specs.{ProgramRows.ProgramRows, Run.Call, Run.Result, Run.run, RunLaws.OfEachCall, State.State}

-- whether a cell was asked for that was not there
abbrev pub is_miss : Touch → Bool
is_miss (Touch.Has address false) = true
is_miss t = false

abbrev pub is_disposed : WayOut → Bool
is_disposed (WayOut.Faulted Kind.Disposed line) = true
is_disposed way = false

-- A cell that is not there is the last that a call touches, and the call ends with the fault `Disposed`.
abbrev pub MissesEndCalls : Type 0
MissesEndCalls = OfEachCall (λ p number c below. (before : List Touch) (t : Touch) (after : List Touch)
    → c.log ≡ before ++ t ∷ after → is_miss t ≡ true → (after ≡ []) × (is_disposed c.way ≡ true))

-- whether a cell of the heap was read, found or written, or a block dropped
abbrev pub uses_heap : Touch → Bool
uses_heap (Touch.Read address value) = nat_le heap_start address
uses_heap (Touch.Has address there) = there && nat_le heap_start address
uses_heap (Touch.Write address value) = nat_le heap_start address
uses_heap (Touch.Drop address cells) = true
uses_heap t = false

-- whether a variable of the heap was made
abbrev pub makes_variable : Touch → Bool
makes_variable (Touch.Make address cells of') = true
makes_variable t = false

-- Before a touch that uses the heap the run made a variable there.
abbrev pub HeapIsMadeFirst : Type 0
HeapIsMadeFirst = (p : ProgramRows) (input : List ℕ) (budget : ℕ) (r : Result State Call) → run p input budget ≡ Some r
    → (before : List Touch) (t : Touch) (after : List Touch) → r.log ≡ before ++ t ∷ after → uses_heap t ≡ true
    → list_any makes_variable before ≡ true

-- The first variable that a run makes there begins where the heap begins.
abbrev pub FirstVariableBeginsHeap : Type 0
FirstVariableBeginsHeap = (p : ProgramRows) (input : List ℕ) (budget : ℕ) (r : Result State Call)
    → run p input budget ≡ Some r → (before : List Touch) (address cells of' : ℕ) (after : List Touch)
    → r.log ≡ before ++ Touch.Make address cells of' ∷ after → list_any makes_variable before ≡ false
    → address ≡ heap_start
