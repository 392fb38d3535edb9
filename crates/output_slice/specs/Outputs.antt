-- The outputs of a call, and those of the calls that it makes from which an output may come.
use Rattle.std.specs.Prelude.{if◌then◌else◌, ◌<◌, ◌∷◌, ◌≡◌, ◌⊎◌, [], ℕ, Bool, IsSome, List, None, Option, Some, false}
use Rattle.std.specs.Prelude.{is_some, length, nat_lt, not, true}
use Rattle.std.specs.List.{slice_get}
use Rattle.cell_value.specs.Effects.{change_at, change_by, given_of, looked_of, made_of, seen_at, shared, taken_of}
use Rattle.cell_value.specs.declared.{entries.Change.Change, entries.Touch.Touch, ways_out.WayOut.WayOut}
use Rattle.cell_value.specs.declared.entries.Touch.TheVariants as touch
use Rattle.cell_value.specs.declared.ways_out.WayOut.TheVariants as way
use Rattle.core_program.specs.{Run.Call, Run.Marked, State.State}
use Rattle.core_program.specs.Run as meaning
use Rattle.output_slice.specs.Pieces.{OfChild, Own, Piece, Stands, pieces_of}
use Rattle.output_slice.specs.declared.outputs.Output.{Output}
use Rattle.output_slice.specs.declared.outputs.Output.TheVariants.{Cell, Gives, Makes, Result, Takes, Way}

-- what a call leaves a cell with that it shares with its caller, if it changes the cell
abbrev pub changed_by : Call → ℕ → Option Change
changed_by c addr = shared c.base (λ a. change_at a c.log) addr

abbrev pub is_returned : WayOut → Bool
is_returned way.Returned = true
is_returned w = false

-- whether a call has an output
abbrev pub has_output : Call → Output → Bool
has_output c (Cell addr) = is_some (changed_by c addr)
has_output c Result = is_some c.result
has_output c Gives = nat_lt 0 (length (given_of c.log))
has_output c Takes = nat_lt 0 (taken_of c.log)
has_output c Makes = nat_lt 0 (made_of c.log)
has_output c Way = not (is_returned c.way)

-- ---- where something comes from

-- what is asked of the state at a moment
pub data Need : Type 0 where
  TheCell : (address : ℕ) → Need
  -- how far the input was taken
  TheInput : Need
  -- where the heap is free
  TheHeap : Need

-- who changed a cell last, after one piece more: a call that was made, by its number
abbrev pub changer_after : ℕ → Option ℕ → Piece → Option ℕ
changer_after addr was (Own t) = if is_some (change_by addr t) then None else was
changer_after addr was (OfChild number c) = if has_output c (Cell addr) then Some number else was

abbrev pub changer_in : ℕ → Option ℕ → List Piece → Option ℕ
changer_in addr was [] = was
changer_in addr was (q ∷ ps) = changer_in addr (changer_after addr was q) ps

-- Where it comes from after these pieces, if that is a call that was made: of a cell, from the call that changed it
-- last, and from none if the caller changed it since.
pub data IsSource (before : List Piece) : Need → ℕ → Output → Type 0 where
  Changer : (addr number : ℕ) → changer_in addr None before ≡ Some number
      → IsSource before (TheCell addr) number (Cell addr)
  Taker : (number : ℕ) (c : Call) (first : List Piece) → Stands before (OfChild number c) first
      → has_output c Takes ≡ true → IsSource before TheInput number Takes
  Maker : (number : ℕ) (c : Call) (first : List Piece) → Stands before (OfChild number c) first
      → has_output c Makes ≡ true → IsSource before TheHeap number Makes

-- what a touch of the caller's own asks
abbrev pub Asks : Touch → Need → Type 0
Asks (touch.Read at v) need = need ≡ TheCell at
Asks (touch.Has at there) need = need ≡ TheCell at
Asks (touch.Look at) need = need ≡ TheInput
Asks (touch.Take items) need = need ≡ TheInput
Asks (touch.Make first cells kind) need = need ≡ TheHeap
Asks t need = ⊥

-- what a call asks that was made
abbrev pub Met : Call → Need → Type 0
Met c (TheCell addr) = IsSome (shared c.base (λ a. seen_at a c.log) addr)
Met c TheInput = 0 < looked_of c.entry.place c.log
Met c TheHeap = 0 < made_of c.log

-- an output of which each call that is made may give a part
abbrev pub IsGathered : Output → Type 0
IsGathered Gives = Unit {0}
IsGathered Takes = Unit {0}
IsGathered Makes = Unit {0}
IsGathered o = ⊥

-- The outputs of the calls made from which output `o` of a call with these pieces may come.
pub data Used (ps : List Piece) (o : Output) : ℕ → Output → Type 0 where
  -- what the caller itself asks
  ByOwn : (before : List Piece) (t : Touch) (need : Need) (number : ℕ) (from : Output) → Stands ps (Own t) before
      → Asks t need → IsSource before need number from → Used ps o number from
  -- how each call ends, and its value
  ByEnd : (before : List Piece) (number : ℕ) (c : Call) (from : Output) → Stands ps (OfChild number c) before
      → (from ≡ Result) ⊎ (from ≡ Way) → has_output c from ≡ true → Used ps o number from
  -- the output itself
  AtExit : (addr number : ℕ) (from : Output) → o ≡ Cell addr → IsSource ps (TheCell addr) number from
      → Used ps o number from
  Gathered : (before : List Piece) (number : ℕ) (c : Call) → Stands ps (OfChild number c) before → IsGathered o
      → has_output c o ≡ true → Used ps o number o
  -- what a call asks of which an output is used
  ByChild : (before : List Piece) (number : ℕ) (c : Call) (part : Output) (need : Need) (other : ℕ) (from : Output)
      → Used ps o number part → Stands ps (OfChild number c) before → Met c need → IsSource before need other from
      → Used ps o other from

-- The slice of an output of a call of a run: the least set of pairs that has it, and the used ones of each.
pub data InSlice (r : meaning.Result State Call) (call : ℕ) (o : Output) : ℕ → Output → Type 0 where
  First : InSlice r call o call o
  Further : (number : ℕ) (e : Marked Call) (part : Output) (other : ℕ) (from : Output) → InSlice r call o number part
      → slice_get r.events number ≡ Some e → Used (pieces_of r number e) part other from
      → InSlice r call o other from
