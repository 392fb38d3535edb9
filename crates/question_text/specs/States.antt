-- What cells held before a call and after it: those that a name names, a line for each, rising by address.
use Rattle.std.specs.Prelude.{if◌then◌else◌, ◌&&◌, ◌++◌, ◌-◌, ◌==◌, ◌||◌, [], ℕ, Bool, List, None, Option, Some, codes}
use Rattle.std.specs.Prelude.{false, flat_map, is_some, slice_get, true}
use Rattle.std.specs.{List.list_any, List.range_with_len, Ordering.int_eq}
use Rattle.std.specs.FinMap as map
use Rattle.cell_value.specs.{Effects.heap_start, Sets.is_included, declared.values.Value.Value}
use Rattle.call_tree.specs.declared.records.Call.{Call}
use Rattle.cell_names.specs.{NamedBy.is_named_by, declared.names.Root.Root}
use Rattle.cell_names.specs.Names.{Scene, cell_held, cell_text, root_at}
use Rattle.question_text.specs.{Cards.Recorded, Cards.scene_of, Cells.held_text, Lines.inner_line}
use Rattle.question_text.specs.declared.states.CellSides.{CellSides}

abbrev pub is_same_value : Value → Value → Bool
is_same_value Value.Undefined Value.Undefined = true
is_same_value (Value.Number a) (Value.Number b) = int_eq a b
is_same_value (Value.Bits a) (Value.Bits b) = is_included a b && is_included b a
is_same_value Value.Nil Value.Nil = true
is_same_value (Value.Heap a) (Value.Heap b) = a == b
is_same_value (Value.Place a) (Value.Place b) = a == b
is_same_value (Value.Frame a) (Value.Frame b) = a == b
is_same_value (Value.Routine a frame) (Value.Routine b other) = (a == b) && (frame == other)
is_same_value v w = false

-- what a cell held before a call, and what became of it; the text of a value is told
abbrev pub sides_text : (text : Value → List ℕ) → (before after : Option Value) → List ℕ
sides_text text None None = []
sides_text text (Some v) None = text v ++ codes ", then gone"
sides_text text None (Some w) = text w ++ codes ", made here"
sides_text text (Some v) (Some w) = if is_same_value v w then text v else text v ++ codes ", then " ++ text w

-- the line on a cell: its name, what it held before the call, and what became of it
abbrev pub sides_line : Scene → Root → CellSides → List ℕ
sides_line s r sides =
    inner_line (cell_text s None r ++ codes " = "
    ++ sides_text (held_text s (cell_held s None r)) sides.before sides.after)

-- what the cell at an address held before a call and after it
abbrev pub sides_at : Call → (address : ℕ) → CellSides
sides_at call address = record { before = map.get call.entry.store address; after = map.get call.exit.store address }

-- whether there was such a cell, before the call or after it
abbrev pub is_cell : CellSides → Bool
is_cell sides = is_some sides.before || is_some sides.after

-- the cell at an address, if there was one and a name names it
abbrev pub named_root : Scene → (name : List ℕ) → CellSides → Option Root → Option Root
named_root s name sides None = None
named_root s name sides (Some r) = if is_cell sides && is_named_by s r name then Some r else None

abbrev pub if_cell : CellSides → Root → Option Root
if_cell sides r = if is_cell sides then Some r else None

abbrev pub cell_at : Scene → Call → (name : List ℕ) → (address : ℕ) → Option Root
cell_at s call name address = named_root s name (sides_at call address) (root_at s address)

abbrev pub line_by : Scene → CellSides → Option Root → List ℕ
line_by s sides None = []
line_by s sides (Some r) = sides_line s r sides

abbrev pub line_at : Scene → Call → (name : List ℕ) → (address : ℕ) → List ℕ
line_at s call name address = line_by s (sides_at call address) (cell_at s call name address)

-- the lines on the cells that a name names, from one address to before another, and whether there is one
unfoldable pub lines_between : Scene → Call → (name : List ℕ) → (from to : ℕ) → List ℕ
lines_between s call name from to = flat_map (line_at s call name) (range_with_len from (to - from))

unfoldable pub is_between : Scene → Call → (name : List ℕ) → (from to : ℕ) → Bool
is_between s call name from to =
    list_any (λ address. is_some (cell_at s call name address)) (range_with_len from (to - from))

-- The cells of a state are those of the stack below the call's own frame, and those of the heap that was used until
-- the call ended.
abbrev pub lines_by : Scene → (name : List ℕ) → Option Call → List ℕ
lines_by s name None = []
lines_by s name (Some call) =
    lines_between s call name 0 call.entry.top ++ lines_between s call name heap_start call.exit.fresh

abbrev pub has_cell_by : Scene → (name : List ℕ) → Option Call → Bool
has_cell_by s name None = false
has_cell_by s name (Some call) =
    is_between s call name 0 call.entry.top || is_between s call name heap_start call.exit.fresh

-- what the cells of a name held before call k of a run and after it
unfoldable pub state_text : Recorded → (k : ℕ) → (name : List ℕ) → List ℕ
state_text r k name = lines_by (scene_of r k) name (slice_get r.calls k)

-- whether a cell has the name, before the call or after it
unfoldable pub has_cell : Recorded → (k : ℕ) → (name : List ℕ) → Bool
has_cell r k name = has_cell_by (scene_of r k) name (slice_get r.calls k)
