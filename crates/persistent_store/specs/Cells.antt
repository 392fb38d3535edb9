-- What a cell of a leaf stands for.
use Rattle.std.specs.Prelude.{List, None, Option, Some, map}
use Rattle.cell_value.specs.declared.values.Value.{Value}
use Rattle.persistent_store.specs.declared.cells.Cell.{Cell, TheVariants.Routine, TheVariants.Undefined}
use Rattle.persistent_store.specs.declared.cells.Cell.TheVariants.{Absent, Bits, Frame, Heap, Nil, Number, Place}

-- the value of a cell, if it has one
abbrev pub value_of : Cell → Option Value
value_of Absent = None
value_of Undefined = Some Value.Undefined
value_of (Number number) = Some (Value.Number number)
value_of (Bits bits) = Some (Value.Bits bits.value)
value_of Nil = Some Value.Nil
value_of (Heap to) = Some (Value.Heap to)
value_of (Place to) = Some (Value.Place to)
value_of (Frame to) = Some (Value.Frame to)
value_of (Routine routine frame) = Some (Value.Routine routine frame)

abbrev pub values_of : List Cell → List (Option Value)
values_of cells = map value_of cells
