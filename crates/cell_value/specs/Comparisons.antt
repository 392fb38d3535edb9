-- Relations of lists of numbers: as strings are compared, the first two that differ decide (ISO 7185, clause 6.7.2.5).
use Rattle.std.specs.Prelude.{◌∷◌, Bool, Err, List, Ok, Result, not}
use Rattle.std.specs.Ordering.{int_cmp, is_eq, is_ge, is_gt, is_le, is_lt}
use Rattle.std.specs.declared.cmp.Ordering.{Ordering}
use Rattle.cell_value.specs.declared.faults.OpFault.{OpFault, TheVariants.UndefinedValue}
use Rattle.cell_value.specs.declared.values.{Order.Order, Value.Value, Value.TheVariants.Number}

-- which of two numbers comes first
abbrev pub ranked : Value → Value → Result Ordering OpFault
ranked (Number i) (Number j) = Ok (int_cmp i j)
ranked _ _ = Err UndefinedValue

-- what the first two decide, unless they are equal; then the rest decides
abbrev pub unless_equal : (first rest : Result Ordering OpFault) → Result Ordering OpFault
unless_equal (Ok Ordering.Equal) rest = rest
unless_equal first rest = first

-- which of two lists of numbers, of equal length, comes first
abbrev pub lists_ranked : List Value → List Value → Result Ordering OpFault
lists_ranked (x ∷ xs) (y ∷ ys) = unless_equal (ranked x y) (lists_ranked xs ys)
lists_ranked _ _ = Ok Ordering.Equal

-- whether a relation holds of what stands in this order
abbrev pub admits : Order → Ordering → Bool
admits Order.Equal found = is_eq found
admits Order.NotEqual found = not (is_eq found)
admits Order.Less found = is_lt found
admits Order.Greater found = is_gt found
admits Order.AtMost found = is_le found
admits Order.AtLeast found = is_ge found

abbrev pub as_admitted : Order → Result Ordering OpFault → Result Bool OpFault
as_admitted relation (Ok found) = Ok (admits relation found)
as_admitted relation (Err fault) = Err fault

-- whether a relation holds of two lists of numbers
abbrev pub compared : Order → List Value → List Value → Result Bool OpFault
compared relation left right = as_admitted relation (lists_ranked left right)
