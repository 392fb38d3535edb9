-- The operators (6.7.2): which operands fit which, and what comes of them.
use Rattle.std.specs.Prelude.{if◌then◌else◌, ◌&&◌, ◌||◌, ◌∷◌, [], ℕ, Bool, List, None, Option, Some, false, is_some}
use Rattle.std.specs.Prelude.{nat_eq, true}
use Rattle.cell_value.specs.declared.{arithmetic.ArithOp.ArithOp, values.Order.Order}
use Rattle.core_program.specs.declared.rows.{ExpressionRow.ExpressionRow, Logic.Logic, Row.Row, SetOperator.SetOperator}
use Rattle.core_program.specs.declared.rows.Row.TheVariants as row
use Rattle.check_steps.specs.Regions.{or_else}
use Rattle.kind_checker.specs.Shapes.{hosts_agree, packings_agree}
use Rattle.kind_checker.specs.declared.operators.{Operation.Operation, Operator.Operator}
use Rattle.kind_checker.specs.declared.operators.Operator.TheVariants as operator
use Rattle.kind_checker.specs.declared.shapes.{ExpressionType.ExpressionType, Shape.Shape}
use Rattle.kind_checker.specs.declared.shapes.Packing.{Packing, TheVariants.Either}

-- ---- operands

abbrev pub is_unknown_shape : Shape → Bool
is_unknown_shape Shape.Unknown = true
is_unknown_shape s = false

-- of the ordinal type of this host
abbrev pub is_of_host : ℕ → Shape → Bool
is_of_host host (Shape.Ordinal h) = nat_eq h host
is_of_host host s = false

-- of an ordinal type, if its type is known
abbrev pub is_ordinal : Shape → Bool
is_ordinal (Shape.Ordinal host) = true
is_ordinal s = is_unknown_shape s

-- an operand of an ordinal type of this host, if its type is known
abbrev pub is_operand : ℕ → Shape → Bool
is_operand host s = is_unknown_shape s || is_of_host host s

-- ---- what an operator takes

-- two operands: do they fit?
abbrev pub Operands : Type 0
Operands = Shape → Shape → Bool

-- both are of this host type or subranges of it: 0 is integer, 1 is Boolean
abbrev pub of_host : ℕ → Operands
of_host host l r = is_of_host host l && is_of_host host r

-- ordinals of one host type
abbrev pub two_ordinals : Operands
two_ordinals (Shape.Ordinal a) (Shape.Ordinal b) = nat_eq a b
two_ordinals l r = false

-- strings of equal length
abbrev pub two_strings : Operands
two_strings (Shape.Text m) (Shape.Text n) = nat_eq m n
two_strings l r = false

-- compatible sets
abbrev pub two_sets : Operands
two_sets (Shape.Set a p) (Shape.Set b q) = hosts_agree a b && packings_agree p q
two_sets l r = false

-- pointers of one type, or nil
abbrev pub two_pointers : Operands
two_pointers (Shape.Pointer a) (Shape.Pointer b) = nat_eq a b
two_pointers (Shape.Pointer a) Shape.Nil = true
two_pointers Shape.Nil (Shape.Pointer b) = true
two_pointers Shape.Nil Shape.Nil = true
two_pointers l r = false

-- an ordinal, and a set whose members have its host type
abbrev pub member_and_set : Operands
member_and_set (Shape.Ordinal h) (Shape.Set host packing) = hosts_agree (Some h) host
member_and_set l r = false

-- ---- the table of operators

-- A row: operands that an operator takes, and what it does with them.
pub record OperatorRow : Type 0 where
  pub takes : Operands
  pub does : Shape → Shape → Operation

abbrev pub on : Operands → Operation → OperatorRow
on takes operation = record { takes = takes; does = λ l r. operation }

-- The result is packed or unpacked where an operand that is no constructor is so.
abbrev pub joined_packing : Packing → Packing → Packing
joined_packing Either q = q
joined_packing p q = p

-- the operation on two sets
abbrev pub set_of_both : SetOperator → Shape → Shape → Operation
set_of_both o (Shape.Set a p) (Shape.Set b q) = Operation.Sets o (or_else a b) (joined_packing p q)
set_of_both o l r = Operation.Sets o None Either

-- `+ - *`: on integers, and on sets as union, difference, intersection
abbrev pub on_both : ArithOp → SetOperator → List OperatorRow
on_both o s = on (of_host 0) (Operation.Arithmetic o) ∷ record { takes = two_sets; does = set_of_both s } ∷ []

abbrev pub equality_rows : Order → Bool → List OperatorRow
equality_rows o equal = on two_sets (Operation.CompareSets o) ∷ on two_pointers (Operation.ComparePointers equal) ∷ []

-- `= <>` relate sets, and pointers; `<= >=` sets; `< >` neither
abbrev pub more_related : Order → List OperatorRow
more_related Order.Equal = equality_rows Order.Equal true
more_related Order.NotEqual = equality_rows Order.NotEqual false
more_related Order.AtMost = on two_sets (Operation.CompareSets Order.AtMost) ∷ []
more_related Order.AtLeast = on two_sets (Operation.CompareSets Order.AtLeast) ∷ []
more_related o = []

-- the rows of each operator
abbrev pub rows_of : Operator → List OperatorRow
rows_of operator.Plus = on_both ArithOp.Plus SetOperator.Union
rows_of operator.Minus = on_both ArithOp.Minus SetOperator.Difference
rows_of operator.Times = on_both ArithOp.Times SetOperator.Intersection
rows_of operator.Div = on (of_host 0) (Operation.Arithmetic ArithOp.Div) ∷ []
rows_of operator.Mod = on (of_host 0) (Operation.Arithmetic ArithOp.Mod) ∷ []
rows_of operator.And = on (of_host 1) (Operation.Logic Logic.And) ∷ []
rows_of operator.Or = on (of_host 1) (Operation.Logic Logic.Or) ∷ []
rows_of (operator.Relation o) =
    on two_ordinals (Operation.Compare o) ∷ on two_strings (Operation.CompareTexts o) ∷ more_related o
rows_of operator.In = on member_and_set Operation.In ∷ []

-- what the first of these rows that takes the operands does with them
abbrev pub done_by : List OperatorRow → Shape → Shape → Option Operation
done_by [] l r = None
done_by (row ∷ rows) l r = if row.takes l r then Some (row.does l r) else done_by rows l r

-- what an operator does with operands of these types, and none where they don't fit it or one is unknown
abbrev pub operation_of : Operator → Shape → Shape → Option Operation
operation_of o l r = done_by (rows_of o) l r

-- rule 30: the operands do not fit the operator. An operand of unknown type breaks no further rule.
abbrev pub fits : Operator → Shape → Shape → Bool
fits o l r = is_unknown_shape l || is_unknown_shape r || is_some (operation_of o l r)

-- ---- what comes of it

abbrev pub operation_type : Option Operation → ExpressionType
operation_type None = ExpressionType.Unknown
operation_type (Some (Operation.Arithmetic o)) = ExpressionType.Of 0
operation_type (Some (Operation.Sets o host packing)) = ExpressionType.Set host packing
operation_type (Some o) = ExpressionType.Of 1

-- the row of an operation on operands of these numbers
abbrev pub operation_row : Option Operation → ℕ → ℕ → Row
operation_row None l r = row.Nothing
operation_row (Some (Operation.Arithmetic o)) l r = row.Expression (ExpressionRow.Arithmetic o l r)
operation_row (Some (Operation.Logic o)) l r = row.Expression (ExpressionRow.Logic o l r)
operation_row (Some (Operation.Sets o host packing)) l r = row.Expression (ExpressionRow.Sets o l r)
operation_row (Some (Operation.Compare o)) l r = row.Expression (ExpressionRow.Compare o l r)
operation_row (Some (Operation.CompareTexts o)) l r = row.Expression (ExpressionRow.CompareTexts o l r)
operation_row (Some (Operation.CompareSets o)) l r = row.Expression (ExpressionRow.CompareSets o l r)
operation_row (Some (Operation.ComparePointers equal)) l r = row.Expression (ExpressionRow.ComparePointers equal l r)
operation_row (Some Operation.In) l r = row.Expression (ExpressionRow.In l r)
