-- Dyadic operators.
use Rattle.std.specs.Prelude.{ℕ, None, Ok, Option, Result, Some}
use Rattle.cell_value.specs.{Arithmetic.arith_of, declared.faults.OpFault.OpFault, declared.values.Value.Value}
use Rattle.core_program.specs.{Heap.pointers_compared, declared.rows.ExpressionRow.ExpressionRow}
use Rattle.core_program.specs.Values.{comparison, in_set, is_true, logic_of, sets_compared, sets_of, truth}
use Rattle.eval_ops.specs.declared.operators.Dyadic.{Dyadic, TheVariants.Logic, TheVariants.Sets}
use Rattle.eval_ops.specs.declared.operators.Dyadic.TheVariants.{Arithmetic, Compare, ComparePointers, CompareSets, In}

-- what a dyadic operator gives of two values (6.7.2)
abbrev pub dyadic_of : Dyadic → (x y : Value) → Result Value OpFault
dyadic_of (Arithmetic operator) x y = arith_of operator x y
dyadic_of (Logic operator) x y = Ok (truth (logic_of operator (is_true x) (is_true y)))
dyadic_of (Compare order) x y = comparison order x y
dyadic_of (Sets operator) x y = sets_of operator x y
dyadic_of (CompareSets order) x y = sets_compared order x y
dyadic_of In x y = in_set x y
dyadic_of (ComparePointers equal) x y = pointers_compared equal x y

-- the operator of an expression, and the rows of its left and of its right operand
abbrev pub dyadic_in : ExpressionRow → Option (Dyadic × ℕ × ℕ)
dyadic_in (ExpressionRow.Arithmetic operator left right) = Some (Arithmetic operator, left, right)
dyadic_in (ExpressionRow.Logic operator left right) = Some (Logic operator, left, right)
dyadic_in (ExpressionRow.Compare order left right) = Some (Compare order, left, right)
dyadic_in (ExpressionRow.Sets operator left right) = Some (Sets operator, left, right)
dyadic_in (ExpressionRow.CompareSets order left right) = Some (CompareSets order, left, right)
dyadic_in (ExpressionRow.In left right) = Some (In, left, right)
dyadic_in (ExpressionRow.ComparePointers equal left right) = Some (ComparePointers equal, left, right)
dyadic_in e = None
