-- Expressions by their rows.
use Rattle.std.proofs.Common.{◌≡◌, ℕ, None, Option, Some, refl}
use Rattle.core_program.specs.{Accesses.eval, ProgramRows.ProgramRows, Tree.ActTree, Tree.Here, declared.rows.ExpressionRow.ExpressionRow}
use Rattle.core_program.specs.Expressions.{of_expression, operation_result}
use Rattle.eval_ops.specs.{Operators.dyadic_in, Operators.dyadic_of, declared.operators.Dyadic.Dyadic}
use Rattle.evaluator.specs.ExpressionFamilies.{of_operation, of_other}

-- an expression, by its dyadic operator if it has one
abbrev pub by_dyadic : ProgramRows → Here → ExpressionRow → Option (Dyadic × ℕ × ℕ) → ActTree
by_dyadic p h e (Some (d, left, right)) = eval left h (λ x. eval right h (λ y. operation_result h (dyadic_of d x y)))
by_dyadic p h e None = of_other p h e

pub expression_by : (p : ProgramRows) (h : Here) (e : ExpressionRow) → of_operation p h e ≡ by_dyadic p h e (dyadic_in e)
expression_by p h (ExpressionRow.Arithmetic operator left right) = refl
expression_by p h (ExpressionRow.Logic operator left right) = refl
expression_by p h (ExpressionRow.Compare order left right) = refl
expression_by p h (ExpressionRow.Sets operator left right) = refl
expression_by p h (ExpressionRow.CompareSets order left right) = refl
expression_by p h (ExpressionRow.In left right) = refl
expression_by p h (ExpressionRow.ComparePointers equal left right) = refl
expression_by p h e = refl

-- an expression of another kind
pub other_operation : (p : ProgramRows) (h : Here) (e : ExpressionRow) → (e ≡ ExpressionRow.Eof → ⊥) → (e ≡ ExpressionRow.Eoln → ⊥)
    → of_expression p h e ≡ of_operation p h e
other_operation p h ExpressionRow.Eof f g = absurd (f refl)
other_operation p h ExpressionRow.Eoln f g = absurd (g refl)
other_operation p h e f g = refl
