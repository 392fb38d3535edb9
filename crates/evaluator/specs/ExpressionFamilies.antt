-- Families of expressions: what each of a family does. What is of no family has no row.
use Rattle.core_program.specs.{Accesses.no_row, Expressions.of_expression, ProgramRows.ProgramRows, Tree.ActTree}
use Rattle.core_program.specs.{Tree.Here, declared.rows.ExpressionRow.ExpressionRow}
use Rattle.core_program.specs.declared.rows.ExpressionRow.TheVariants as expressions

-- an expression that is neither `eof` nor `eoln`
abbrev pub of_operation : ProgramRows → Here → ExpressionRow → ActTree
of_operation p h expressions.Eof = no_row
of_operation p h expressions.Eoln = no_row
of_operation p h e = of_expression p h e

-- a sign, `not`, or a required function of an ordinal (6.7.2.2, 6.7.2.3, 6.6.6)
abbrev pub of_monadic : ProgramRows → Here → ExpressionRow → ActTree
of_monadic p h (expressions.Sign minus operand) = of_expression p h (expressions.Sign minus operand)
of_monadic p h (expressions.Not operand) = of_expression p h (expressions.Not operand)
of_monadic p h (expressions.Function f operand least greatest) =
    of_expression p h (expressions.Function f operand least greatest)
of_monadic p h e = no_row

-- a function designator (6.7.3)
abbrev pub of_designator : ProgramRows → Here → ExpressionRow → ActTree
of_designator p h (expressions.Apply routine levels actuals) =
    of_expression p h (expressions.Apply routine levels actuals)
of_designator p h (expressions.ApplyFormal formal levels actuals) =
    of_expression p h (expressions.ApplyFormal formal levels actuals)
of_designator p h e = no_row

-- an expression without a dyadic operator on values of one cell
abbrev pub of_other : ProgramRows → Here → ExpressionRow → ActTree
of_other p h (expressions.Constant n) = of_expression p h (expressions.Constant n)
of_other p h expressions.Nil = of_expression p h expressions.Nil
of_other p h (expressions.Text token) = of_expression p h (expressions.Text token)
of_other p h (expressions.CompareTexts order left right) =
    of_expression p h (expressions.CompareTexts order left right)
of_other p h (expressions.Set members) = of_expression p h (expressions.Set members)
of_other p h (expressions.Sign minus operand) = of_expression p h (expressions.Sign minus operand)
of_other p h (expressions.Not operand) = of_expression p h (expressions.Not operand)
of_other p h (expressions.Function f operand least greatest) =
    of_expression p h (expressions.Function f operand least greatest)
of_other p h (expressions.Apply routine levels actuals) = of_expression p h (expressions.Apply routine levels actuals)
of_other p h (expressions.ApplyFormal formal levels actuals) =
    of_expression p h (expressions.ApplyFormal formal levels actuals)
of_other p h e = no_row
