-- Families of statements: what each of a family does. What is of no family has no row.
use Rattle.std.specs.Prelude.{ℕ}
use Rattle.core_program.specs.{Accesses.no_row, ProgramRows.ProgramRows, Statements.of_statement, Tree.ActTree}
use Rattle.core_program.specs.declared.rows.StatementRow.{StatementRow}
use Rattle.evaluator.specs.{Rest.here, declared.tasks.Home.Home}

-- a procedure statement (6.8.2.3) whose line is told
abbrev pub of_procedure : ProgramRows → Home → (row : ℕ) → StatementRow → ActTree
of_procedure p home row (StatementRow.Call line routine levels actuals) =
    of_statement p row (here home line) (StatementRow.Call line routine levels actuals)
of_procedure p home row (StatementRow.CallFormal line formal levels actuals) =
    of_statement p row (here home line) (StatementRow.CallFormal line formal levels actuals)
of_procedure p home row s = no_row

-- a conditional statement (6.8.3.3) whose line is told
abbrev pub of_conditional : ProgramRows → Home → (row : ℕ) → StatementRow → ActTree
of_conditional p home row (StatementRow.If line condition then') =
    of_statement p row (here home line) (StatementRow.If line condition then')
of_conditional p home row (StatementRow.IfElse line condition then' otherwise) =
    of_statement p row (here home line) (StatementRow.IfElse line condition then' otherwise)
of_conditional p home row (StatementRow.Case line index choices) =
    of_statement p row (here home line) (StatementRow.Case line index choices)
of_conditional p home row s = no_row

-- a repetitive statement (6.8.3.6) whose line is told
abbrev pub of_repetitive : ProgramRows → Home → (row : ℕ) → StatementRow → ActTree
of_repetitive p home row (StatementRow.Repeat line list condition) =
    of_statement p row (here home line) (StatementRow.Repeat line list condition)
of_repetitive p home row (StatementRow.While line condition body) =
    of_statement p row (here home line) (StatementRow.While line condition body)
of_repetitive p home row (StatementRow.For line initial turns) =
    of_statement p row (here home line) (StatementRow.For line initial turns)
of_repetitive p home row s = no_row

-- a statement on a variable of the heap (6.6.5.3) whose line is told
abbrev pub of_heap : ProgramRows → Home → (row : ℕ) → StatementRow → ActTree
of_heap p home row (StatementRow.New line access of') =
    of_statement p row (here home line) (StatementRow.New line access of')
of_heap p home row (StatementRow.Dispose line value of') =
    of_statement p row (here home line) (StatementRow.Dispose line value of')
of_heap p home row s = no_row
