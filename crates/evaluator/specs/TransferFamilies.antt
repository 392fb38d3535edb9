-- What statements that read, write, pack and unpack do. What is none of them has no row.
use Rattle.std.specs.Prelude.{ℕ, None, Option, Some}
use Rattle.core_program.specs.{Accesses.no_row, ProgramRows.ProgramRows, Statements.of_statement, Tree.ActTree}
use Rattle.core_program.specs.declared.rows.StatementRow.{StatementRow}
use Rattle.core_program.specs.declared.rows.TypeRow.{TypeRow, TheVariants.Ordinal, TheVariants.Subrange}
use Rattle.evaluator.specs.{Rest.here, declared.tasks.Home.Home}

-- the host of an ordinal type with this number: the type itself, or that of a subrange's constants
abbrev pub host_in : (of' : ℕ) → Option TypeRow → Option ℕ
host_in of' (Some (Ordinal least greatest)) = Some of'
host_in of' (Some (Subrange host least greatest)) = Some host
host_in of' t = None

-- one whose line is told
abbrev pub of_transfer : ProgramRows → Home → (row : ℕ) → StatementRow → ActTree
of_transfer p home row (StatementRow.Read ends_line line actuals) =
    of_statement p row (here home line) (StatementRow.Read ends_line line actuals)
of_transfer p home row (StatementRow.Write ends_line line actuals) =
    of_statement p row (here home line) (StatementRow.Write ends_line line actuals)
of_transfer p home row (StatementRow.Page line) = of_statement p row (here home line) (StatementRow.Page line)
of_transfer p home row (StatementRow.Pack packing line unpacked index packed) =
    of_statement p row (here home line) (StatementRow.Pack packing line unpacked index packed)
of_transfer p home row s = no_row
