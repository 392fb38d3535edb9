-- What a part does, by the program's tables: its own acts, and its parts by name.
use Rattle.std.specs.Prelude.{[], ℕ, None, Option, Some}
use Rattle.core_program.specs.Accesses.{access_in, no_row, scalar, spend, until_end}
use Rattle.core_program.specs.Expressions.{expression_in, of_actual, of_members}
use Rattle.core_program.specs.ProgramRows.{ProgramRows, routine_at, row_at}
use Rattle.core_program.specs.Statements.{nothing, of_count, of_records, of_sequence, of_turn, statement_in}
use Rattle.core_program.specs.Transfers.{of_printed, of_received, of_rest_of_line, of_scan}
use Rattle.core_program.specs.Tree.{ActTree, Actuals, Body, Count, Establish, Eval, Exec, Gather, Here, Locate, Part}
use Rattle.core_program.specs.Tree.{Pass, Print, Receive, RestOfLine, Ret, Scanning, Sequence, Sub, Turn}
use Rattle.core_program.specs.declared.program.Routine.{Routine}

-- where the statement part of a routine is at work, whose frame is at a base: no with statement is around it
abbrev pub outermost : Routine → (base : ℕ) → Here
outermost r base = record { line = r.line; base = base; records = [] }

-- the statement part of a routine, which is itself a statement and takes a step
abbrev pub of_body : (base : ℕ) → Option Routine → ActTree
of_body base None = no_row
of_body base (Some r) =
    spend (outermost r base) (Sub (Sequence r.statements r.statements (outermost r base)) Ret)

abbrev pub layer : ProgramRows → Part → ActTree
layer p (Eval row here) = expression_in p row here (row_at p row)
layer p (Locate row target here) = access_in p row target here (row_at p row)
layer p (Pass at passed here) = until_end at (Ret (Actuals passed)) (of_actual p passed here (row_at p at))
layer p (Gather at set here) = until_end at (scalar set) (of_members set here (row_at p at))
layer p (Establish at body here) = until_end at (Sub (Exec body here) Ret) (of_records here body (row_at p at))
layer p (Exec row here) = statement_in p row here (row_at p row)
layer p (Sequence first at here) = until_end at nothing (of_sequence p here first (row_at p at))
layer p (Turn row here) = of_turn row here (row_at p row)
layer p (Count row i last here) = of_count row here i last (row_at p row)
layer p (Receive at here) = until_end at nothing (of_received p here (row_at p at))
layer p (Scanning scan here) = of_scan scan here
layer p (RestOfLine here) = of_rest_of_line here
layer p (Print at here) = until_end at nothing (of_printed p here (row_at p at))
layer p (Body routine base) = of_body base (routine_at p routine)
