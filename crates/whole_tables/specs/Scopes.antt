-- Whether the records of with statements are there that constructs need, as a test: by a column of how many each
-- construct needs around it.
use Rattle.std.specs.Prelude.{◌&&◌, ◌+◌, ◌∷◌, [], ℕ, Bool, List, None, Option, Some, false, length, nat_eq, nat_le}
use Rattle.std.specs.Prelude.{nat_lt, slice_get, suc, true, unwrap_or, zero}
use Rattle.core_program.specs.{WholeTables.parts_of, declared.program.Routine.Routine}
use Rattle.core_program.specs.ProgramRows.{ProgramRows, routine_at, row_at}
use Rattle.core_program.specs.declared.rows.{AccessRow.AccessRow, ItemRow.ItemRow, Row.Row, StatementRow.StatementRow}
use Rattle.whole_tables.specs.Fits.{all_below}

-- how many records of with statements a construct needs around it
abbrev pub needed : List ℕ → ℕ → ℕ
needed column n = unwrap_or (slice_get column n) 0

abbrev pub each_of : (ℕ → Bool) → List ℕ → Bool
each_of test [] = true
each_of test (n ∷ ns) = test n && each_of test ns

-- the element of a list, and the number of the next one
abbrev pub element_of : Row → Option (ℕ × ℕ)
element_of (Row.Item (ItemRow.Element a next)) = Some (a, next)
element_of r = None

abbrev pub scoped_item : List ℕ → (more : (records at : ℕ) → Bool) → (records body : ℕ) → Option (ℕ × ℕ) → Bool
scoped_item column more w body (Some e) = nat_le (needed column e.0) w && more (w + 1) e.1
scoped_item column more w body None = nat_le (needed column body) w

abbrev pub scoped_records : ProgramRows → List ℕ → (n records at body : ℕ) → Bool
scoped_records p column zero w at body = false
scoped_records p column (suc n) w at body =
    scoped_item column (λ v next. scoped_records p column n v next body) w body (element_of (row_at p at))

-- of so many rows
abbrev pub scoped_row : ProgramRows → List ℕ → (rows at : ℕ) → Row → Bool
scoped_row p column rows at (Row.Access (AccessRow.Within record' field of')) = nat_lt record' (needed column at)
scoped_row p column rows at (Row.Statement (StatementRow.With line records body)) =
    scoped_records p column rows (needed column at) records body
scoped_row p column rows at r = each_of (λ n. nat_le (needed column n) (needed column at)) (parts_of r)

abbrev pub outermost : List ℕ → Option Routine → Bool
outermost column None = true
outermost column (Some r) = nat_eq (needed column r.statements) 0

abbrev pub are_all_scoped : ProgramRows → List ℕ → (rows : ℕ) → Bool
are_all_scoped p column rows = all_below rows (λ at. scoped_row p column rows at (row_at p at))
    && all_below (length p.routines) (λ n. outermost column (routine_at p n))
