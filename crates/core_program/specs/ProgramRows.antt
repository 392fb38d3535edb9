-- A program, as a contract sees it: its tables.
use Rattle.std.specs.Prelude.{[], ℕ, List, None, Option, Some, replicate, slice_get, slice_set, unwrap_or}
use Rattle.core_program.specs.declared.program.Routine.{Routine}
use Rattle.core_program.specs.declared.rows.{NameRow.NameRow, Row.Row, TypeRow.TypeRow}

pub record ProgramRows : Type 0 where
  -- what stands at each number
  pub rows : List Row
  -- routine 0 is the program block
  pub routines : List Routine
  -- of each token its text: of a name as it is written, of a string its characters
  pub texts : List (List ℕ)

-- the tables of a program of which only the texts are known
abbrev pub blank_tables : ℕ → List (List ℕ) → ProgramRows
blank_tables rows texts = record { rows = replicate rows Row.Nothing; routines = []; texts = texts }

abbrev pub row_at : ProgramRows → ℕ → Row
row_at p number = unwrap_or (slice_get p.rows number) Row.Nothing

abbrev pub type_in : Row → Option TypeRow
type_in (Row.Type t) = Some t
type_in r = None

-- the type of a number, and none where a broken rule leaves it unknown
abbrev pub type_at : ProgramRows → ℕ → Option TypeRow
type_at p number = type_in (row_at p number)

abbrev pub routine_at : ProgramRows → ℕ → Option Routine
routine_at p number = slice_get p.routines number

abbrev pub text_at : ProgramRows → ℕ → List ℕ
text_at p token = unwrap_or (slice_get p.texts token) []

abbrev pub name_of_routine : ProgramRows → Option Routine → List ℕ
name_of_routine p None = []
name_of_routine p (Some r) = text_at p r.name

-- a routine's name, as its first heading spells it
abbrev pub name_of : ProgramRows → ℕ → List ℕ
name_of p routine = name_of_routine p (routine_at p routine)

abbrev pub frame_in : Option Routine → ℕ
frame_in None = 0
frame_in (Some r) = r.cells

-- the cells of a routine's frame
abbrev pub frame_of : ProgramRows → ℕ → ℕ
frame_of p routine = frame_in (routine_at p routine)

abbrev pub cells_in : Option TypeRow → ℕ
cells_in None = 0
cells_in (Some (TypeRow.Array packed index component cells)) = cells
cells_in (Some (TypeRow.Record packed region cells variants)) = cells
cells_in (Some t) = 1

-- the cells of a variable of a type
abbrev pub size_of : ProgramRows → ℕ → ℕ
size_of p t = cells_in (type_at p t)

abbrev pub offset_in : Row → ℕ
offset_in (Row.Name (NameRow.Field of' offset holder)) = offset
offset_in (Row.Name (NameRow.Tag of' offset holder variants)) = offset
offset_in r = 0

-- where a field's cells begin in its record
abbrev pub offset_of : ProgramRows → ℕ → ℕ
offset_of p field = offset_in (row_at p field)

abbrev pub with_row : ProgramRows → ℕ → Row → ProgramRows
with_row p number r = record p { rows = slice_set p.rows number r }

abbrev pub with_routine : ProgramRows → ℕ → Routine → ProgramRows
with_routine p number r = record p { routines = slice_set p.routines number r }
