-- What the bytes of a file are where they are to be a right program that answers.
use Rattle.std.specs.Prelude.{ℕ}
use Rattle.core_program.specs.ProgramRows.{ProgramRows}
use Rattle.dialog_replies.specs.declared.references.Reading.{Reading}
use Rattle.dialog_replies.specs.declared.references.Reading.TheVariants as readings

-- the most bytes of such a file
abbrev pub reference_bytes : ℕ
reference_bytes = 1048576

-- the same by the tables of the program
abbrev pub reading_by : {R : Type 0} → (tables : R → ProgramRows) → Reading R → Reading ProgramRows
reading_by tables (readings.Program reference) = readings.Program (tables reference)
reading_by tables (readings.Refused why) = readings.Refused why
