-- What read and write statements do with their actuals, one after the other (6.9).
use Rattle.std.specs.Prelude.{if◌then◌else◌, ◌==◌, ℕ, None, Option, Some}
use Rattle.cell_value.specs.declared.values.Value.{Value}
use Rattle.core_program.specs.{Input.next_char, Input.past_item, Input.scan_on, ProgramRows.ProgramRows}
use Rattle.core_program.specs.{ProgramRows.row_at, ProgramRows.type_at, Statements.nothing, Tree.Scanning, Tree.Sub}
use Rattle.core_program.specs.{Tree.doing, Variants.assign_to, Variants.tag_accessed, declared.rows.ItemRow.ItemRow}
use Rattle.core_program.specs.{declared.rows.Row.Row, declared.scan.Scan.Scan, declared.scan.Scan.TheVariants.Blanks}
use Rattle.core_program.specs.Accesses.{eval, locate_target, no_row, on_scalar, scalar, type_accessed}
use Rattle.core_program.specs.Output.{Text, char_type, scalar_text, string_text, written}
use Rattle.core_program.specs.Tree.{ActTree, Cells, Eval, Here, Jump, Out, Print, Receive, RestOfLine, Ret, Scalar}
use Rattle.core_program.specs.declared.rows.TypeRow.{TypeRow, TheVariants.Ordinal, TheVariants.Subrange}
use Rattle.core_program.specs.declared.scan.Scanned.{Scanned, TheVariants.Further, TheVariants.Whole}

-- goes on with the host of an ordinal type: the type itself, or that of a subrange's constants
abbrev pub with_host : (of' : ℕ) → Option TypeRow → (ℕ → ActTree) → ActTree
with_host of' (Some (Ordinal least greatest)) go = go of'
with_host of' (Some (Subrange host least greatest)) go = go host
with_host of' t go = no_row

-- ---- reading

-- A value that was read goes into a variable as in an assignment, and then comes the next actual. The variable is
-- located after the value is known.
abbrev pub into : ProgramRows → Here → (access of' next : ℕ) → Value → ActTree
into p here access of' next v = locate_target access here (λ addr.
    doing here.line (assign_to p (tag_accessed p (row_at p access)) (type_at p of') addr v) (λ _.
    Sub (Receive next here) Ret))

-- goes on with a char or an integer that is read, by the host type of the variable that is to get it (6.9.1)
abbrev pub read_for : Here → (host : ℕ) → (Value → ActTree) → ActTree
read_for here host go =
    if host == char_type then doing here.line next_char go else Sub (Scanning Blanks here) (on_scalar go)

abbrev pub received : ProgramRows → Here → (access next : ℕ) → Row → ActTree
received p here access next (Row.Access a) =
    with_host (type_accessed a) (type_at p (type_accessed a)) (λ host.
    read_for here host (into p here access (type_accessed a) next))
received p here access next r = no_row

-- The actuals of a read statement from an item on.
abbrev pub of_received : ProgramRows → Here → Row → ActTree
of_received p here (Row.Item (ItemRow.Element access next)) = received p here access next (row_at p access)
of_received p here r = no_row

-- after a turn of the reading of an integer: the next one, or the value
abbrev pub on_scanned : Here → Scanned → ActTree
on_scanned here (Further scan) = Sub (Scanning scan here) Ret
on_scanned here (Whole v) = scalar v

-- a turn of the reading of an integer, and those after it
abbrev pub of_scan : Scan → Here → ActTree
of_scan scan here = doing here.line (scan_on scan) (on_scanned here)

-- an item of the rest of a line, and those after it
abbrev pub of_rest_of_line : Here → ActTree
of_rest_of_line here = doing here.line past_item (λ ended. if ended then nothing else Sub (RestOfLine here) Ret)

-- ---- writing

-- goes on with the text of a value that is written, by the number of its type
abbrev pub on_text : ProgramRows → (of' : ℕ) → (Text → ActTree) → Out → ActTree
on_text p of' go (Scalar v) = with_host of' (type_at p of') (λ host. go (scalar_text host v))
on_text p of' go (Cells vs) = go (string_text vs)
on_text p of' go (Jump label base) = Ret (Jump label base)
on_text p of' go out = no_row

-- a text is written, and then comes the next actual
abbrev pub print : Here → (next : ℕ) → Text → Option Value → ActTree
print here next text width = doing here.line (written text width) (λ _. Sub (Print next here) Ret)

-- The actuals of a write statement from an item on: of each the value, then its width, and then its bytes are given.
abbrev pub of_printed : ProgramRows → Here → Row → ActTree
of_printed p here (Row.Item (ItemRow.Written e of' next)) =
    Sub (Eval e here) (on_text p of' (λ text. print here next text None))
of_printed p here (Row.Item (ItemRow.WrittenWide e of' width next)) =
    Sub (Eval e here) (on_text p of' (λ text. eval width here (λ w. print here next text (Some w))))
of_printed p here r = no_row
