-- The required procedures of text files: read, readln, write, writeln and page (6.9).
use Rattle.std.specs.Prelude.{◌&&◌, ◌||◌, ◌∷◌, [], ℕ, Bool, List, None, Option, Some, false, length, nat_eq, nat_lt}
use Rattle.std.specs.Prelude.{true}
use Rattle.pas_tree.specs.{ExpressionPlaces.first_of_expression, declared.statements.NextActual.NextActual}
use Rattle.pas_tree.specs.StatementTrees.{ActualTree, ActualsTree, NextActualTree, WidthTree, actual_tree}
use Rattle.core_program.specs.declared.rows.{ItemRow.ItemRow, StatementRow.StatementRow}
use Rattle.core_program.specs.declared.rows.TextFile.{TextFile, TheVariants.Input, TheVariants.Output}
use Rattle.check_steps.specs.{Items.add_item, Known.Known}
use Rattle.check_steps.specs.Steps.{◌>>=◌, Step, each, give, late, look}
use Rattle.kind_checker.specs.{Operators.is_of_host, Operators.is_operand, Operators.is_unknown_shape, Shapes.shape_of}
use Rattle.kind_checker.specs.declared.shapes.{ExpressionType.ExpressionType, Shape.Shape}
use Rattle.expression_checker.specs.{Expressions.expression as expression_step, NamesAlone.name_alone}
use Rattle.expression_checker.specs.{Threats.threat_alone, declared.typed.Location.Location, declared.typed.Typed.Typed}
use Rattle.statement_checker.specs.{Sequences.stated, declared.actuals.RequiredCall.RequiredCall}
use Rattle.statement_checker.specs.Actuals.{actual_file, plain_actual, wrong_number}
use Rattle.statement_checker.specs.declared.transfers.Transfer.{Transfer, TheVariants.Reading, TheVariants.Writing}

-- ---- what is read

abbrev pub is_access : Location → Bool
is_access Location.Nowhere = false
is_access l = true

-- An access of an integer or a char type, or of a subrange of one. What is of unknown type breaks no further rule.
abbrev pub is_readable : Known → Typed → Bool
is_readable k v = is_unknown_shape (shape_of k v.of)
    || (is_access v.location && (is_of_host 0 (shape_of k v.of) || is_of_host 2 (shape_of k v.of)))

-- rule 32: an actual of read is no access of an integer or a char type, at its first token; a variable as a whole is
-- threatened
unfoldable pub read_item : ℕ → ℕ → ℕ → ActualTree → Step ℕ
read_item frame last slot a = do
  _ ← threat_alone frame (name_alone a.expression)
  v ← plain_actual frame a
  fine ← look (λ k. is_readable k v)
  _ ← late 32 (first_of_expression a.expression) fine
  add_item last slot (ItemRow.Element v.row 0)

-- ---- what is written

-- an integer, a char, a Boolean or a string
abbrev pub is_writable : Shape → Bool
is_writable (Shape.Ordinal host) = nat_eq host 0 || nat_eq host 1 || nat_eq host 2
is_writable (Shape.Text length) = true
is_writable s = is_unknown_shape s

-- rule 33: a width is not an integer, at the `:`
unfoldable pub width : ℕ → WidthTree → Step ℕ
width frame w = do
  v ← expression_step frame w.width
  fine ← look (λ k. is_operand 0 (shape_of k v.of))
  _ ← late 33 w.colon fine
  give v.row

-- The type of what is written. A string constant has none: its own number is given, at which no type stands.
abbrev pub written_type : ExpressionType → ℕ → ℕ
written_type (ExpressionType.Of t) number = t
written_type t number = number

abbrev pub written_item : Typed → Option ℕ → ItemRow
written_item v None = ItemRow.Written v.row (written_type v.of v.row) 0
written_item v (Some width) = ItemRow.WrittenWide v.row (written_type v.of v.row) width 0

-- an actual and its width; where the last item of the list stands is given
abbrev pub put_written : ℕ → ℕ → Typed → ℕ → Option WidthTree → Step ℕ
put_written frame last v slot None = add_item last slot (written_item v None)
put_written frame last v slot (Some w) = do
  n ← width frame w
  add_item last slot (written_item v (Some n))

-- rule 32: an actual of write is no integer, char, Boolean or string, at its first token
unfoldable pub write_item : ℕ → ℕ → ℕ → ActualTree → Step ℕ
write_item frame last slot a = do
  v ← expression_step frame a.expression
  fine ← look (λ k. is_writable (shape_of k v.of))
  _ ← late 32 (first_of_expression a.expression) fine
  put_written frame last v slot a.width

-- ---- lists of what is read or written

abbrev pub item_by : Transfer → ℕ → ℕ → ℕ → ActualTree → Step ℕ
item_by Reading frame last slot a = read_item frame last slot a
item_by Writing frame last slot a = write_item frame last slot a

abbrev pub another_item : Transfer → ℕ → ℕ → NextActualTree → Step ℕ
another_item t frame last n = item_by t frame last n.comma n.actual

-- the same of what the code holds
unfoldable pub next_item : Transfer → ℕ → ℕ → NextActual → Step ℕ
next_item t frame last n = item_by t frame last n.comma (actual_tree n.actual)

-- the input is read, the output is written
abbrev pub is_file_of : Transfer → TextFile → Bool
is_file_of Reading Input = true
is_file_of Writing Output = true
is_file_of t file = false

-- The first actual may name the text file; rule 32: it is the wrong one, at its first token.
abbrev pub first_item : Transfer → ℕ → ℕ → ℕ → ActualTree → Option TextFile → Step ℕ
first_item t frame last slot a None = item_by t frame last slot a
first_item t frame last slot a (Some file) = do
  _ ← late 32 (first_of_expression a.expression) (is_file_of t file)
  give last

abbrev pub first_comma : List NextActualTree → ℕ
first_comma [] = 0
first_comma (n ∷ ns) = n.comma

-- The number of the list: the `(`, or after a text file the first comma. After a text file alone it is empty.
abbrev pub list_of : Option TextFile → ActualsTree → ℕ
list_of None a = a.left
list_of (Some file) a = first_comma a.others

-- the list of what is read or written, by its number
unfoldable pub items : Transfer → ℕ → ℕ → ActualsTree → Option TextFile → Step ℕ
items t frame name a file = do
  one ← first_item t frame name a.left a.first file
  _ ← each (another_item t frame) one a.others
  give (list_of file a)

abbrev pub transfer_row : Transfer → Bool → ℕ → ℕ → StatementRow
transfer_row Reading ends_line line list = StatementRow.Read ends_line line list
transfer_row Writing ends_line line list = StatementRow.Write ends_line line list

-- Rule 26: read and write want one actual at least after the text file, at the procedure's name.
abbrev pub is_enough : Bool → Option TextFile → ActualsTree → Bool
is_enough ends_line None a = true
is_enough ends_line (Some file) a = ends_line || nat_lt 0 (length a.others)

-- a call with actuals of read, write, or of readln and writeln, which end a line
unfoldable pub transfer_with : Transfer → Bool → ℕ → RequiredCall → ActualsTree → Step ℕ
transfer_with t ends_line frame c a = do
  file ← look (λ k. actual_file k frame a.first)
  _ ← late 26 c.name (is_enough ends_line file a)
  list ← items t frame c.name a file
  stated c.name (transfer_row t ends_line c.line list)

-- the same without actuals
unfoldable pub transfer_alone : Transfer → Bool → RequiredCall → Step ℕ
transfer_alone t ends_line c = do
  _ ← late 26 c.name ends_line
  stated c.name (transfer_row t ends_line c.line 0)

abbrev pub transfer_call : Transfer → Bool → ℕ → RequiredCall → Option ActualsTree → Step ℕ
transfer_call t ends_line frame c None = transfer_alone t ends_line c
transfer_call t ends_line frame c (Some a) = transfer_with t ends_line frame c a

-- ---- page

-- What is no text file is known to be none, unless its type is unknown.
unfoldable pub page_other : ℕ → ActualTree → Step (Unit {0})
page_other frame a = do
  v ← plain_actual frame a
  fine ← look (λ k. is_unknown_shape (shape_of k v.of))
  late 32 (first_of_expression a.expression) fine

-- rule 32: what page takes is not the output, at its first token
abbrev pub paged : ℕ → ActualTree → Option TextFile → Step (Unit {0})
paged frame a None = page_other frame a
paged frame a (Some file) = late 32 (first_of_expression a.expression) (is_file_of Writing file)

unfoldable pub page_one : ℕ → RequiredCall → ActualTree → Step ℕ
page_one frame c a = do
  file ← look (λ k. actual_file k frame a)
  _ ← paged frame a file
  stated c.name (StatementRow.Page c.line)

-- rule 26: page takes one actual at most
abbrev pub page_some : ℕ → RequiredCall → ActualsTree → Bool → Step ℕ
page_some frame c a true = page_one frame c a.first
page_some frame c a false = wrong_number frame c.name a

abbrev pub page : ℕ → RequiredCall → Option ActualsTree → Step ℕ
page frame c None = stated c.name (StatementRow.Page c.line)
page frame c (Some a) = page_some frame c a (nat_eq (length a.others) 0)
