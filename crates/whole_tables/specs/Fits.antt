-- Whether the rows of a program fit, as a test: each line says what the line of `RowFits` says.
use Rattle.std.specs.Prelude.{if◌then◌else◌, ◌&&◌, ◌||◌, ℕ, Bool, None, Option, Some, false, is_some, length, nat_eq}
use Rattle.std.specs.Prelude.{nat_lt, negsuc, not, pos, suc, true, zero}
use Rattle.std.specs.Ordering.{int_eq}
use Rattle.core_program.specs.Headings.{heading_in, signature_at}
use Rattle.core_program.specs.ProgramRows.{ProgramRows, routine_at, row_at, type_at}
use Rattle.core_program.specs.WholeTables.{has_result, is_access, is_actual_item, is_array_access, is_array_actual}
use Rattle.core_program.specs.WholeTables.{is_array_type, is_bounded, is_cells, is_choice_of, is_conformant}
use Rattle.core_program.specs.WholeTables.{is_element_of, is_end, is_field_row, is_formal, is_function, is_holder_row}
use Rattle.core_program.specs.WholeTables.{is_host_type, is_list, is_member_item, is_ordinal, is_read_access}
use Rattle.core_program.specs.WholeTables.{is_record_access, is_result_type, is_routine, is_scalar, is_section_item}
use Rattle.core_program.specs.WholeTables.{is_statement, is_text, is_turns_row, is_type, is_value_for, is_variable_row}
use Rattle.core_program.specs.WholeTables.{is_variant, is_variants_row, is_whole_array, is_written_item, signature_of}
use Rattle.core_program.specs.declared.{program.Routine.Routine, rows.ExpressionRow.ExpressionRow}
use Rattle.core_program.specs.declared.rows.{AccessRow.AccessRow, ItemRow.ItemRow, NameRow.NameRow, PartRow.PartRow}
use Rattle.core_program.specs.declared.rows.{Row.Row, StatementRow.StatementRow, TypeRow.TypeRow}
use Rattle.core_program.specs.declared.rows.ItemRow.TheVariants as item
use Rattle.core_program.specs.declared.rows.TypeRow.TheVariants as kind

-- what holds of each number below one
abbrev pub all_below : ℕ → (ℕ → Bool) → Bool
all_below zero test = true
all_below (suc n) test = test n && all_below n test

abbrev pub for_some : Option ℕ → (ℕ → Bool) → Bool
for_some None test = true
for_some (Some n) test = test n

abbrev pub type_fits : ProgramRows → (at : ℕ) → TypeRow → Bool
type_fits p at (kind.Ordinal least greatest) = true
type_fits p at (kind.Subrange host least greatest) = is_host_type (type_at p host)
type_fits p at (kind.Set packed base) = is_ordinal p base
type_fits p at (kind.Pointer domain) = is_type p domain
type_fits p at (kind.Array packed index component cells) = is_ordinal p index && is_type p component
type_fits p at (kind.Conformant packed index component place) =
    is_ordinal p index && is_type p component && (not (is_conformant p component) || nat_lt at component)
type_fits p at (kind.Record packed region cells variants) = for_some variants (λ v. is_variants_row (row_at p v))

abbrev pub name_fits : ProgramRows → NameRow → Bool
name_fits p (NameRow.Constant of' value) = is_ordinal p of'
name_fits p (NameRow.Text token) = is_text p token
name_fits p (NameRow.TypeName of') = is_type p of'
name_fits p (NameRow.Variable mode of' place level) = is_type p of'
name_fits p (NameRow.Bound of' place level) = is_ordinal p of'
name_fits p (NameRow.RoutineFormal place level heading) = is_some (signature_at p heading)
name_fits p (NameRow.Field of' offset holder) = is_type p of' && is_holder_row (row_at p holder)
name_fits p (NameRow.Tag of' offset holder variants) =
    is_ordinal p of' && is_holder_row (row_at p holder) && is_variants_row (row_at p variants)
name_fits p (NameRow.Routine assigned number region) = is_routine p number
name_fits p n = true

-- the next item of a list, or its end
abbrev pub goes : (Row → Bool) → ProgramRows → (at next : ℕ) → Bool
goes is_item p at next = is_list is_item p next && (is_end next || nat_lt at next)

abbrev pub part_fits : ProgramRows → (at : ℕ) → PartRow → Bool
part_fits p at (PartRow.Variants hidden offset cells values holder) =
    is_list (is_choice_of (is_variant p)) p values && is_holder_row (row_at p holder) && nat_lt holder at
part_fits p at (PartRow.Variant variants position) = is_variants_row (row_at p variants) && nat_lt variants at
part_fits p at (PartRow.Heading name sections result) =
    goes is_section_item p at sections && for_some result (λ t. is_result_type (type_at p t))
part_fits p at q = true

-- a repetitive statement, or another one
abbrev pub repeated_fits : ProgramRows → StatementRow → Bool
repeated_fits p (StatementRow.Repeat line statements condition) =
    is_list (is_element_of (is_statement p)) p statements && is_scalar p condition
repeated_fits p (StatementRow.While line condition body) = is_scalar p condition && is_statement p body
repeated_fits p (StatementRow.For line initial turns) = is_scalar p initial && is_turns_row (row_at p turns)
repeated_fits p (StatementRow.Turns direction last place of' body) =
    is_scalar p last && is_ordinal p of' && is_statement p body
repeated_fits p s = true

-- a conditional statement, or another one
abbrev pub choosing_fits : ProgramRows → StatementRow → Bool
choosing_fits p (StatementRow.If line condition then') = is_scalar p condition && is_statement p then'
choosing_fits p (StatementRow.IfElse line condition then' otherwise) =
    is_scalar p condition && is_statement p then' && is_statement p otherwise
choosing_fits p (StatementRow.Case line selector choices) =
    is_scalar p selector && is_list (is_choice_of (is_statement p)) p choices
choosing_fits p s = repeated_fits p s

-- a call of a required procedure, or another statement
abbrev pub required_fits : ProgramRows → StatementRow → Bool
required_fits p (StatementRow.Read ends_line line actuals) = is_list (is_element_of (is_read_access p)) p actuals
required_fits p (StatementRow.Write ends_line line actuals) = is_list is_written_item p actuals
required_fits p (StatementRow.New line a of') = is_access p a && is_type p of'
required_fits p (StatementRow.Dispose line v of') = is_scalar p v && is_type p of'
required_fits p (StatementRow.Pack packing line unpacked index packed) =
    is_array_access p unpacked && is_scalar p index && is_array_access p packed
required_fits p s = choosing_fits p s

abbrev pub statement_fits : ProgramRows → (at : ℕ) → StatementRow → Bool
statement_fits p at (StatementRow.Assign line target value of') =
    is_access p target && is_value_for p (type_at p of') value
statement_fits p at (StatementRow.Call line routine levels actuals) =
    is_routine p routine && is_list is_actual_item p actuals
statement_fits p at (StatementRow.CallFormal line formal levels actuals) =
    is_formal p formal && is_list is_actual_item p actuals
statement_fits p at (StatementRow.Labelled label s) = is_statement p s && nat_lt at s
statement_fits p at (StatementRow.Compound statements) = is_list (is_element_of (is_statement p)) p statements
statement_fits p at (StatementRow.With line records body) =
    is_list (is_element_of (is_record_access p)) p records && is_statement p body
statement_fits p at s = required_fits p s

abbrev pub expression_fits : ProgramRows → ExpressionRow → Bool
expression_fits p (ExpressionRow.Text token) = is_text p token
expression_fits p (ExpressionRow.Sign minus operand) = is_scalar p operand
expression_fits p (ExpressionRow.Not operand) = is_scalar p operand
expression_fits p (ExpressionRow.Arithmetic operator left right) = is_scalar p left && is_scalar p right
expression_fits p (ExpressionRow.Logic operator left right) = is_scalar p left && is_scalar p right
expression_fits p (ExpressionRow.Sets operator left right) = is_scalar p left && is_scalar p right
expression_fits p (ExpressionRow.Compare order left right) = is_scalar p left && is_scalar p right
expression_fits p (ExpressionRow.CompareTexts order left right) = is_cells p left && is_cells p right
expression_fits p (ExpressionRow.CompareSets order left right) = is_scalar p left && is_scalar p right
expression_fits p (ExpressionRow.ComparePointers equal left right) = is_scalar p left && is_scalar p right
expression_fits p (ExpressionRow.In left right) = is_scalar p left && is_scalar p right
expression_fits p (ExpressionRow.Set members) = is_list is_member_item p members
expression_fits p (ExpressionRow.Apply routine levels actuals) =
    is_function (routine_at p routine) && is_list is_actual_item p actuals
expression_fits p (ExpressionRow.ApplyFormal formal levels actuals) =
    has_result (signature_of p (heading_in (row_at p formal))) && is_list is_actual_item p actuals
expression_fits p (ExpressionRow.Function function operand least greatest) = is_scalar p operand
expression_fits p e = true

abbrev pub access_fits : ProgramRows → (at : ℕ) → AccessRow → Bool
access_fits p at (AccessRow.Variable place levels of') = is_type p of'
access_fits p at (AccessRow.Reference place levels of') = is_type p of'
access_fits p at (AccessRow.Conformant place levels of') = is_conformant p of'
access_fits p at (AccessRow.Component inner index array of') = is_bounded p inner && nat_lt inner at
    && is_scalar p index && is_conformant p array && is_type p of'
access_fits p at (AccessRow.Within record' field of') = is_field_row (row_at p field) && is_type p of'
access_fits p at (AccessRow.Index inner index array of') = is_access p inner && nat_lt inner at && is_scalar p index
    && is_array_type (type_at p array) && is_type p of'
access_fits p at (AccessRow.Field inner field of') =
    is_access p inner && nat_lt inner at && is_field_row (row_at p field) && is_type p of'
access_fits p at (AccessRow.Dereference inner of') = is_access p inner && nat_lt inner at && is_type p of'

abbrev pub written_fits : ProgramRows → (value of' : ℕ) → Bool
written_fits p value of' = (is_scalar p value || is_cells p value) && (not (is_scalar p value) || is_ordinal p of')

-- a list goes on, where what one of its items names is of the kind that the list is of
abbrev pub elements_go : (fits : ℕ → Bool) → ProgramRows → (at named next : ℕ) → Bool
elements_go fits p at x next = not (fits x) || goes (is_element_of fits) p at next

abbrev pub choices_go : (fits : ℕ → Bool) → ProgramRows → (at named next : ℕ) → Bool
choices_go fits p at x next = not (fits x) || goes (is_choice_of fits) p at next

abbrev pub actual_fits : ProgramRows → (at : ℕ) → ItemRow → Bool
actual_fits p at (item.Value v of' next) = is_value_for p (type_at p of') v && goes is_actual_item p at next
actual_fits p at (item.Place a next) = is_access p a && goes is_actual_item p at next
actual_fits p at (item.ArrayPlace first a of' next) =
    is_array_actual p a && is_conformant p of' && goes is_actual_item p at next
actual_fits p at (item.ArrayValue first v of' next) =
    is_whole_array p v && is_conformant p of' && goes is_actual_item p at next
actual_fits p at (item.Routine routine levels next) = is_routine p routine && goes is_actual_item p at next
actual_fits p at (item.RoutineFormal formal levels next) = is_formal p formal && goes is_actual_item p at next
actual_fits p at i = true

abbrev pub item_fits : ProgramRows → (at : ℕ) → ItemRow → Bool
item_fits p at (item.Element x next) = elements_go (is_statement p) p at x next
    && elements_go (is_record_access p) p at x next && elements_go (is_read_access p) p at x next
item_fits p at (item.Written v of' next) = written_fits p v of' && goes is_written_item p at next
item_fits p at (item.WrittenWide v of' width next) =
    written_fits p v of' && is_scalar p width && goes is_written_item p at next
item_fits p at (item.Member v next) = is_scalar p v && goes is_member_item p at next
item_fits p at (item.Members first last next) = is_scalar p first && is_scalar p last && goes is_member_item p at next
item_fits p at (item.Choice value chosen next) =
    choices_go (is_statement p) p at chosen next && choices_go (is_variant p) p at chosen next
item_fits p at (item.Section mode first count next) =
    is_variable_row (row_at p first) && goes is_section_item p at next
item_fits p at (item.RoutineSection heading next) =
    is_some (signature_at p heading) && nat_lt at heading && goes is_section_item p at next
item_fits p at i = actual_fits p at i

abbrev pub row_fits : ProgramRows → (at : ℕ) → Row → Bool
row_fits p at Row.Nothing = true
row_fits p at (Row.Type t) = type_fits p at t
row_fits p at (Row.Name n) = name_fits p n
row_fits p at (Row.Part q) = part_fits p at q
row_fits p at (Row.Statement s) = statement_fits p at s
row_fits p at (Row.Expression e) = expression_fits p e
row_fits p at (Row.Access a) = access_fits p at a
row_fits p at (Row.Item i) = item_fits p at i

-- the type integer
abbrev pub is_integer : Option TypeRow → Bool
is_integer (Some (kind.Ordinal least greatest)) = int_eq least (negsuc 2147483646) && int_eq greatest (pos 2147483647)
is_integer t = false

abbrev pub same_bool : Bool → Bool → Bool
same_bool a b = if a then b else not b

-- the program block, which is the routine of number 0, has no heading
abbrev pub routine_fits : ProgramRows → ℕ → Option Routine → Bool
routine_fits p number None = true
routine_fits p number (Some r) = is_list (is_element_of (is_statement p)) p r.statements
    && same_bool (is_some r.result) (has_result (signature_at p r.heading))
    && (nat_eq number 0 || is_some (signature_at p r.heading))

abbrev pub do_all_fit : ProgramRows → (rows : ℕ) → Bool
do_all_fit p rows = is_integer (type_at p 0) && nat_lt 0 (length p.routines)
    && all_below rows (λ at. row_fits p at (row_at p at))
    && all_below (length p.routines) (λ n. routine_fits p n (routine_at p n))
