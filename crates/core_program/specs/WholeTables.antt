-- Whole tables: each number that a row names is that of a row of the kind that its place takes, lists end where they
-- say, no two constructs share a number, and the program block is there. The tables of every checked program are whole.
use Rattle.std.specs.Prelude.{◌&&◌, ◌+◌, ◌<◌, ◌==◌, ◌||◌, ◌∷◌, ◌≡◌, ◌≤◌, [], ℕ, Bool, IsSome, List, None, Option, Some}
use Rattle.std.specs.Prelude.{false, is_some, length, nat_lt, negsuc, pos, slice_get, suc, true, zero}
use Rattle.core_program.specs.{Headings.heading_in, Headings.signature_at, declared.rows.ExpressionRow.ExpressionRow}
use Rattle.core_program.specs.ProgramRows.{ProgramRows, routine_at, row_at, type_at}
use Rattle.core_program.specs.declared.{headings.Signature.Signature, program.Routine.Routine}
use Rattle.core_program.specs.declared.rows.{AccessRow.AccessRow, ItemRow.ItemRow, NameRow.NameRow, PartRow.PartRow}
use Rattle.core_program.specs.declared.rows.{Row.Row, StatementRow.StatementRow, TypeRow.TypeRow}
use Rattle.core_program.specs.declared.rows.StatementRow.TheVariants as statement

abbrev Holds : Bool → Type 0
Holds b = b ≡ true

-- ---- types and names

abbrev pub is_ordinal_type : Option TypeRow → Bool
is_ordinal_type (Some (TypeRow.Ordinal least greatest)) = true
is_ordinal_type (Some (TypeRow.Subrange host least greatest)) = true
is_ordinal_type t = false

-- a type whose values take one cell
abbrev pub is_simple_type : Option TypeRow → Bool
is_simple_type (Some (TypeRow.Set packed base)) = true
is_simple_type (Some (TypeRow.Pointer domain)) = true
is_simple_type t = is_ordinal_type t

abbrev pub is_structured_type : Option TypeRow → Bool
is_structured_type (Some (TypeRow.Array packed index component cells)) = true
is_structured_type (Some (TypeRow.Record packed region cells variants)) = true
is_structured_type t = false

-- the array of a conformant parameter
abbrev pub is_conformant_type : Option TypeRow → Bool
is_conformant_type (Some (TypeRow.Conformant packed index component place)) = true
is_conformant_type t = false

-- the type of a function's result
abbrev pub is_result_type : Option TypeRow → Bool
is_result_type (Some (TypeRow.Pointer domain)) = true
is_result_type t = is_ordinal_type t

abbrev pub is_host_type : Option TypeRow → Bool
is_host_type (Some (TypeRow.Ordinal least greatest)) = true
is_host_type t = false

abbrev pub is_array_type : Option TypeRow → Bool
is_array_type (Some (TypeRow.Array packed index component cells)) = true
is_array_type t = false

abbrev pub is_record_type : Option TypeRow → Bool
is_record_type (Some (TypeRow.Record packed region cells variants)) = true
is_record_type t = false

abbrev pub is_type : ProgramRows → ℕ → Bool
is_type p n = is_some (type_at p n)

abbrev pub is_conformant : ProgramRows → ℕ → Bool
is_conformant p n = is_conformant_type (type_at p n)

abbrev pub is_ordinal : ProgramRows → ℕ → Bool
is_ordinal p n = is_ordinal_type (type_at p n)

abbrev pub is_text : ProgramRows → ℕ → Bool
is_text p token = is_some (slice_get p.texts token)

abbrev pub is_variable_row : Row → Bool
is_variable_row (Row.Name (NameRow.Variable mode of' place level)) = true
is_variable_row r = false

abbrev pub is_field_row : Row → Bool
is_field_row (Row.Name (NameRow.Field of' offset holder)) = true
is_field_row (Row.Name (NameRow.Tag of' offset holder variants)) = true
is_field_row r = false

abbrev pub is_variants_row : Row → Bool
is_variants_row (Row.Part (PartRow.Variants hidden offset cells values holder)) = true
is_variants_row r = false

abbrev pub is_variant_row : Row → Bool
is_variant_row (Row.Part (PartRow.Variant variants position)) = true
is_variant_row r = false

abbrev pub is_variant : ProgramRows → ℕ → Bool
is_variant p n = is_variant_row (row_at p n)

-- what holds fields: a record, or a variant
abbrev pub is_holder_row : Row → Bool
is_holder_row (Row.Type (TypeRow.Record packed region cells variants)) = true
is_holder_row r = is_variant_row r

-- a routine of the program that has a heading, or a routine parameter
abbrev pub is_routine : ProgramRows → ℕ → Bool
is_routine p number = is_some (routine_at p number)

abbrev pub is_formal : ProgramRows → ℕ → Bool
is_formal p n = is_some (heading_in (row_at p n))

-- ---- statements, accesses and expressions

-- a statement; the turns of a for statement are a part of one
abbrev pub is_statement_row : Row → Bool
is_statement_row (Row.Statement (statement.Turns direction last place of' body)) = false
is_statement_row (Row.Statement s) = true
is_statement_row r = false

abbrev pub is_turns_row : Row → Bool
is_turns_row (Row.Statement (statement.Turns direction last place of' body)) = true
is_turns_row r = false

-- the type of what is accessed
abbrev pub type_accessed : AccessRow → ℕ
type_accessed (AccessRow.Variable place levels of') = of'
type_accessed (AccessRow.Reference place levels of') = of'
type_accessed (AccessRow.Conformant place levels of') = of'
type_accessed (AccessRow.Component access index array of') = of'
type_accessed (AccessRow.Within record' field of') = of'
type_accessed (AccessRow.Index access index array of') = of'
type_accessed (AccessRow.Field access field of') = of'
type_accessed (AccessRow.Dereference access of') = of'

-- an access of a variable of such a type
abbrev pub is_access_to : (Option TypeRow → Bool) → ProgramRows → Row → Bool
is_access_to fits p (Row.Access a) = fits (type_at p (type_accessed a))
is_access_to fits p r = false

abbrev pub is_function : Option Routine → Bool
is_function None = false
is_function (Some r) = is_some r.result

abbrev pub has_result : Option Signature → Bool
has_result None = false
has_result (Some s) = is_some s.result

abbrev pub signature_of : ProgramRows → Option ℕ → Option Signature
signature_of p None = None
signature_of p (Some heading) = signature_at p heading

-- an expression whose value takes one cell
abbrev pub gives_one_cell : ProgramRows → ExpressionRow → Bool
gives_one_cell p (ExpressionRow.Text token) = false
gives_one_cell p (ExpressionRow.Apply routine levels actuals) = is_function (routine_at p routine)
gives_one_cell p (ExpressionRow.ApplyFormal formal levels actuals) =
    has_result (signature_of p (heading_in (row_at p formal)))
gives_one_cell p e = true

abbrev pub is_scalar_row : ProgramRows → Row → Bool
is_scalar_row p (Row.Expression e) = gives_one_cell p e
is_scalar_row p r = is_access_to is_simple_type p r

-- an access that finds the bounds of the array of a conformant parameter
abbrev pub is_bounded_row : ProgramRows → Row → Bool
is_bounded_row p (Row.Access (AccessRow.Conformant place levels of')) = is_conformant p of'
is_bounded_row p (Row.Access (AccessRow.Component access index array of')) = is_conformant p of'
is_bounded_row p r = false

-- an expression whose value is the cells of an array, a record or a string
abbrev pub is_cells_row : ProgramRows → Row → Bool
is_cells_row p (Row.Expression (ExpressionRow.Text token)) = true
is_cells_row p r = is_access_to is_structured_type p r || is_bounded_row p r

abbrev pub is_statement : ProgramRows → ℕ → Bool
is_statement p n = is_statement_row (row_at p n)

abbrev pub is_access : ProgramRows → ℕ → Bool
is_access p n = is_access_to is_some p (row_at p n)

abbrev pub is_record_access : ProgramRows → ℕ → Bool
is_record_access p n = is_access_to is_record_type p (row_at p n)

-- an access of a variable that may be read
abbrev pub is_read_access : ProgramRows → ℕ → Bool
is_read_access p n = is_access_to is_ordinal_type p (row_at p n)

abbrev pub is_array_access : ProgramRows → ℕ → Bool
is_array_access p n = is_access_to is_array_type p (row_at p n)

abbrev pub is_bounded : ProgramRows → ℕ → Bool
is_bounded p n = is_bounded_row p (row_at p n)

abbrev pub is_scalar : ProgramRows → ℕ → Bool
is_scalar p n = is_scalar_row p (row_at p n)

abbrev pub is_cells : ProgramRows → ℕ → Bool
is_cells p n = is_cells_row p (row_at p n)

-- a value for a variable of a type: of one cell, or the cells of an array, a record or a string
abbrev pub is_value_for : ProgramRows → Option TypeRow → ℕ → Bool
is_value_for p t n =
    (is_simple_type t && is_scalar p n) || ((is_structured_type t || is_conformant_type t) && is_cells p n)

-- ---- lists

-- whether a list ends here
abbrev pub is_end : ℕ → Bool
is_end at = at == 0

-- the rest of a list from a number on: it ends there, or such an item stands there
abbrev pub is_list : (Row → Bool) → ProgramRows → ℕ → Bool
is_list is_item p at = is_end at || is_item (row_at p at)

-- an item of a list of statements, of records or of variables that are read
abbrev pub is_element_of : (ℕ → Bool) → Row → Bool
is_element_of fits (Row.Item (ItemRow.Element x next)) = fits x
is_element_of fits r = false

abbrev pub is_actual_item : Row → Bool
is_actual_item (Row.Item (ItemRow.Value v of' next)) = true
is_actual_item (Row.Item (ItemRow.Place a next)) = true
is_actual_item (Row.Item (ItemRow.ArrayPlace first access of' next)) = true
is_actual_item (Row.Item (ItemRow.ArrayValue first v of' next)) = true
is_actual_item (Row.Item (ItemRow.Routine routine levels next)) = true
is_actual_item (Row.Item (ItemRow.RoutineFormal formal levels next)) = true
is_actual_item r = false

abbrev pub is_written_item : Row → Bool
is_written_item (Row.Item (ItemRow.Written v of' next)) = true
is_written_item (Row.Item (ItemRow.WrittenWide v of' width next)) = true
is_written_item r = false

abbrev pub is_member_item : Row → Bool
is_member_item (Row.Item (ItemRow.Member v next)) = true
is_member_item (Row.Item (ItemRow.Members first last next)) = true
is_member_item r = false

-- a constant, by what it chooses: a statement in a case statement, a variant in a variant part
abbrev pub is_choice_of : (ℕ → Bool) → Row → Bool
is_choice_of fits (Row.Item (ItemRow.Choice value chosen next)) = fits chosen
is_choice_of fits r = false

abbrev pub is_section_item : Row → Bool
is_section_item (Row.Item (ItemRow.Section mode first count next)) = true
is_section_item (Row.Item (ItemRow.RoutineSection heading next)) = true
is_section_item r = false

-- ---- what each row may name

-- The types that a type names. The arrays inside of one of a conformant parameter stand after it.
abbrev pub TypeFits : ProgramRows → (at : ℕ) → TypeRow → Type 0
TypeFits p at (TypeRow.Ordinal least greatest) = Unit {0}
TypeFits p at (TypeRow.Subrange host least greatest) = Holds (is_host_type (type_at p host))
TypeFits p at (TypeRow.Set packed base) = Holds (is_ordinal p base)
TypeFits p at (TypeRow.Pointer domain) = Holds (is_type p domain)
TypeFits p at (TypeRow.Array packed index component cells) = Holds (is_ordinal p index) × Holds (is_type p component)
TypeFits p at (TypeRow.Conformant packed index component place) = Holds (is_ordinal p index)
    × Holds (is_type p component) × (Holds (is_conformant p component) → Holds (nat_lt at component))
TypeFits p at (TypeRow.Record packed region cells variants) =
    (v : ℕ) → variants ≡ Some v → Holds (is_variants_row (row_at p v))

abbrev pub NameFits : ProgramRows → NameRow → Type 0
NameFits p (NameRow.Constant of' value) = Holds (is_ordinal p of')
NameFits p (NameRow.Text token) = Holds (is_text p token)
NameFits p (NameRow.TypeName of') = Holds (is_type p of')
NameFits p (NameRow.Variable mode of' place level) = Holds (is_type p of')
NameFits p (NameRow.Bound of' place level) = Holds (is_ordinal p of')
NameFits p (NameRow.RoutineFormal place level heading) = Holds (is_some (signature_at p heading))
NameFits p (NameRow.Field of' offset holder) = Holds (is_type p of') × Holds (is_holder_row (row_at p holder))
NameFits p (NameRow.Tag of' offset holder variants) =
    Holds (is_ordinal p of') × Holds (is_holder_row (row_at p holder)) × Holds (is_variants_row (row_at p variants))
NameFits p (NameRow.Routine assigned number region) = Holds (is_routine p number)
NameFits p n = Unit {0}

-- The items of a list are of one kind, each after the one before it.
abbrev pub Goes : (Row → Bool) → ProgramRows → (at next : ℕ) → Type 0
Goes is_item p at next = Holds (is_list is_item p next) × Holds (is_end next || nat_lt at next)

-- What holds something stands before it, and a heading before its sections.
abbrev pub PartFits : ProgramRows → (at : ℕ) → PartRow → Type 0
PartFits p at (PartRow.Variants hidden offset cells values holder) =
    Holds (is_list (is_choice_of (is_variant p)) p values) × Holds (is_holder_row (row_at p holder))
    × Holds (nat_lt holder at)
PartFits p at (PartRow.Variant variants position) =
    Holds (is_variants_row (row_at p variants)) × Holds (nat_lt variants at)
PartFits p at (PartRow.Heading name sections result) =
    Goes is_section_item p at sections × ((t : ℕ) → result ≡ Some t → Holds (is_result_type (type_at p t)))
PartFits p at q = Unit {0}

-- The statement that a label marks stands after the label.
abbrev pub StatementFits : ProgramRows → (at : ℕ) → StatementRow → Type 0
StatementFits p at statement.Empty = Unit {0}
StatementFits p at (statement.Assign line target value of') =
    Holds (is_access p target) × Holds (is_value_for p (type_at p of') value)
StatementFits p at (statement.Call line routine levels actuals) =
    Holds (is_routine p routine) × Holds (is_list is_actual_item p actuals)
StatementFits p at (statement.CallFormal line formal levels actuals) =
    Holds (is_formal p formal) × Holds (is_list is_actual_item p actuals)
StatementFits p at (statement.Goto line label levels) = Unit {0}
StatementFits p at (statement.Labelled label s) = Holds (is_statement p s) × Holds (nat_lt at s)
StatementFits p at (statement.Compound statements) = Holds (is_list (is_element_of (is_statement p)) p statements)
StatementFits p at (statement.If line condition then') = Holds (is_scalar p condition) × Holds (is_statement p then')
StatementFits p at (statement.IfElse line condition then' otherwise) =
    Holds (is_scalar p condition) × Holds (is_statement p then') × Holds (is_statement p otherwise)
StatementFits p at (statement.Case line selector choices) =
    Holds (is_scalar p selector) × Holds (is_list (is_choice_of (is_statement p)) p choices)
StatementFits p at (statement.Repeat line statements condition) =
    Holds (is_list (is_element_of (is_statement p)) p statements) × Holds (is_scalar p condition)
StatementFits p at (statement.While line condition body) = Holds (is_scalar p condition) × Holds (is_statement p body)
StatementFits p at (statement.For line initial turns) = Holds (is_scalar p initial)
    × Holds (is_turns_row (row_at p turns))
StatementFits p at (statement.Turns direction last place of' body) =
    Holds (is_scalar p last) × Holds (is_ordinal p of') × Holds (is_statement p body)
StatementFits p at (statement.With line records body) =
    Holds (is_list (is_element_of (is_record_access p)) p records) × Holds (is_statement p body)
StatementFits p at (statement.Read ends_line line actuals) =
    Holds (is_list (is_element_of (is_read_access p)) p actuals)
StatementFits p at (statement.Write ends_line line actuals) = Holds (is_list is_written_item p actuals)
StatementFits p at (statement.Page line) = Unit {0}
StatementFits p at (statement.New line a of') = Holds (is_access p a) × Holds (is_type p of')
StatementFits p at (statement.Dispose line v of') = Holds (is_scalar p v) × Holds (is_type p of')
StatementFits p at (statement.Pack packing line unpacked index packed) =
    Holds (is_array_access p unpacked) × Holds (is_scalar p index) × Holds (is_array_access p packed)

abbrev pub ExpressionFits : ProgramRows → ExpressionRow → Type 0
ExpressionFits p (ExpressionRow.Text token) = Holds (is_text p token)
ExpressionFits p (ExpressionRow.Sign minus operand) = Holds (is_scalar p operand)
ExpressionFits p (ExpressionRow.Not operand) = Holds (is_scalar p operand)
ExpressionFits p (ExpressionRow.Arithmetic operator left right) = Holds (is_scalar p left) × Holds (is_scalar p right)
ExpressionFits p (ExpressionRow.Logic operator left right) = Holds (is_scalar p left) × Holds (is_scalar p right)
ExpressionFits p (ExpressionRow.Sets operator left right) = Holds (is_scalar p left) × Holds (is_scalar p right)
ExpressionFits p (ExpressionRow.Compare order left right) = Holds (is_scalar p left) × Holds (is_scalar p right)
ExpressionFits p (ExpressionRow.CompareTexts order left right) = Holds (is_cells p left) × Holds (is_cells p right)
ExpressionFits p (ExpressionRow.CompareSets order left right) = Holds (is_scalar p left) × Holds (is_scalar p right)
ExpressionFits p (ExpressionRow.ComparePointers equal left right) = Holds (is_scalar p left) × Holds (is_scalar p right)
ExpressionFits p (ExpressionRow.In left right) = Holds (is_scalar p left) × Holds (is_scalar p right)
ExpressionFits p (ExpressionRow.Set members) = Holds (is_list is_member_item p members)
ExpressionFits p (ExpressionRow.Apply routine levels actuals) =
    Holds (is_function (routine_at p routine)) × Holds (is_list is_actual_item p actuals)
ExpressionFits p (ExpressionRow.ApplyFormal formal levels actuals) =
    Holds (has_result (signature_of p (heading_in (row_at p formal)))) × Holds (is_list is_actual_item p actuals)
ExpressionFits p (ExpressionRow.Function function operand least greatest) = Holds (is_scalar p operand)
ExpressionFits p e = Unit {0}

-- The access to which a selector is applied stands before the selector.
abbrev pub AccessFits : ProgramRows → (at : ℕ) → AccessRow → Type 0
AccessFits p at (AccessRow.Variable place levels of') = Holds (is_type p of')
AccessFits p at (AccessRow.Reference place levels of') = Holds (is_type p of')
AccessFits p at (AccessRow.Conformant place levels of') = Holds (is_conformant p of')
AccessFits p at (AccessRow.Component inner index array of') = Holds (is_bounded p inner) × Holds (nat_lt inner at)
    × Holds (is_scalar p index) × Holds (is_conformant p array) × Holds (is_type p of')
AccessFits p at (AccessRow.Within record' field of') = Holds (is_field_row (row_at p field)) × Holds (is_type p of')
AccessFits p at (AccessRow.Index inner index array of') = Holds (is_access p inner) × Holds (nat_lt inner at)
    × Holds (is_scalar p index) × Holds (is_array_type (type_at p array)) × Holds (is_type p of')
AccessFits p at (AccessRow.Field inner field of') = Holds (is_access p inner) × Holds (nat_lt inner at)
    × Holds (is_field_row (row_at p field)) × Holds (is_type p of')
AccessFits p at (AccessRow.Dereference inner of') =
    Holds (is_access p inner) × Holds (nat_lt inner at) × Holds (is_type p of')

-- what is written: of one cell by its type, or the cells of a string
abbrev pub WrittenFits : ProgramRows → (value of' : ℕ) → Type 0
WrittenFits p value of' =
    Holds (is_scalar p value || is_cells p value) × (Holds (is_scalar p value) → Holds (is_ordinal p of'))

-- the actual of a conformant variable parameter: an access of an array, with its bounds if it has no fixed ones
abbrev pub is_array_actual : ProgramRows → ℕ → Bool
is_array_actual p n = is_array_access p n || is_bounded p n

abbrev pub is_text_row : Row → Bool
is_text_row (Row.Expression (ExpressionRow.Text token)) = true
is_text_row r = false

-- and of one by value: such an access or a string
abbrev pub is_whole_array : ProgramRows → ℕ → Bool
is_whole_array p n = is_text_row (row_at p n) || is_array_actual p n

abbrev pub ItemFits : ProgramRows → (at : ℕ) → ItemRow → Type 0
ItemFits p at (ItemRow.Element x next) = (Holds (is_statement p x) → Goes (is_element_of (is_statement p)) p at next)
    × (Holds (is_record_access p x) → Goes (is_element_of (is_record_access p)) p at next)
    × (Holds (is_read_access p x) → Goes (is_element_of (is_read_access p)) p at next)
ItemFits p at (ItemRow.Value v of' next) = Holds (is_value_for p (type_at p of') v) × Goes is_actual_item p at next
ItemFits p at (ItemRow.Place a next) = Holds (is_access p a) × Goes is_actual_item p at next
ItemFits p at (ItemRow.ArrayPlace first a of' next) =
    Holds (is_array_actual p a) × Holds (is_conformant p of') × Goes is_actual_item p at next
ItemFits p at (ItemRow.ArrayValue first v of' next) =
    Holds (is_whole_array p v) × Holds (is_conformant p of') × Goes is_actual_item p at next
ItemFits p at (ItemRow.Routine routine levels next) = Holds (is_routine p routine) × Goes is_actual_item p at next
ItemFits p at (ItemRow.RoutineFormal formal levels next) = Holds (is_formal p formal) × Goes is_actual_item p at next
ItemFits p at (ItemRow.Written v of' next) = WrittenFits p v of' × Goes is_written_item p at next
ItemFits p at (ItemRow.WrittenWide v of' width next) =
    WrittenFits p v of' × Holds (is_scalar p width) × Goes is_written_item p at next
ItemFits p at (ItemRow.Member v next) = Holds (is_scalar p v) × Goes is_member_item p at next
ItemFits p at (ItemRow.Members first last next) =
    Holds (is_scalar p first) × Holds (is_scalar p last) × Goes is_member_item p at next
ItemFits p at (ItemRow.Choice value chosen next) =
    (Holds (is_statement p chosen) → Goes (is_choice_of (is_statement p)) p at next)
    × (Holds (is_variant p chosen) → Goes (is_choice_of (is_variant p)) p at next)
ItemFits p at (ItemRow.Section mode first count next) =
    Holds (is_variable_row (row_at p first)) × Goes is_section_item p at next
ItemFits p at (ItemRow.RoutineSection heading next) =
    Holds (is_some (signature_at p heading)) × Holds (nat_lt at heading) × Goes is_section_item p at next

abbrev pub RowFits : ProgramRows → (at : ℕ) → Row → Type 0
RowFits p at Row.Nothing = Unit {0}
RowFits p at (Row.Type t) = TypeFits p at t
RowFits p at (Row.Name n) = NameFits p n
RowFits p at (Row.Part q) = PartFits p at q
RowFits p at (Row.Statement s) = StatementFits p at s
RowFits p at (Row.Expression e) = ExpressionFits p e
RowFits p at (Row.Access a) = AccessFits p at a
RowFits p at (Row.Item i) = ItemFits p at i

-- A routine has its statements, and a function a place for its result as its heading says. The program block has no
-- heading.
pub record RoutineFits (p : ProgramRows) (r : Routine) : Type 0 where
  pub statements : is_list (is_element_of (is_statement p)) p r.statements ≡ true
  pub result : is_some r.result ≡ has_result (signature_at p r.heading)

-- ---- constructs, by the rows that name them

-- the constructs of which a construct is made, by their numbers
abbrev pub parts_of : Row → List ℕ
parts_of (Row.Statement (statement.Assign line target value of')) = target ∷ value ∷ []
parts_of (Row.Statement (statement.Call line routine levels actuals)) = actuals ∷ []
parts_of (Row.Statement (statement.CallFormal line formal levels actuals)) = actuals ∷ []
parts_of (Row.Statement (statement.Labelled label s)) = s ∷ []
parts_of (Row.Statement (statement.Compound statements)) = statements ∷ []
parts_of (Row.Statement (statement.If line condition then')) = condition ∷ then' ∷ []
parts_of (Row.Statement (statement.IfElse line condition then' otherwise)) = condition ∷ then' ∷ otherwise ∷ []
parts_of (Row.Statement (statement.Case line selector choices)) = selector ∷ choices ∷ []
parts_of (Row.Statement (statement.Repeat line statements condition)) = statements ∷ condition ∷ []
parts_of (Row.Statement (statement.While line condition body)) = condition ∷ body ∷ []
parts_of (Row.Statement (statement.For line initial turns)) = initial ∷ turns ∷ []
parts_of (Row.Statement (statement.Turns direction last place of' body)) = last ∷ body ∷ []
parts_of (Row.Statement (statement.With line records body)) = records ∷ body ∷ []
parts_of (Row.Statement (statement.Read ends_line line actuals)) = actuals ∷ []
parts_of (Row.Statement (statement.Write ends_line line actuals)) = actuals ∷ []
parts_of (Row.Statement (statement.New line a of')) = a ∷ []
parts_of (Row.Statement (statement.Dispose line v of')) = v ∷ []
parts_of (Row.Statement (statement.Pack packing line unpacked index packed)) = unpacked ∷ index ∷ packed ∷ []
parts_of (Row.Expression (ExpressionRow.Sign minus operand)) = operand ∷ []
parts_of (Row.Expression (ExpressionRow.Not operand)) = operand ∷ []
parts_of (Row.Expression (ExpressionRow.Arithmetic operator left right)) = left ∷ right ∷ []
parts_of (Row.Expression (ExpressionRow.Logic operator left right)) = left ∷ right ∷ []
parts_of (Row.Expression (ExpressionRow.Sets operator left right)) = left ∷ right ∷ []
parts_of (Row.Expression (ExpressionRow.Compare order left right)) = left ∷ right ∷ []
parts_of (Row.Expression (ExpressionRow.CompareTexts order left right)) = left ∷ right ∷ []
parts_of (Row.Expression (ExpressionRow.CompareSets order left right)) = left ∷ right ∷ []
parts_of (Row.Expression (ExpressionRow.ComparePointers equal left right)) = left ∷ right ∷ []
parts_of (Row.Expression (ExpressionRow.In left right)) = left ∷ right ∷ []
parts_of (Row.Expression (ExpressionRow.Set members)) = members ∷ []
parts_of (Row.Expression (ExpressionRow.Apply routine levels actuals)) = actuals ∷ []
parts_of (Row.Expression (ExpressionRow.ApplyFormal formal levels actuals)) = actuals ∷ []
parts_of (Row.Expression (ExpressionRow.Function function operand least greatest)) = operand ∷ []
parts_of (Row.Access (AccessRow.Index inner index array of')) = inner ∷ index ∷ []
parts_of (Row.Access (AccessRow.Component inner index array of')) = inner ∷ index ∷ []
parts_of (Row.Access (AccessRow.Field inner field of')) = inner ∷ []
parts_of (Row.Access (AccessRow.Dereference inner of')) = inner ∷ []
parts_of (Row.Item (ItemRow.Element x next)) = x ∷ next ∷ []
parts_of (Row.Item (ItemRow.Value v of' next)) = v ∷ next ∷ []
parts_of (Row.Item (ItemRow.Place a next)) = a ∷ next ∷ []
parts_of (Row.Item (ItemRow.ArrayPlace first a of' next)) = a ∷ next ∷ []
parts_of (Row.Item (ItemRow.ArrayValue first v of' next)) = v ∷ next ∷ []
parts_of (Row.Item (ItemRow.Routine routine levels next)) = next ∷ []
parts_of (Row.Item (ItemRow.RoutineFormal formal levels next)) = next ∷ []
parts_of (Row.Item (ItemRow.Written v of' next)) = v ∷ next ∷ []
parts_of (Row.Item (ItemRow.WrittenWide v of' width next)) = v ∷ width ∷ next ∷ []
parts_of (Row.Item (ItemRow.Member v next)) = v ∷ next ∷ []
parts_of (Row.Item (ItemRow.Members first last next)) = first ∷ last ∷ next ∷ []
parts_of (Row.Item (ItemRow.Choice value chosen next)) = chosen ∷ next ∷ []
parts_of r = []

-- the part at a position of a construct
abbrev pub part_at : ProgramRows → (construct position : ℕ) → Option ℕ
part_at p n i = slice_get (parts_of (row_at p n)) i

-- What many may name: the end of lists, and the one row of all empty statements.
abbrev pub is_common_row : Row → Bool
is_common_row (Row.Type t) = true
is_common_row (Row.Statement statement.Empty) = true
is_common_row r = false

abbrev pub is_choice_row : Row → Bool
is_choice_row (Row.Item (ItemRow.Choice value chosen next)) = true
is_choice_row r = false

-- several constants may choose one thing
abbrev pub may_share : ProgramRows → (a b part : ℕ) → Bool
may_share p a b n = is_common_row (row_at p n) || (is_choice_row (row_at p a) && is_choice_row (row_at p b))

-- ---- the records of with statements

abbrev pub Each : (ℕ → Type 0) → List ℕ → Type 0
Each P [] = Unit {0}
Each P (n ∷ ns) = P n × Each P ns

-- Each record of a with statement is inside of those before it, and the body inside of all: none needs more records
-- around it than are there. `n` is how many are looked at, with the end of the list.
abbrev pub ScopedItem : (around : ℕ → ℕ) → (More : (records at : ℕ) → Type 0) → (records body : ℕ) → Row → Type 0
ScopedItem around More w body (Row.Item (ItemRow.Element a next)) = (around a ≤ w) × More (w + 1) next
ScopedItem around More w body r = around body ≤ w

abbrev pub ScopedRecords : ProgramRows → (around : ℕ → ℕ) → (n records at body : ℕ) → Type 0
ScopedRecords p around zero w at body = ⊥
ScopedRecords p around (suc n) w at body =
    ScopedItem around (λ v next. ScopedRecords p around n v next body) w body (row_at p at)

-- A name alone of a field needs the with statements' records around it up to the one that it belongs to, and another
-- construct those that its parts need.
abbrev pub ScopedRow : ProgramRows → (around : ℕ → ℕ) → (at : ℕ) → Row → Type 0
ScopedRow p around at (Row.Access (AccessRow.Within record' field of')) = record' < around at
ScopedRow p around at (Row.Statement (statement.With line records body)) =
    ScopedRecords p around (length p.rows) (around at) records body
ScopedRow p around at r = Each (λ n. around n ≤ around at) (parts_of r)

-- ---- whole tables

pub record WholeTables (p : ProgramRows) : Type 0 where
  -- lists end at the number of the type integer
  pub integer : type_at p 0 ≡ Some (TypeRow.Ordinal (negsuc 2147483646) (pos 2147483647))
  -- each number that a row names is that of a row of the kind that its place takes
  pub rows : (at : ℕ) → RowFits p at (row_at p at)
  pub routines : (number : ℕ) (r : Routine) → routine_at p number ≡ Some r → RoutineFits p r
  -- each routine but the program block has a heading
  pub headings : (number : ℕ) (r : Routine) → routine_at p (suc number) ≡ Some r
      → is_some (signature_at p r.heading) ≡ true
  -- the program block is there
  pub main : IsSome (routine_at p 0)
  -- no two constructs have a part in common, and none has one twice
  pub once : (a i b j n : ℕ) → part_at p a i ≡ Some n → part_at p b j ≡ Some n → may_share p a b n ≡ false
      → (a ≡ b) × (i ≡ j)
  -- how many records of with statements each construct needs around it; the statements of a routine need none
  pub around : ℕ → ℕ
  pub scoped : (at : ℕ) → ScopedRow p around at (row_at p at)
  pub outermost : (number : ℕ) (r : Routine) → routine_at p number ≡ Some r → around r.statements ≡ 0
