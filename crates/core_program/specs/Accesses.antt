-- What each access does (6.5), and the parts of constructs that evaluate and locate.
use Rattle.std.specs.Prelude.{if◌then◌else◌, [], ℕ, ℤ, Bool, List, None, Option, Some, false, nat_lt, slice_get, true}
use Rattle.cell_value.specs.declared.values.Value.{Value}
use Rattle.core_program.specs.ProgramRows.{ProgramRows, cells_in, row_at, type_at}
use Rattle.core_program.specs.declared.rows.{AccessRow.AccessRow, Row.Row}
use Rattle.core_program.specs.declared.rows.AccessRow.TheVariants.{Component, Conformant, Dereference, Field, Index}
use Rattle.core_program.specs.declared.rows.AccessRow.TheVariants.{Reference, Variable, Within}
use Rattle.core_program.specs.declared.rows.NameRow.TheVariants as named
use Rattle.core_program.specs.declared.rows.Row.TheVariants as rows
use Rattle.core_program.specs.declared.rows.TypeRow.{TypeRow, TheVariants.Record, TheVariants.Set, TheVariants.Subrange}
use Rattle.core_program.specs.declared.rows.TypeRow.TheVariants.{Array, Conformant as ConformantType, Ordinal, Pointer}
pub use Rattle.core_program.specs.WholeTables.{is_conformant, is_end, type_accessed}
use Rattle.core_program.specs.{Actions.◌>>=◌, Actions.Give, Acts.Spend, Cells.set_at, Heap.pointed_at, Heap.pointer_at}
use Rattle.core_program.specs.{State.moved, Variants.field_at, declared.components.Components.Components}
use Rattle.core_program.specs.Cells.{cell_out, component, frame_out, ordinal_at, read_values, reference_out, referred}
use Rattle.core_program.specs.Conformant.{Dimensions, conformant_component_at, dimensions_of}
use Rattle.core_program.specs.Tree.{ActTree, Address, Bounded, Cells, Do, Eval, Here, Jump, Locate, Meaningless, Out}
use Rattle.core_program.specs.Tree.{Ret, Scalar, Sub, doing}

-- the tables name a row that they do not have, or that is of another kind than its place takes
abbrev pub no_row : ActTree
no_row = Meaningless

-- goes on with an item of a list, if the list does not end
abbrev pub until_end : (at : ℕ) → (ended goes : ActTree) → ActTree
until_end at ended goes = if is_end at then ended else goes

-- a step is taken first
abbrev pub spend : Here → ActTree → ActTree
spend here next = Do here.line (Spend 1) (λ _. next)

-- Goes on with a value, the cells of one, or an address; a jump goes on outward.
abbrev pub on_scalar : (Value → ActTree) → Out → ActTree
on_scalar go (Scalar v) = go v
on_scalar go (Jump label base) = Ret (Jump label base)
on_scalar go out = no_row

abbrev pub on_cells : (List Value → ActTree) → Out → ActTree
on_cells go (Cells vs) = go vs
on_cells go (Jump label base) = Ret (Jump label base)
on_cells go out = no_row

abbrev pub on_address : (ℕ → ActTree) → Out → ActTree
on_address go (Address addr) = go addr
on_address go (Bounded addr frame) = go addr
on_address go (Jump label base) = Ret (Jump label base)
on_address go out = no_row

-- goes on with a conformant array, and with the frame that has its bounds
abbrev pub on_bounded : (ℕ → ℕ → ActTree) → Out → ActTree
on_bounded go (Bounded addr frame) = go addr frame
on_bounded go (Jump label base) = Ret (Jump label base)
on_bounded go out = no_row

abbrev pub eval : (row : ℕ) → Here → (Value → ActTree) → ActTree
eval row here go = Sub (Eval row here) (on_scalar go)

abbrev pub eval_cells : (row : ℕ) → Here → (List Value → ActTree) → ActTree
eval_cells row here go = Sub (Eval row here) (on_cells go)

abbrev pub locate : (row : ℕ) → Here → (ℕ → ActTree) → ActTree
locate row here go = Sub (Locate row false here) (on_address go)

-- the same of a target access, which is one left of `:=`, or an argument of read, readln or new
abbrev pub locate_target : (row : ℕ) → Here → (ℕ → ActTree) → ActTree
locate_target row here go = Sub (Locate row true here) (on_address go)

abbrev pub scalar : Value → ActTree
scalar v = Ret (Scalar v)

abbrev pub address : ℕ → ActTree
address addr = Ret (Address addr)

-- The access to which a selector is applied stands before the selector, and is a target as the whole is.
abbrev pub locate_before : (row access : ℕ) → (target : Bool) → Here → (ℕ → ActTree) → ActTree
locate_before row access target here go =
    if nat_lt access row then Sub (Locate access target here) (on_address go) else no_row

-- the same of a component of a conformant array
abbrev pub bounded_before : (row access : ℕ) → (target : Bool) → Here → (ℕ → ℕ → ActTree) → ActTree
bounded_before row access target here go =
    if nat_lt access row then Sub (Locate access target here) (on_bounded go) else no_row

-- goes on with the dimensions of a conformant array
abbrev pub with_dimensions : Option Dimensions → (Dimensions → ActTree) → ActTree
with_dimensions None go = no_row
with_dimensions (Some d) go = go d

-- a component of a conformant array, which may be one too
abbrev pub component_found : (conformant : Bool) → (frame addr : ℕ) → ActTree
component_found true frame addr = Ret (Bounded addr frame)
component_found false frame addr = address addr

-- goes on with the bounds of an ordinal type
abbrev pub with_bounds : Option TypeRow → (ℤ → ℤ → ActTree) → ActTree
with_bounds (Some (Ordinal least greatest)) go = go least greatest
with_bounds (Some (Subrange host least greatest)) go = go least greatest
with_bounds t go = no_row

-- goes on with the cells of a variable of a type
abbrev pub with_size : Option TypeRow → (ℕ → ActTree) → ActTree
with_size None go = no_row
with_size (Some t) go = go (cells_in (Some t))

-- goes on with what an array type says of its components
abbrev pub with_components : ProgramRows → Option TypeRow → (Components → ActTree) → ActTree
with_components p (Some (Array packed index component cells)) go = with_bounds (type_at p index) (λ least greatest.
    with_size (type_at p component) (λ size. go (record { least = least; greatest = greatest; size = size })))
with_components p t go = no_row

-- a field of the record variable at an address (6.5.3.3)
abbrev pub locate_field : ProgramRows → (target : Bool) → (line addr field : ℕ) → ActTree
locate_field p target line addr field = doing line (field_at p target addr (row_at p field)) address

-- goes on with a record that a with statement around has established
abbrev pub with_record : Option ℕ → (ℕ → ActTree) → ActTree
with_record None go = no_row
with_record (Some addr) go = go addr

-- An access, in order of its text: its name and each index, field and `^` take a step. An index is evaluated after the
-- variable before it is located, and is no target; there a pointer is read. A field in a with statement is a name alone
-- (6.8.3.10).
abbrev pub of_access : ProgramRows → (row : ℕ) → (target : Bool) → Here → AccessRow → ActTree
of_access p row target here (Variable place levels of') =
    spend here (doing here.line (cell_out levels here.base place) address)
of_access p row target here (Reference place levels of') =
    spend here (doing here.line (reference_out levels here.base place) address)
of_access p row target here (Conformant place levels of') = spend here (doing here.line
    (frame_out levels here.base >>= λ frame. referred (moved frame place) >>= λ addr. Give (addr, frame))
    (λ (addr, frame). Ret (Bounded addr frame)))
of_access p row target here (Component access index array of') = bounded_before row access target here (λ addr frame.
    spend here (eval index here (λ v. with_dimensions (dimensions_of p array) (λ d.
    doing here.line (conformant_component_at d addr frame v) (component_found (is_conformant p of') frame)))))
of_access p row target here (Index access index array of') = locate_before row access target here (λ addr. spend here
    (eval index here (λ v. with_components p (type_at p array) (λ a. doing here.line (component a addr v) address))))
of_access p row target here (Field access field of') = locate_before row access target here (λ addr. spend here
    (locate_field p target here.line addr field))
of_access p row target here (Within record' field of') = spend here (with_record (slice_get here.records record')
    (λ addr. locate_field p target here.line addr field))
of_access p row target here (Dereference access of') = locate_before row access target here (λ addr. spend here
    (doing here.line (pointed_at addr) address))

abbrev pub access_in : ProgramRows → (row : ℕ) → (target : Bool) → Here → Row → ActTree
access_in p row target here (rows.Access a) = of_access p row target here a
access_in p row target here r = no_row

-- the values of this many cells from an address on, each read in order, also those that are undefined
abbrev pub cells_at : (line addr cells : ℕ) → ActTree
cells_at line addr cells = doing line (read_values [] addr cells) (λ vs. Ret (Cells vs))

-- the value of an ordinal variable, a set or a pointer (6.5.1), or the values of the cells of an array or a record
abbrev pub value_at : ProgramRows → (line addr : ℕ) → Option TypeRow → ActTree
value_at p line addr (Some (Ordinal least greatest)) = doing line (ordinal_at least greatest addr) scalar
value_at p line addr (Some (Subrange host least greatest)) = doing line (ordinal_at least greatest addr) scalar
value_at p line addr (Some (Set packed base)) =
    with_bounds (type_at p base) (λ least greatest. doing line (set_at least greatest addr) scalar)
value_at p line addr (Some (Pointer domain)) = doing line (pointer_at addr) scalar
value_at p line addr (Some (Array packed index component cells)) = cells_at line addr cells
value_at p line addr (Some (Record packed region cells variants)) = cells_at line addr cells
value_at p line addr (Some (ConformantType packed index component place)) = no_row
value_at p line addr None = no_row

-- goes on with the place of a routine parameter, by the row of its name, and with its heading
abbrev pub with_formal : Row → (ℕ → ℕ → ActTree) → ActTree
with_formal (rows.Name (named.RoutineFormal place level heading)) go = go place heading
with_formal r go = no_row
