-- What each part of a program does is careful: it stops where a cell is not there, and drops a block only where its
-- first cell was found.
use Rattle.std.proofs.Common.{if◌then◌else◌, ◌&&◌, ◌++◌, ◌==◌, ◌∷◌, ◌≡◌, [], ℕ, ℤ, Bool, List, None, Option, Result, Some, false, nat_lt, slice_get, true}
use Rattle.std.specs.Ordering.{int_eq}
use Rattle.cell_value.specs.{Arithmetic.arith_of, declared.faults.OpFault.OpFault, declared.values.Value.Value, declared.ways_out.Kind.Kind}
use Rattle.core_program.proofs.OutcomesCompose.{none_some}
use Rattle.core_program.specs.{Choices.Sought, Conformant.inner_extents, Conformant.whole_at, Expressions.whole_array, Expressions.whole_in}
use Rattle.core_program.specs.{Expressions.with_frame_size, Layer.layer, Layer.of_body, Passed.Passed, Passed.and_cells, Passed.and_copy}
use Rattle.core_program.specs.{ProgramRows.ProgramRows, ProgramRows.routine_at, ProgramRows.row_at, ProgramRows.type_at, State.moved, Statements.statement_in}
use Rattle.core_program.specs.{Statements.turn_after, Statements.undefine, Variants.assign_to, Variants.field_at, Variants.tag_accessed}
use Rattle.core_program.specs.Accesses.{access_in, address, bounded_before, component_found, eval, eval_cells, is_conformant, is_end, locate, locate_before}
use Rattle.core_program.specs.Accesses.{locate_field, locate_target, of_access, on_address, on_bounded, on_cells, on_scalar, scalar, type_accessed, until_end}
use Rattle.core_program.specs.Accesses.{value_at, with_bounds, with_components, with_dimensions, with_formal, with_record, with_size}
use Rattle.core_program.specs.Actions.{Action, Fail, Give, NoMeaning, Perform}
use Rattle.core_program.specs.Acts.{Act, Answer, DropBlock, Fault, GiveByte, HasCell, MakeBlock, ReadCell, Spend, TakeIf, WriteCell}
use Rattle.core_program.specs.Cells.{cell_out, component, frame_out, ordinal_at, read_values, reference_out, routine_out, set_at, write, writes}
use Rattle.core_program.specs.Conformant.{Dimensions, WholeArray, bound_values, conformant_component_at, dimensions_of, extents_at, fixed_extents}
use Rattle.core_program.specs.Expressions.{access_value, array_copied, array_placed, call, call_formal, enter, expression_in, gather, of_actual, of_expression}
use Rattle.core_program.specs.Expressions.{of_members, on_actual, on_actuals, operation_result, pass_routine, placed_in, section_bounds, string_in, text_whole}
use Rattle.core_program.specs.Heap.{dispose, made_variable, pointed_at, pointer_at, pointer_result_at, pointers_compared}
use Rattle.core_program.specs.Input.{at_end, at_line_end, next_char, past_item, scan_on}
use Rattle.core_program.specs.Output.{Text, char_type, end_line, end_page, scalar_text, written}
use Rattle.core_program.specs.Packing.{copies, first_moved, moves, pack, with_array}
use Rattle.core_program.specs.Run.{result_of_type, result_read, return_of, type_in_heading, whole}
use Rattle.core_program.specs.Statements.{begins, bounds, bounds_tested, choose, chosen_by, finally, first_turn, has_turn, jumped, line_of, nothing, of_count}
use Rattle.core_program.specs.Statements.{of_records, of_sequence, of_statement, of_turn, on_labelled, on_normal, on_statement, on_value, point, statement}
use Rattle.core_program.specs.Transfers.{into, of_printed, of_received, on_scanned, on_text, print, received, with_host}
use Rattle.core_program.specs.Tree.{ActTree, Actuals, Address, Body, Bounded, Cells, Count, Do, Enter, Establish, Eval, Exec, Gather, Halt, Here, Jump, Line}
use Rattle.core_program.specs.Tree.{Locate, Meaningless, Out, Part, Pass, Print, Receive, RestOfLine, Ret, Scalar, Scanning, Sequence, Sub, Turn, doing}
use Rattle.core_program.specs.Values.{comparison, function_of, in_set, is_true, or_fault, sets_compared, sets_of, tested, texts_compared, with_sign_of}
use Rattle.core_program.specs.declared.{program.Routine.Routine, scan.Scanned.Scanned, scan.Scanned.TheVariants.Further, scan.Scanned.TheVariants.Whole}
use Rattle.core_program.specs.declared.components.{Components.Components, Extent.Extent, HeldSpec.HeldSpec}
use Rattle.core_program.specs.declared.rows.{AccessRow.AccessRow, Direction.Direction, ExpressionRow.ExpressionRow, ItemRow.ItemRow, NameRow.NameRow, Row.Row}
use Rattle.core_program.specs.declared.rows.{StatementRow.StatementRow, TypeRow.TypeRow}
use Rattle.run_laws.proofs.ActionsMiss.{Careful, Heeds, IsCareful, Quits, assign_careful, bounded_careful, cell_careful, component_careful, copies_careful}
use Rattle.run_laws.proofs.ActionsMiss.{dispose_careful, end_careful, end_line_careful, end_page_careful, extents_careful, fault_careful, field_careful}
use Rattle.run_laws.proofs.ActionsMiss.{found_by, frame_careful, line_end_careful, located_careful, made_careful, moved_careful, next, next_char_careful}
use Rattle.run_laws.proofs.ActionsMiss.{ordinal_careful, past_careful, pointed_careful, pointer_careful, pointer_result_careful, reads_careful}
use Rattle.run_laws.proofs.ActionsMiss.{reference_careful, result_careful, routine_careful, scan_careful, section_careful, set_careful, tested_careful}
use Rattle.run_laws.proofs.ActionsMiss.{whole_at_careful, write_careful, writes_careful, written_careful}

-- the run stops, since a variable was disposed of
abbrev pub IsStop : ActTree → Type 0
IsStop (Halt line (Fault Kind.Disposed)) = Unit {0}
IsStop t = ⊥

-- what a tree does after an act, which came after one that found a cell
abbrev pub TreeHeeds : (found : Option ℕ) → (act : Act) → (Answer act → ActTree) → Type 0
TreeHeeds found (ReadCell addr) next = IsStop (next None)
TreeHeeds found (HasCell addr) next = IsStop (next false)
TreeHeeds found (WriteCell addr v) next = IsStop (next false)
TreeHeeds found (DropBlock addr cells) next = found ≡ Some addr
TreeHeeds found act next = Unit {0}

-- the same of each act of a tree
abbrev pub CarefulTree : (found : Option ℕ) → ActTree → Type 0
CarefulTree found (Ret out) = Unit {0}
CarefulTree found (Halt line why) = Unit {0}
CarefulTree found Meaningless = Unit {0}
CarefulTree found (Do line act next) = TreeHeeds found act next × ((x : Answer act) → CarefulTree (found_by act x) (next x))
CarefulTree found (Sub part next) = (out : Out) → CarefulTree None (next out)
CarefulTree found (Enter e next) = (out : Out) → CarefulTree None (next out)
CarefulTree found (Line line next) = CarefulTree None next

abbrev pub IsCarefulTree : ActTree → Type 0
IsCarefulTree t = CarefulTree None t

tree_heeds_still : (found : Option ℕ) (act : Act) (next : Answer act → ActTree) → TreeHeeds None act next → TreeHeeds found act next
tree_heeds_still found (Spend n) next h = tt
tree_heeds_still found (ReadCell addr) next h = h
tree_heeds_still found (HasCell addr) next h = h
tree_heeds_still found (WriteCell addr v) next h = h
tree_heeds_still found (TakeIf wanted) next h = tt
tree_heeds_still found (GiveByte byte) next h = tt
tree_heeds_still found (MakeBlock cells of') next h = tt
tree_heeds_still found (DropBlock addr cells) next h = absurd (none_some h)

tree_still : (found : Option ℕ) (t : ActTree) → IsCarefulTree t → CarefulTree found t
tree_still found (Ret out) h = tt
tree_still found (Halt line why) h = tt
tree_still found Meaningless h = tt
tree_still found (Do line act next) h = (tree_heeds_still found act next h.0, h.1)
tree_still found (Sub part next) h = h
tree_still found (Enter e next) h = h
tree_still found (Line line next) h = h

quits_doing : {A : Type 0} (line : ℕ) (a : Action A) (go : A → ActTree) → Quits a → IsStop (doing line a go)
quits_doing line (Fail (Fault Kind.Disposed)) go h = tt
quits_doing line a go h = absurd h

heeds_doing : {A : Type 0} (found : Option ℕ) (line : ℕ) (act : Act) (next : Answer act → Action A) (go : A → ActTree) → Heeds found act next
    → TreeHeeds found act (λ x. doing line (next x) go)
heeds_doing found line (Spend n) next go h = tt
heeds_doing found line (ReadCell addr) next go h = quits_doing line (next None) go h
heeds_doing found line (HasCell addr) next go h = quits_doing line (next false) go h
heeds_doing found line (WriteCell addr v) next go h = quits_doing line (next false) go h
heeds_doing found line (TakeIf wanted) next go h = tt
heeds_doing found line (GiveByte byte) next go h = tt
heeds_doing found line (MakeBlock cells of') next go h = tt
heeds_doing found line (DropBlock addr cells) next go h = h

doing_careful : {A : Type 0} (found : Option ℕ) (line : ℕ) (a : Action A) (go : A → ActTree) → Careful found a → ((x : A) → IsCarefulTree (go x))
    → CarefulTree found (doing line a go)
doing_careful found line (Give x) go h k = tree_still found (go x) (k x)
doing_careful found line (Fail why) go h k = tt
doing_careful found line NoMeaning go h k = tt
doing_careful found line (Perform act next) go h k =
    (heeds_doing found line act next go h.0, λ x. doing_careful (found_by act x) line (next x) go (h.1 x) k)

pub after : {A : Type 0} (line : ℕ) (a : Action A) (go : A → ActTree) → IsCareful a → ((x : A) → IsCarefulTree (go x)) → IsCarefulTree (doing line a go)
after line a go h k = doing_careful None line a go h k

pub if_tree : (b : Bool) (t u : ActTree) → IsCarefulTree t → IsCarefulTree u → IsCarefulTree (if b then t else u)
if_tree true t u h k = h
if_tree false t u h k = k

-- ---- how parts go on

on_one : (go : Value → ActTree) → ((v : Value) → IsCarefulTree (go v)) → (out : Out) → IsCarefulTree (on_scalar go out)
on_one go k (Scalar v) = k v
on_one go k (Jump label base) = tt
on_one go k out = tt

on_many : (go : List Value → ActTree) → ((vs : List Value) → IsCarefulTree (go vs)) → (out : Out) → IsCarefulTree (on_cells go out)
on_many go k (Cells vs) = k vs
on_many go k (Jump label base) = tt
on_many go k out = tt

on_variable : (go : ℕ → ActTree) → ((addr : ℕ) → IsCarefulTree (go addr)) → (out : Out) → IsCarefulTree (on_address go out)
on_variable go k (Address addr) = k addr
on_variable go k (Bounded addr frame) = k addr
on_variable go k (Jump label base) = tt
on_variable go k out = tt

on_array : (go : ℕ → ℕ → ActTree) → ((addr frame : ℕ) → IsCarefulTree (go addr frame)) → (out : Out) → IsCarefulTree (on_bounded go out)
on_array go k (Bounded addr frame) = k addr frame
on_array go k (Jump label base) = tt
on_array go k out = tt

on_passed : (go : Passed → ActTree) → ((passed : Passed) → IsCarefulTree (go passed)) → (out : Out) → IsCarefulTree (on_actuals go out)
on_passed go k (Actuals passed) = k passed
on_passed go k (Jump label base) = tt
on_passed go k out = tt

normally : (t : ActTree) → IsCarefulTree t → (out : Out) → IsCarefulTree (on_normal t out)
normally t h (Jump label base) = tt
normally t h out = h

eval_careful : (n : ℕ) (here : Here) (go : Value → ActTree) → ((v : Value) → IsCarefulTree (go v)) → IsCarefulTree (eval n here go)
eval_careful n here go k = λ out. on_one go k out

many_careful : (n : ℕ) (here : Here) (go : List Value → ActTree) → ((vs : List Value) → IsCarefulTree (go vs)) → IsCarefulTree (eval_cells n here go)
many_careful n here go k = λ out. on_many go k out

locate_careful : (n : ℕ) (here : Here) (go : ℕ → ActTree) → ((addr : ℕ) → IsCarefulTree (go addr)) → IsCarefulTree (locate n here go)
locate_careful n here go k = λ out. on_variable go k out

target_careful : (n : ℕ) (here : Here) (go : ℕ → ActTree) → ((addr : ℕ) → IsCarefulTree (go addr)) → IsCarefulTree (locate_target n here go)
target_careful n here go k = λ out. on_variable go k out

bounds_careful : (t : Option TypeRow) (go : ℤ → ℤ → ActTree) → ((least greatest : ℤ) → IsCarefulTree (go least greatest)) → IsCarefulTree (with_bounds t go)
bounds_careful (Some (TypeRow.Ordinal least greatest)) go k = k least greatest
bounds_careful (Some (TypeRow.Subrange host least greatest)) go k = k least greatest
bounds_careful t go k = tt

size_careful : (t : Option TypeRow) (go : ℕ → ActTree) → ((n : ℕ) → IsCarefulTree (go n)) → IsCarefulTree (with_size t go)
size_careful None go k = tt
size_careful (Some t) go k = k _

dimensions_careful : (o : Option Dimensions) (go : Dimensions → ActTree) → ((d : Dimensions) → IsCarefulTree (go d)) → IsCarefulTree (with_dimensions o go)
dimensions_careful None go k = tt
dimensions_careful (Some d) go k = k d

record_careful : (o : Option ℕ) (go : ℕ → ActTree) → ((addr : ℕ) → IsCarefulTree (go addr)) → IsCarefulTree (with_record o go)
record_careful None go k = tt
record_careful (Some addr) go k = k addr

formal_careful : (r : Row) (go : ℕ → ℕ → ActTree) → ((place heading : ℕ) → IsCarefulTree (go place heading)) → IsCarefulTree (with_formal r go)
formal_careful (Row.Name (NameRow.RoutineFormal place level heading)) go k = k place heading
formal_careful r go k = tt

host_careful : (of' : ℕ) (t : Option TypeRow) (go : ℕ → ActTree) → ((host : ℕ) → IsCarefulTree (go host)) → IsCarefulTree (with_host of' t go)
host_careful of' (Some (TypeRow.Ordinal least greatest)) go k = k of'
host_careful of' (Some (TypeRow.Subrange host least greatest)) go k = k host
host_careful of' t go k = tt

frame_size_careful : (o : Option Routine) (go : ℕ → ActTree) → ((cells : ℕ) → IsCarefulTree (go cells)) → IsCarefulTree (with_frame_size o go)
frame_size_careful None go k = tt
frame_size_careful (Some r) go k = k r.cells

ended : (here : Here) (a : Action (Unit {0})) → IsCareful a → IsCarefulTree (finally here a)
ended here a h = after here.line a _ h (λ _. tt)

operated : (here : Here) (r : Result Value OpFault) → IsCarefulTree (operation_result here r)
operated here r = after here.line (or_fault r) scalar (fault_careful r) (λ _. tt)

module _ (p : ProgramRows) where
  components_careful : (t : Option TypeRow) (go : Components → ActTree) → ((a : Components) → IsCarefulTree (go a)) → IsCarefulTree (with_components p t go)
  components_careful (Some (TypeRow.Array packed index component cells)) go k = bounds_careful (type_at p index) _ (λ least greatest.
      size_careful (type_at p component) _ (λ size. k _))
  components_careful t go k = tt

  -- ---- accesses

  before_careful : (row inner : ℕ) (target : Bool) (here : Here) (go : ℕ → ActTree) → ((addr : ℕ) → IsCarefulTree (go addr))
      → IsCarefulTree (locate_before row inner target here go)
  before_careful row inner target here go k = if_tree (nat_lt inner row) _ _ (λ out. on_variable go k out) tt

  array_before : (row inner : ℕ) (target : Bool) (here : Here) (go : ℕ → ℕ → ActTree) → ((addr frame : ℕ) → IsCarefulTree (go addr frame))
      → IsCarefulTree (bounded_before row inner target here go)
  array_before row inner target here go k = if_tree (nat_lt inner row) _ _ (λ out. on_array go k out) tt

  component_there : (conformant : Bool) (frame addr : ℕ) → IsCarefulTree (component_found conformant frame addr)
  component_there true frame addr = tt
  component_there false frame addr = tt

  located : (target : Bool) (line addr field : ℕ) → IsCarefulTree (locate_field p target line addr field)
  located target line addr field = after line (field_at p target addr (row_at p field)) address (field_careful p target addr (row_at p field)) (λ _. tt)

  access_careful : (row : ℕ) (target : Bool) (here : Here) (a : AccessRow) → IsCarefulTree (of_access p row target here a)
  access_careful row target here (AccessRow.Variable place levels of') =
      (tt, λ _. after here.line (cell_out levels here.base place) address (cell_careful levels here.base place) (λ _. tt))
  access_careful row target here (AccessRow.Reference place levels of') =
      (tt, λ _. after here.line (reference_out levels here.base place) address (reference_careful levels here.base place) (λ _. tt))
  access_careful row target here (AccessRow.Conformant place levels of') =
      (tt, λ _. after here.line _ _ (located_careful levels here.base place) (λ _. tt))
  access_careful row target here (AccessRow.Component inner index array of') = array_before row inner target here _ (λ addr frame. (
    tt,
    λ _. eval_careful index here _ (λ v. dimensions_careful (dimensions_of p array) _ (λ d.
        after here.line (conformant_component_at d addr frame v) (component_found (is_conformant p of') frame) (bounded_careful d addr frame v)
        (λ at. component_there (is_conformant p of') frame at))),
  ))
  access_careful row target here (AccessRow.Index inner index array of') = before_careful row inner target here _ (λ addr. (
    tt,
    λ _. eval_careful index here _ (λ v. components_careful (type_at p array) _ (λ a.
        after here.line (component a addr v) address (component_careful a addr v) (λ _. tt))),
  ))
  access_careful row target here (AccessRow.Field inner field of') =
      before_careful row inner target here _ (λ addr. (tt, λ _. located target here.line addr field))
  access_careful row target here (AccessRow.Within record' field of') =
      (tt, λ _. record_careful (slice_get here.records record') _ (λ addr. located target here.line addr field))
  access_careful row target here (AccessRow.Dereference inner of') = before_careful row inner target here _ (λ addr.
      (tt, λ _. after here.line (pointed_at addr) address (pointed_careful addr) (λ _. tt)))

  access_row : (row : ℕ) (target : Bool) (here : Here) (r : Row) → IsCarefulTree (access_in p row target here r)
  access_row row target here (Row.Access a) = access_careful row target here a
  access_row row target here r = tt

  value_careful : (line addr : ℕ) (t : Option TypeRow) → IsCarefulTree (value_at p line addr t)
  value_careful line addr (Some (TypeRow.Ordinal least greatest)) =
      after line (ordinal_at least greatest addr) scalar (ordinal_careful least greatest addr) (λ _. tt)
  value_careful line addr (Some (TypeRow.Subrange host least greatest)) =
      after line (ordinal_at least greatest addr) scalar (ordinal_careful least greatest addr) (λ _. tt)
  value_careful line addr (Some (TypeRow.Set packed base)) = bounds_careful (type_at p base) _ (λ least greatest.
      after line (set_at least greatest addr) scalar (set_careful least greatest addr) (λ _. tt))
  value_careful line addr (Some (TypeRow.Pointer domain)) = after line (pointer_at addr) scalar (pointer_careful addr) (λ _. tt)
  value_careful line addr (Some (TypeRow.Array packed index component cells)) =
      after line (read_values [] addr cells) _ (reads_careful [] addr cells) (λ _. tt)
  value_careful line addr (Some (TypeRow.Record packed region cells variants)) =
      after line (read_values [] addr cells) _ (reads_careful [] addr cells) (λ _. tt)
  value_careful line addr (Some (TypeRow.Conformant packed index component place)) = tt
  value_careful line addr None = tt

  -- ---- calls

  call_careful : (here : Here) (routine levels actuals : ℕ) (go : Out → ActTree) → ((out : Out) → IsCarefulTree (go out))
      → IsCarefulTree (call p here routine levels actuals go)
  call_careful here routine levels actuals go k = λ out. on_passed _ (λ passed. frame_size_careful (routine_at p routine) _ (λ cells.
      after here.line (frame_out levels here.base) _ (frame_careful levels here.base) (λ frame. k))) out

  enter_careful : (routine frame : ℕ) (passed : Passed) (go : Out → ActTree) → ((out : Out) → IsCarefulTree (go out))
      → IsCarefulTree (enter p routine frame passed go)
  enter_careful routine frame passed go k = frame_size_careful (routine_at p routine) _ (λ cells. k)

  formal_call : (here : Here) (formal levels actuals : ℕ) (go : Out → ActTree) → ((out : Out) → IsCarefulTree (go out))
      → IsCarefulTree (call_formal p here formal levels actuals go)
  formal_call here formal levels actuals go k = λ out. on_passed _ (λ passed. formal_careful (row_at p formal) _ (λ place heading.
      after here.line (routine_out p heading levels here.base place) _ (routine_careful p heading levels here.base place)
      (λ x. enter_careful x.0 x.1 passed go k))) out

  -- ---- expressions

  string_careful : (o : Option (List ℕ)) → IsCarefulTree (string_in o)
  string_careful None = tt
  string_careful (Some text) = tt

  two : (here : Here) (left right : ℕ) (go : Value → Value → ActTree) → ((x y : Value) → IsCarefulTree (go x y))
      → IsCarefulTree (eval left here (λ x. eval right here (λ y. go x y)))
  two here left right go k = eval_careful left here _ (λ x. eval_careful right here _ (λ y. k x y))

  expression_careful : (here : Here) (e : ExpressionRow) → IsCarefulTree (of_expression p here e)
  expression_careful here (ExpressionRow.Constant n) = tt
  expression_careful here (ExpressionRow.Text token) = string_careful (slice_get p.texts token)
  expression_careful here ExpressionRow.Nil = tt
  expression_careful here (ExpressionRow.Sign minus operand) = eval_careful operand here _ (λ v. operated here (with_sign_of minus v))
  expression_careful here (ExpressionRow.Not operand) = eval_careful operand here _ (λ v. tt)
  expression_careful here (ExpressionRow.Arithmetic operator left right) = two here left right _ (λ x y. operated here (arith_of operator x y))
  expression_careful here (ExpressionRow.Logic operator left right) = two here left right _ (λ x y. tt)
  expression_careful here (ExpressionRow.Sets operator left right) = two here left right _ (λ x y. operated here (sets_of operator x y))
  expression_careful here (ExpressionRow.Compare order left right) = two here left right _ (λ x y. operated here (comparison order x y))
  expression_careful here (ExpressionRow.CompareTexts order left right) =
      many_careful left here _ (λ xs. many_careful right here _ (λ ys. operated here (texts_compared order xs ys)))
  expression_careful here (ExpressionRow.CompareSets order left right) = two here left right _ (λ x y. operated here (sets_compared order x y))
  expression_careful here (ExpressionRow.ComparePointers equal left right) = two here left right _ (λ x y. operated here (pointers_compared equal x y))
  expression_careful here (ExpressionRow.In left right) = two here left right _ (λ x y. operated here (in_set x y))
  expression_careful here (ExpressionRow.Set members) = λ out. tt
  expression_careful here (ExpressionRow.Apply routine levels actuals) = call_careful here routine levels actuals Ret (λ out. tt)
  expression_careful here (ExpressionRow.ApplyFormal formal levels actuals) = formal_call here formal levels actuals Ret (λ out. tt)
  expression_careful here (ExpressionRow.Function f operand least greatest) = eval_careful operand here _ (λ v. operated here (function_of f least greatest v))
  expression_careful here ExpressionRow.Eof = after here.line at_end scalar end_careful (λ _. tt)
  expression_careful here ExpressionRow.Eoln = after here.line at_line_end scalar line_end_careful (λ _. tt)

  whole_array_careful : (row t : ℕ) (here : Here) (go : Dimensions → WholeArray → ActTree)
      → ((d : Dimensions) (w : WholeArray) → IsCarefulTree (go d w)) → IsCarefulTree (whole_array p row t here go)
  whole_array_careful row t here go k = λ out. on_array _ (λ addr frame. dimensions_careful (dimensions_of p t) _ (λ d.
      after here.line (whole_at d addr frame) (go d) (whole_at_careful d addr frame) (λ w. k d w))) out

  valued : (row t : ℕ) (here : Here) (conformant : Bool) → IsCarefulTree (access_value p row t here conformant)
  valued row t here true = whole_array_careful row t here (λ d w. Ret (Cells w.cells)) (λ d w. tt)
  valued row t here false = locate_careful row here _ (λ addr. value_careful here.line addr (type_at p t))

  expression_row : (row : ℕ) (here : Here) (r : Row) → IsCarefulTree (expression_in p row here r)
  expression_row row here (Row.Expression e) = (tt, λ _. expression_careful here e)
  expression_row row here (Row.Access a) = valued row (type_accessed a) here (is_conformant p (type_accessed a))
  expression_row row here r = tt

  actual_careful : (here : Here) (t : Option TypeRow) (go : List Value → ActTree) → ((vs : List Value) → IsCarefulTree (go vs)) → (out : Out)
      → IsCarefulTree (on_actual p here t go out)
  actual_careful here t go k (Scalar v) = after here.line (tested p t v) _ (tested_careful p t v) (λ w. k (w ∷ []))
  actual_careful here t go k (Cells vs) = k vs
  actual_careful here t go k (Jump label base) = tt
  actual_careful here t go k out = tt

  passed_careful : (here : Here) (nx : ℕ) (passed : Passed) (found : Action (ℕ × ℕ)) → IsCareful found
      → IsCarefulTree (pass_routine here nx passed found)
  passed_careful here nx passed found h = (tt, λ _. after here.line found _ h (λ x out. tt))

  -- ---- arrays as actuals

  placed_careful : (access t : ℕ) (specs : List HeldSpec) (here : Here) (conformant : Bool) (go : List Extent → ℕ → ActTree)
      → ((es : List Extent) (addr : ℕ) → IsCarefulTree (go es addr)) → IsCarefulTree (array_placed p access t specs here conformant go)
  placed_careful access t specs here true go k = λ out. on_array _ (λ addr frame. dimensions_careful (dimensions_of p t) _ (λ d.
      after here.line (extents_at d.specs frame) (λ es. go (es ++ inner_extents p d specs) addr) (extents_careful d.specs frame)
      (λ es. k (es ++ inner_extents p d specs) addr))) out
  placed_careful access t specs here false go k =
      locate_careful access here (λ addr. go (fixed_extents p specs (type_at p t)) addr) (λ addr. k (fixed_extents p specs (type_at p t)) addr)

  copied_careful : (access t : ℕ) (specs : List HeldSpec) (here : Here) (conformant : Bool) (go : WholeArray → ActTree)
      → ((w : WholeArray) → IsCarefulTree (go w)) → IsCarefulTree (array_copied p access t specs here conformant go)
  copied_careful access t specs here true go k =
      whole_array_careful access t here (λ d w. go (record { extents = w.extents ++ inner_extents p d specs; cells = w.cells }))
      (λ d w. k (record { extents = w.extents ++ inner_extents p d specs; cells = w.cells }))
  copied_careful access t specs here false go k = locate_careful access here _ (λ addr. size_careful (type_at p t) _ (λ cells.
      after here.line (read_values [] addr cells) (λ vs. go (record { extents = fixed_extents p specs (type_at p t); cells = vs }))
      (reads_careful [] addr cells) (λ vs. k (record { extents = fixed_extents p specs (type_at p t); cells = vs }))))

  placed_row : (row : ℕ) (specs : List HeldSpec) (here : Here) (r : Row) (go : List Extent → ℕ → ActTree)
      → ((es : List Extent) (addr : ℕ) → IsCarefulTree (go es addr)) → IsCarefulTree (placed_in p row specs here r go)
  placed_row row specs here (Row.Access a) go k = placed_careful row (type_accessed a) specs here (is_conformant p (type_accessed a)) go k
  placed_row row specs here r go k = tt

  copied_row : (row : ℕ) (specs : List HeldSpec) (here : Here) (r : Row) (go : WholeArray → ActTree) → ((w : WholeArray) → IsCarefulTree (go w))
      → IsCarefulTree (whole_in p row specs here r go)
  copied_row row specs here (Row.Access a) go k = copied_careful row (type_accessed a) specs here (is_conformant p (type_accessed a)) go k
  copied_row row specs here (Row.Expression e) go k = many_careful row here (λ vs. go (text_whole vs)) (λ vs. k (text_whole vs))
  copied_row row specs here r go k = tt

  bounded : (here : Here) (first : Bool) (specs : List HeldSpec) (es : List Extent) (passed : Passed) (go : Passed → ActTree)
      → ((q : Passed) → IsCarefulTree (go q)) → IsCarefulTree (section_bounds here first specs es passed go)
  bounded here true specs es passed go k =
      after here.line _ (λ _. go (and_cells passed (bound_values es))) (section_careful es specs) (λ _. k (and_cells passed (bound_values es)))
  bounded here false specs es passed go k = k passed

  actual_row : (passed : Passed) (here : Here) (r : Row) → IsCarefulTree (of_actual p passed here r)
  actual_row passed here (Row.Item (ItemRow.Value e of' nx)) = λ out. actual_careful here (type_at p of') (λ vs. Sub (Pass nx (and_cells passed vs) here) Ret)
      (λ vs out. tt) out
  actual_row passed here (Row.Item (ItemRow.Place access nx)) = locate_careful access here _ (λ addr out. tt)
  actual_row passed here (Row.Item (ItemRow.ArrayPlace first access of' nx)) = dimensions_careful (dimensions_of p of') _ (λ d.
      placed_row access d.specs here (row_at p access) _ (λ es addr.
      bounded here first d.specs es passed (λ q. Sub (Pass nx (and_cells q (Value.Place addr ∷ [])) here) Ret) (λ q out. tt)))
  actual_row passed here (Row.Item (ItemRow.ArrayValue first e of' nx)) = dimensions_careful (dimensions_of p of') _ (λ d.
      copied_row e d.specs here (row_at p e) _ (λ w.
      bounded here first d.specs w.extents passed (λ q. Sub (Pass nx (and_copy q w.cells) here) Ret) (λ q out. tt)))
  actual_row passed here (Row.Item (ItemRow.Routine routine levels nx)) = passed_careful here nx passed _
      (next (frame_out levels here.base) _ (frame_careful levels here.base) (λ _. tt))
  actual_row passed here (Row.Item (ItemRow.RoutineFormal formal levels nx)) = formal_careful (row_at p formal) _ (λ place heading.
      passed_careful here nx passed (routine_out p heading levels here.base place) (routine_careful p heading levels here.base place))
  actual_row passed here r = tt

  gather_careful : (here : Here) (nx : ℕ) (r : Result Value OpFault) → IsCarefulTree (gather here nx r)
  gather_careful here nx r = after here.line (or_fault r) _ (fault_careful r) (λ set out. tt)

  member_row : (set : Value) (here : Here) (r : Row) → IsCarefulTree (of_members set here r)
  member_row set here (Row.Item (ItemRow.Member e nx)) = eval_careful e here _ (λ v. gather_careful here nx _)
  member_row set here (Row.Item (ItemRow.Members first last nx)) = eval_careful first here _ (λ v. eval_careful last here _ (λ w. gather_careful here nx _))
  member_row set here r = tt

  -- ---- assignments

  put_careful : (here : Here) (target of' : ℕ) (out : Out) → IsCarefulTree (on_value p here target of' out)
  put_careful here target of' (Scalar v) = target_careful target here _ (λ addr.
      ended here _ (assign_careful p (tag_accessed p (row_at p target)) (type_at p of') addr v))
  put_careful here target of' (Cells vs) = target_careful target here _ (λ addr. ended here (writes addr vs) (writes_careful addr vs))
  put_careful here target of' (Jump label base) = tt
  put_careful here target of' out = tt

  -- ---- case and for statements

  choose_careful : (here : Here) (s : Sought) → IsCarefulTree (choose here s)
  choose_careful here (Some (Some n)) = λ out. tt
  choose_careful here (Some None) = tt
  choose_careful here None = tt

  case_careful : (here : Here) (choices : ℕ) (v : Value) → IsCarefulTree (chosen_by p here choices v)
  case_careful here choices (Value.Number i) = choose_careful here _
  case_careful here choices v = tt

  undefine_careful : (here : Here) (place : ℕ) → IsCarefulTree (undefine here place)
  undefine_careful here place = ended here (write (moved here.base place) Value.Undefined) (write_careful (moved here.base place) Value.Undefined)

  first_careful : (here : Here) (turns : ℕ) (r : Row) (i j : Value) → IsCarefulTree (first_turn p here turns r i j)
  first_careful here turns (Row.Statement (StatementRow.Turns direction last place of' body)) (Value.Number i) (Value.Number j) =
      if_tree (has_turn direction i j) _ _ (after here.line (bounds_tested p (type_at p of') i j) _
      (next (tested p (type_at p of') (Value.Number i)) _ (tested_careful p (type_at p of') (Value.Number i))
      (λ _. tested_careful p (type_at p of') (Value.Number j))) (λ _ out. tt)) (undefine_careful here place)
  first_careful here turns (Row.Statement (StatementRow.Turns direction last place of' body)) i j = tt
  first_careful here turns r i j = tt

  for_careful : (here : Here) (initial turns : ℕ) (r : Row) → IsCarefulTree (bounds p here initial turns r)
  for_careful here initial turns (Row.Statement (StatementRow.Turns direction last place of' body)) =
      eval_careful initial here _ (λ x. eval_careful last here _ (λ y. first_careful here turns (row_at p turns) x y))
  for_careful here initial turns r = tt

  turn_ended : (here : Here) (row : ℕ) (direction : Direction) (place : ℕ) (i last : ℤ) → IsCarefulTree (turn_after row here direction place i last)
  turn_ended here row direction place i last = if_tree (int_eq i last) _ _ (undefine_careful here place) (λ out. tt)

  count_row : (here : Here) (row : ℕ) (i last : ℤ) (r : Row) → IsCarefulTree (of_count row here i last r)
  count_row here row i last (Row.Statement (StatementRow.Turns direction last' place of' body)) =
      after here.line (write (moved here.base place) (Value.Number i)) _ (write_careful (moved here.base place) (Value.Number i))
      (λ _ out. normally _ (turn_ended here row direction place i last) out)
  count_row here row i last r = tt

  turn_row : (here : Here) (row : ℕ) (r : Row) → IsCarefulTree (of_turn row here r)
  turn_row here row (Row.Statement (StatementRow.While line condition body)) = eval_careful condition here _ (λ v.
      if_tree (is_true v) _ nothing (λ out. normally _ (λ out. tt) out) tt)
  turn_row here row (Row.Statement (StatementRow.Repeat line statements condition)) = λ out. normally _ (eval_careful condition here _ (λ v.
      if_tree (is_true v) nothing _ tt (λ out. tt))) out
  turn_row here row r = tt

  -- ---- packing

  array_careful : (r : Row) (go : ℕ → Components → ActTree) → ((cells : ℕ) (a : Components) → IsCarefulTree (go cells a)) → IsCarefulTree (with_array p r go)
  array_careful (Row.Access a) go k = components_careful (type_at p (type_accessed a)) _ (λ c. k _ c)
  array_careful r go k = tt

  copied : (here : Here) (packing : Bool) (from to cells : ℕ) → IsCarefulTree (finally here (if packing then copies from to cells else copies to from cells))
  copied here true from to cells = ended here (copies from to cells) (copies_careful from to cells)
  copied here false from to cells = ended here (copies to from cells) (copies_careful to from cells)

  moves_careful : (here : Here) (packing : Bool) (unpacked packed a z : ℕ) (v : Value)
      → IsCarefulTree (moves p here packing unpacked packed a z v (finally here))
  moves_careful here packing unpacked packed a z v = array_careful (row_at p unpacked) _ (λ _ wide. array_careful (row_at p packed) _ (λ cells close.
      after here.line (first_moved wide close a v) _ (moved_careful wide close a v) (λ at. copied here packing at z cells)))

  pack_careful : (here : Here) (packing : Bool) (unpacked index packed : ℕ) → IsCarefulTree (pack p here packing unpacked index packed (finally here))
  pack_careful here true unpacked index packed = locate_careful unpacked here _ (λ a. locate_careful packed here _ (λ z. eval_careful index here _ (λ v.
      moves_careful here true unpacked packed a z v)))
  pack_careful here false unpacked index packed = locate_careful packed here _ (λ z. locate_careful unpacked here _ (λ a. eval_careful index here _ (λ v.
      moves_careful here false unpacked packed a z v)))

  -- ---- statements

  statement_careful : (row : ℕ) (here : Here) (s : StatementRow) → IsCarefulTree (of_statement p row here s)
  statement_careful row here (StatementRow.Assign line target e of') = λ out. put_careful here target of' out
  statement_careful row here (StatementRow.Call line routine levels actuals) = call_careful here routine levels actuals _ (λ out. normally nothing tt out)
  statement_careful row here (StatementRow.If line condition then') = eval_careful condition here _ (λ v. if_tree (is_true v) _ nothing (λ out. tt) tt)
  statement_careful row here (StatementRow.IfElse line condition then' otherwise) =
      eval_careful condition here _ (λ v. if_tree (is_true v) _ _ (λ out. tt) (λ out. tt))
  statement_careful row here (StatementRow.Case line selector choices) = eval_careful selector here _ (λ v. case_careful here choices v)
  statement_careful row here (StatementRow.Repeat line statements condition) = λ out. tt
  statement_careful row here (StatementRow.While line condition body) = λ out. tt
  statement_careful row here (StatementRow.For line initial turns) = for_careful here initial turns (row_at p turns)
  statement_careful row here (StatementRow.CallFormal line formal levels actuals) =
      formal_call here formal levels actuals _ (λ out. normally nothing tt out)
  statement_careful row here (StatementRow.Goto line label levels) =
      after here.line (frame_out levels here.base) _ (frame_careful levels here.base) (λ base. tt)
  statement_careful row here (StatementRow.With line records' body) = λ out. tt
  statement_careful row here (StatementRow.Read ends_line line actuals) = λ out. normally _ (if_tree ends_line _ nothing (λ out. tt) tt) out
  statement_careful row here (StatementRow.Write ends_line line actuals) =
      λ out. normally _ (if_tree ends_line _ nothing (ended here end_line end_line_careful) tt) out
  statement_careful row here (StatementRow.Page line) = ended here end_page end_page_careful
  statement_careful row here (StatementRow.Pack packing line unpacked index packed) = pack_careful here packing unpacked index packed
  statement_careful row here (StatementRow.New line access of') = size_careful (type_at p of') _ (λ cells.
      after here.line (made_variable cells of') (point here access) (made_careful cells of')
      (λ v. target_careful access here (λ addr. finally here (write addr v)) (λ addr. ended here (write addr v) (write_careful addr v))))
  statement_careful row here (StatementRow.Dispose line e of') = eval_careful e here _ (λ v. size_careful (type_at p of') _ (λ cells.
      ended here (dispose cells v) (dispose_careful cells v)))
  statement_careful row here s = tt

  begins_careful : (row : ℕ) (here : Here) (s : StatementRow) (o : Option ℕ) → IsCarefulTree (begins p row here s o)
  begins_careful row here s (Some line) = statement_careful row (record here { line = line }) s
  begins_careful row here s None = tt

  labelled_careful : (row label : ℕ) (here : Here) (out : Out) → IsCarefulTree (on_labelled row label here out)
  labelled_careful row label here (Jump goal base) = if_tree ((goal == label) && (base == here.base)) _ _ (λ out. tt) tt
  labelled_careful row label here out = tt

  any_statement : (row : ℕ) (here : Here) (s : StatementRow) → IsCarefulTree (statement p row here s)
  any_statement row here StatementRow.Empty = (tt, λ _. tt)
  any_statement row here (StatementRow.Compound statements) = (tt, λ _ out. tt)
  any_statement row here (StatementRow.Labelled label inner) = if_tree (nat_lt row inner) _ _ (labelled_careful row label here) tt
  any_statement row here s = begins_careful row here s (line_of s)

  statement_row : (row : ℕ) (here : Here) (r : Row) → IsCarefulTree (statement_in p row here r)
  statement_row row here (Row.Statement s) = any_statement row here s
  statement_row row here r = tt

  jumped_careful : (here : Here) (first label base : ℕ) (s : Sought) → IsCarefulTree (jumped here first label base s)
  jumped_careful here first label base (Some (Some at)) = λ out. tt
  jumped_careful here first label base (Some None) = tt
  jumped_careful here first label base None = tt

  after_statement : (here : Here) (first nx : ℕ) (out : Out) → IsCarefulTree (on_statement p here first nx out)
  after_statement here first nx (Jump label base) = jumped_careful here first label base _
  after_statement here first nx out = λ out. tt

  sequence_row : (here : Here) (first : ℕ) (r : Row) → IsCarefulTree (of_sequence p here first r)
  sequence_row here first (Row.Item (ItemRow.Element s nx)) = λ out. after_statement here first nx out
  sequence_row here first r = tt

  records_row : (here : Here) (body : ℕ) (r : Row) → IsCarefulTree (of_records here body r)
  records_row here body (Row.Item (ItemRow.Element access nx)) = locate_careful access here _ (λ addr out. tt)
  records_row here body r = tt

  -- ---- reading and writing

  into_careful : (here : Here) (access of' nx : ℕ) (v : Value) → IsCarefulTree (into p here access of' nx v)
  into_careful here access of' nx v = target_careful access here _ (λ addr.
      after here.line (assign_to p (tag_accessed p (row_at p access)) (type_at p of') addr v) _
      (assign_careful p (tag_accessed p (row_at p access)) (type_at p of') addr v) (λ _ out. tt))

  read_row : (here : Here) (access nx : ℕ) (r : Row) → IsCarefulTree (received p here access nx r)
  read_row here access nx (Row.Access a) = host_careful (type_accessed a) (type_at p (type_accessed a)) _ (λ host. if_tree (host == char_type) _ _
      (after here.line next_char _ next_char_careful (λ v. into_careful here access (type_accessed a) nx v))
      (λ out. on_one _ (λ v. into_careful here access (type_accessed a) nx v) out))
  read_row here access nx r = tt

  received_row : (here : Here) (r : Row) → IsCarefulTree (of_received p here r)
  received_row here (Row.Item (ItemRow.Element access nx)) = read_row here access nx (row_at p access)
  received_row here r = tt

  scanned_careful : (here : Here) (s : Scanned) → IsCarefulTree (on_scanned here s)
  scanned_careful here (Further scan) = λ out. tt
  scanned_careful here (Whole v) = tt

  print_careful : (here : Here) (nx : ℕ) (text : Text) (width : Option Value) → IsCarefulTree (print here nx text width)
  print_careful here nx text width = after here.line (written text width) _ (written_careful text width) (λ _ out. tt)

  text_careful : (of' : ℕ) (go : Text → ActTree) → ((text : Text) → IsCarefulTree (go text)) → (out : Out) → IsCarefulTree (on_text p of' go out)
  text_careful of' go k (Scalar v) = host_careful of' (type_at p of') _ (λ host. k (scalar_text host v))
  text_careful of' go k (Cells vs) = k _
  text_careful of' go k (Jump label base) = tt
  text_careful of' go k out = tt

  printed_row : (here : Here) (r : Row) → IsCarefulTree (of_printed p here r)
  printed_row here (Row.Item (ItemRow.Written e of' nx)) = λ out. text_careful of' (λ text. print here nx text None) (λ text. print_careful here nx text None)
      out
  printed_row here (Row.Item (ItemRow.WrittenWide e of' width nx)) = λ out. text_careful of'
      (λ text. eval width here (λ w. print here nx text (Some w)))
      (λ text. eval_careful width here (λ w. print here nx text (Some w)) (λ w. print_careful here nx text (Some w))) out
  printed_row here r = tt

  -- ---- routines

  body_careful : (base : ℕ) (o : Option Routine) → IsCarefulTree (of_body base o)
  body_careful base None = tt
  body_careful base (Some r) = (tt, λ _ out. tt)

  result_type : (line addr : ℕ) (t : Option TypeRow) → IsCarefulTree (result_of_type line addr t)
  result_type line addr (Some (TypeRow.Pointer domain)) = after line (pointer_result_at addr) scalar (pointer_result_careful addr) (λ _. tt)
  result_type line addr t = bounds_careful t (λ least greatest. doing line (result_read least greatest addr) scalar)
      (λ least greatest. after line (result_read least greatest addr) scalar (result_careful least greatest addr) (λ _. tt))

  return_careful : (base : ℕ) (r : Routine) (o : Option ℕ) → IsCarefulTree (return_of p base r o)
  return_careful base r None = tt
  return_careful base r (Some place) = result_type r.line (moved base place) (type_in_heading p (row_at p r.heading))

  pub whole_careful : (f base : ℕ) (r : Routine) → IsCarefulTree (whole p f base r)
  whole_careful f base r = λ out. normally (return_of p base r r.result) (return_careful base r r.result) out

  -- ---- each part

  until : (at : ℕ) (t u : ActTree) → IsCarefulTree t → IsCarefulTree u → IsCarefulTree (until_end at t u)
  until at t u h k = if_tree (is_end at) t u h k

  pub part_careful : (part : Part) → IsCarefulTree (layer p part)
  part_careful (Eval row here) = expression_row row here (row_at p row)
  part_careful (Locate row target here) = access_row row target here (row_at p row)
  part_careful (Pass at passed here) = until at (Ret (Actuals passed)) _ tt (actual_row passed here (row_at p at))
  part_careful (Gather at set here) = until at (scalar set) _ tt (member_row set here (row_at p at))
  part_careful (Establish at body here) = until at _ _ (λ out. tt) (records_row here body (row_at p at))
  part_careful (Exec row here) = statement_row row here (row_at p row)
  part_careful (Sequence first at here) = until at nothing _ tt (sequence_row here first (row_at p at))
  part_careful (Turn row here) = turn_row here row (row_at p row)
  part_careful (Count row i last here) = count_row here row i last (row_at p row)
  part_careful (Receive at here) = until at nothing _ tt (received_row here (row_at p at))
  part_careful (Scanning scan here) = after here.line (scan_on scan) _ (scan_careful scan) (scanned_careful here)
  part_careful (RestOfLine here) = after here.line past_item _ past_careful (λ ended. if_tree ended nothing _ tt (λ out. tt))
  part_careful (Print at here) = until at nothing _ tt (printed_row here (row_at p at))
  part_careful (Body routine base) = body_careful base (routine_at p routine)
