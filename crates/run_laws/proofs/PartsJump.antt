-- What each part of a program does lets jumps into other frames go on outward.
use Rattle.std.proofs.Common.{if◌then◌else◌, ◌&&◌, ◌++◌, ◌==◌, ◌∷◌, ◌≡◌, ◌⊎◌, [], ℕ, ℤ, Bool, List, None, Option, Result, Some, arith, false, inl, inr, length}
use Rattle.std.proofs.Common.{nat_lt, refl, slice_get, subst, true}
use Rattle.std.{proofs.lemmas.Bool.Decides.nat_tests, specs.Ordering.int_eq}
use Rattle.cell_value.specs.{Arithmetic.arith_of, declared.faults.OpFault.OpFault, declared.values.Value.Value}
use Rattle.core_program.specs.{Acts.Answer, Choices.Sought, Conformant.inner_extents, Conformant.whole_at, Layer.layer, Layer.of_body, Passed.Passed}
use Rattle.core_program.specs.{Passed.and_cells, Passed.and_copy, State.moved, Variants.assign_to, Variants.field_at, Variants.tag_accessed}
use Rattle.core_program.specs.Accesses.{access_in, address, bounded_before, component_found, eval, eval_cells, is_conformant, is_end, locate, locate_before}
use Rattle.core_program.specs.Accesses.{locate_field, locate_target, of_access, on_address, on_bounded, on_cells, on_scalar, scalar, type_accessed, until_end}
use Rattle.core_program.specs.Accesses.{value_at, with_bounds, with_components, with_dimensions, with_formal, with_record, with_size}
use Rattle.core_program.specs.Actions.{◌>>=◌, Action, Fail, Give, NoMeaning, Perform}
use Rattle.core_program.specs.Cells.{cell_out, component, frame_out, ordinal_at, read_values, reference_out, referred, routine_out, set_at, write, writes}
use Rattle.core_program.specs.Conformant.{Dimensions, WholeArray, bound_values, conformant_component_at, dimensions_of, extents_at, fixed_extents}
use Rattle.core_program.specs.Conformant as arrays
use Rattle.core_program.specs.Expressions.{access_value, array_copied, array_placed, call, call_formal, enter, expression_in, gather, of_actual, of_expression}
use Rattle.core_program.specs.Expressions.{of_members, on_actual, on_actuals, operation_result, pass_routine, placed_in, section_bounds, string_in, text_whole}
use Rattle.core_program.specs.Expressions.{whole_array, whole_in, with_frame_size}
use Rattle.core_program.specs.Heap.{dispose, made_variable, pointed_at, pointer_at, pointer_result_at, pointers_compared}
use Rattle.core_program.specs.Input.{at_end, at_line_end, next_char, past_item, scan_on}
use Rattle.core_program.specs.Output.{Text, char_type, end_line, end_page, scalar_text, written}
use Rattle.core_program.specs.Packing.{copies, first_moved, moves, pack, with_array}
use Rattle.core_program.specs.ProgramRows.{ProgramRows, routine_at, row_at, type_at}
use Rattle.core_program.specs.Run.{result_of_type, result_read, return_of, type_in_heading, whole}
use Rattle.core_program.specs.Statements.{begins, bounds, bounds_tested, choose, chosen_by, finally, first_turn, has_turn, inside, jumped, labelled_in, line_of}
use Rattle.core_program.specs.Statements.{nothing, of_count, of_records, of_sequence, of_statement, of_turn, on_labelled, on_normal, on_statement, on_value}
use Rattle.core_program.specs.Statements.{point, statement, statement_in, turn_after, undefine}
use Rattle.core_program.specs.Transfers.{into, of_printed, of_received, on_scanned, on_text, print, received, with_host}
use Rattle.core_program.specs.Tree.{ActTree, Actuals, Address, Body, Bounded, Cells, Count, Do, Enter, Establish, Eval, Exec, Gather, Halt, Here, Jump, Line}
use Rattle.core_program.specs.Tree.{Locate, Meaningless, Out, Part, Pass, Print, Receive, RestOfLine, Ret, Scalar, Scanning, Sequence, Sub, Turn, doing}
use Rattle.core_program.specs.Values.{comparison, function_of, in_set, is_true, or_fault, sets_compared, sets_of, tested, texts_compared, with_sign_of}
use Rattle.core_program.specs.declared.{program.Routine.Routine, scan.Scanned.Scanned, scan.Scanned.TheVariants.Further, scan.Scanned.TheVariants.Whole}
use Rattle.core_program.specs.declared.components.{Components.Components, Extent.Extent, HeldSpec.HeldSpec}
use Rattle.core_program.specs.declared.rows.{AccessRow.AccessRow, Direction.Direction, ExpressionRow.ExpressionRow, ItemRow.ItemRow, NameRow.NameRow, Row.Row}
use Rattle.core_program.specs.declared.rows.{StatementRow.StatementRow, TypeRow.TypeRow}

-- ---- trees

-- the tree is a jump to a label, in the frame at a base
abbrev pub IsJump : (label base : ℕ) → ActTree → Type 0
IsJump label base (Ret (Jump l b)) = (l ≡ label) × (b ≡ base)
IsJump label base t = ⊥

-- a jump into another frame goes on outward
abbrev pub Outward : (base : ℕ) → (Out → ActTree) → Type 0
Outward base next = (label b : ℕ) → (b ≡ base) ⊎ IsJump label b (next (Jump label b))

-- the frame in which a part is at work
abbrev pub base_of : Part → ℕ
base_of (Eval row here) = here.base
base_of (Locate row target here) = here.base
base_of (Pass at passed here) = here.base
base_of (Gather at set here) = here.base
base_of (Exec row here) = here.base
base_of (Establish at body here) = here.base
base_of (Sequence first at here) = here.base
base_of (Turn row here) = here.base
base_of (Count row value last here) = here.base
base_of (Receive at here) = here.base
base_of (Scanning scan here) = here.base
base_of (RestOfLine here) = here.base
base_of (Print at here) = here.base
base_of (Body routine base) = base

abbrev pub PartAt : (base : ℕ) → Part → Type 0
PartAt base part = base_of part ≡ base

abbrev pub JumpTree : (base : ℕ) → ActTree → Type 0
JumpTree base (Ret out) = Unit {0}
JumpTree base (Halt line why) = Unit {0}
JumpTree base Meaningless = Unit {0}
JumpTree base (Do line act next) = (x : Answer act) → JumpTree base (next x)
JumpTree base (Sub part next) = PartAt base part × Outward base next × ((out : Out) → JumpTree base (next out))
JumpTree base (Enter e next) = Outward base next × ((out : Out) → JumpTree base (next out))
JumpTree base (Line line next) = JumpTree base next

after : {A : Type 0} (n line : ℕ) (a : Action A) (go : A → ActTree) → ((x : A) → JumpTree n (go x)) → JumpTree n (doing line a go)
after n line (Give x) go k = k x
after n line (Fail why) go k = tt
after n line NoMeaning go k = tt
after n line (Perform act next) go k = λ x. after n line (next x) go k

if_tree : (n : ℕ) (b : Bool) (t u : ActTree) → JumpTree n t → JumpTree n u → JumpTree n (if b then t else u)
if_tree n true t u h k = h
if_tree n false t u h k = k

done : (n : ℕ) (part : Part) → PartAt n part → JumpTree n (Sub part Ret)
done n part h = (h, λ label b. inr (refl, refl), λ out. tt)

-- ---- how parts go on

on_one : (n : ℕ) (go : Value → ActTree) → ((v : Value) → JumpTree n (go v)) → (out : Out) → JumpTree n (on_scalar go out)
on_one n go k (Scalar v) = k v
on_one n go k (Jump label base) = tt
on_one n go k out = tt

on_many : (n : ℕ) (go : List Value → ActTree) → ((vs : List Value) → JumpTree n (go vs)) → (out : Out) → JumpTree n (on_cells go out)
on_many n go k (Cells vs) = k vs
on_many n go k (Jump label base) = tt
on_many n go k out = tt

on_variable : (n : ℕ) (go : ℕ → ActTree) → ((addr : ℕ) → JumpTree n (go addr)) → (out : Out) → JumpTree n (on_address go out)
on_variable n go k (Address addr) = k addr
on_variable n go k (Bounded addr frame) = k addr
on_variable n go k (Jump label base) = tt
on_variable n go k out = tt

on_array : (n : ℕ) (go : ℕ → ℕ → ActTree) → ((addr frame : ℕ) → JumpTree n (go addr frame)) → (out : Out) → JumpTree n (on_bounded go out)
on_array n go k (Bounded addr frame) = k addr frame
on_array n go k (Jump label base) = tt
on_array n go k out = tt

on_passed : (n : ℕ) (go : Passed → ActTree) → ((passed : Passed) → JumpTree n (go passed)) → (out : Out) → JumpTree n (on_actuals go out)
on_passed n go k (Actuals passed) = k passed
on_passed n go k (Jump label base) = tt
on_passed n go k out = tt

normally : (n : ℕ) (t : ActTree) → JumpTree n t → (out : Out) → JumpTree n (on_normal t out)
normally n t h (Jump label base) = tt
normally n t h out = h

eval_jumps : (row : ℕ) (here : Here) (go : Value → ActTree) → ((v : Value) → JumpTree here.base (go v)) → JumpTree here.base (eval row here go)
eval_jumps row here go k = (refl, λ label b. inr (refl, refl), λ out. on_one here.base go k out)

many_jump : (row : ℕ) (here : Here) (go : List Value → ActTree) → ((vs : List Value) → JumpTree here.base (go vs)) → JumpTree here.base (eval_cells row here go)
many_jump row here go k = (refl, λ label b. inr (refl, refl), λ out. on_many here.base go k out)

locate_jumps : (row : ℕ) (here : Here) (go : ℕ → ActTree) → ((addr : ℕ) → JumpTree here.base (go addr)) → JumpTree here.base (locate row here go)
locate_jumps row here go k = (refl, λ label b. inr (refl, refl), λ out. on_variable here.base go k out)

target_jumps : (row : ℕ) (here : Here) (go : ℕ → ActTree) → ((addr : ℕ) → JumpTree here.base (go addr)) → JumpTree here.base (locate_target row here go)
target_jumps row here go k = (refl, λ label b. inr (refl, refl), λ out. on_variable here.base go k out)

-- a part, and then nothing or something more
and_then : (n : ℕ) (part : Part) (t : ActTree) → PartAt n part → JumpTree n t → JumpTree n (Sub part (on_normal t))
and_then n part t h k = (h, λ label b. inr (refl, refl), λ out. normally n t k out)

bounds_jump : (n : ℕ) (t : Option TypeRow) (go : ℤ → ℤ → ActTree) → ((least greatest : ℤ) → JumpTree n (go least greatest)) → JumpTree n (with_bounds t go)
bounds_jump n (Some (TypeRow.Ordinal least greatest)) go k = k least greatest
bounds_jump n (Some (TypeRow.Subrange host least greatest)) go k = k least greatest
bounds_jump n t go k = tt

size_jumps : (n : ℕ) (t : Option TypeRow) (go : ℕ → ActTree) → ((k : ℕ) → JumpTree n (go k)) → JumpTree n (with_size t go)
size_jumps n None go k = tt
size_jumps n (Some t) go k = k _

dimensions_jump : (n : ℕ) (o : Option Dimensions) (go : Dimensions → ActTree) → ((d : Dimensions) → JumpTree n (go d)) → JumpTree n (with_dimensions o go)
dimensions_jump n None go k = tt
dimensions_jump n (Some d) go k = k d

record_jumps : (n : ℕ) (o : Option ℕ) (go : ℕ → ActTree) → ((addr : ℕ) → JumpTree n (go addr)) → JumpTree n (with_record o go)
record_jumps n None go k = tt
record_jumps n (Some addr) go k = k addr

formal_jumps : (n : ℕ) (r : Row) (go : ℕ → ℕ → ActTree) → ((place heading : ℕ) → JumpTree n (go place heading)) → JumpTree n (with_formal r go)
formal_jumps n (Row.Name (NameRow.RoutineFormal place level heading)) go k = k place heading
formal_jumps n r go k = tt

host_jumps : (n of' : ℕ) (t : Option TypeRow) (go : ℕ → ActTree) → ((host : ℕ) → JumpTree n (go host)) → JumpTree n (with_host of' t go)
host_jumps n of' (Some (TypeRow.Ordinal least greatest)) go k = k of'
host_jumps n of' (Some (TypeRow.Subrange host least greatest)) go k = k host
host_jumps n of' t go k = tt

frame_size_jumps : (n : ℕ) (o : Option Routine) (go : ℕ → ActTree) → ((cells : ℕ) → JumpTree n (go cells)) → JumpTree n (with_frame_size o go)
frame_size_jumps n None go k = tt
frame_size_jumps n (Some r) go k = k r.cells

ended : (here : Here) (a : Action (Unit {0})) → JumpTree here.base (finally here a)
ended here a = after here.base here.line a _ (λ _. tt)

operated : (here : Here) (r : Result Value OpFault) → JumpTree here.base (operation_result here r)
operated here r = after here.base here.line (or_fault r) scalar (λ _. tt)

module _ (p : ProgramRows) where
  components_jump : (n : ℕ) (t : Option TypeRow) (go : Components → ActTree) → ((a : Components) → JumpTree n (go a)) → JumpTree n (with_components p t go)
  components_jump n (Some (TypeRow.Array packed index component cells)) go k = bounds_jump n (type_at p index) _ (λ least greatest.
      size_jumps n (type_at p component) _ (λ size. k _))
  components_jump n t go k = tt

  -- ---- accesses

  before_jumps : (row inner : ℕ) (target : Bool) (here : Here) (go : ℕ → ActTree) → ((addr : ℕ) → JumpTree here.base (go addr))
      → JumpTree here.base (locate_before row inner target here go)
  before_jumps row inner target here go k =
      if_tree here.base (nat_lt inner row) _ _ (refl, λ label b. inr (refl, refl), λ out. on_variable here.base go k out) tt

  array_before : (row inner : ℕ) (target : Bool) (here : Here) (go : ℕ → ℕ → ActTree) → ((addr frame : ℕ) → JumpTree here.base (go addr frame))
      → JumpTree here.base (bounded_before row inner target here go)
  array_before row inner target here go k =
      if_tree here.base (nat_lt inner row) _ _ (refl, λ label b. inr (refl, refl), λ out. on_array here.base go k out) tt

  component_there : (n : ℕ) (conformant : Bool) (frame addr : ℕ) → JumpTree n (component_found conformant frame addr)
  component_there n true frame addr = tt
  component_there n false frame addr = tt

  located : (n : ℕ) (target : Bool) (line addr field : ℕ) → JumpTree n (locate_field p target line addr field)
  located n target line addr field = after n line (field_at p target addr (row_at p field)) address (λ _. tt)

  access_jumps : (row : ℕ) (target : Bool) (here : Here) (a : AccessRow) → JumpTree here.base (of_access p row target here a)
  access_jumps row target here (AccessRow.Variable place levels of') =
      λ _. after here.base here.line (cell_out levels here.base place) address (λ _. tt)
  access_jumps row target here (AccessRow.Reference place levels of') =
      λ _. after here.base here.line (reference_out levels here.base place) address (λ _. tt)
  access_jumps row target here (AccessRow.Conformant place levels of') = λ _. after here.base here.line
      (frame_out levels here.base >>= λ frame. referred (moved frame place) >>= λ addr. Give (addr, frame)) _ (λ _. tt)
  access_jumps row target here (AccessRow.Component inner index array of') = array_before row inner target here _ (λ addr frame _.
      eval_jumps index here _ (λ v. dimensions_jump here.base (dimensions_of p array) _ (λ d. after here.base here.line
      (conformant_component_at d addr frame v) (component_found (is_conformant p of') frame)
      (λ at. component_there here.base (is_conformant p of') frame at))))
  access_jumps row target here (AccessRow.Index inner index array of') = before_jumps row inner target here _ (λ addr _.
      eval_jumps index here _ (λ v. components_jump here.base (type_at p array) _ (λ a.
      after here.base here.line (component a addr v) address (λ _. tt))))
  access_jumps row target here (AccessRow.Field inner field of') =
      before_jumps row inner target here _ (λ addr _. located here.base target here.line addr field)
  access_jumps row target here (AccessRow.Within record' field of') =
      λ _. record_jumps here.base (slice_get here.records record') _ (λ addr. located here.base target here.line addr field)
  access_jumps row target here (AccessRow.Dereference inner of') = before_jumps row inner target here _ (λ addr _.
      after here.base here.line (pointed_at addr) address (λ _. tt))

  access_row : (row : ℕ) (target : Bool) (here : Here) (r : Row) → JumpTree here.base (access_in p row target here r)
  access_row row target here (Row.Access a) = access_jumps row target here a
  access_row row target here r = tt

  value_jumps : (n line addr : ℕ) (t : Option TypeRow) → JumpTree n (value_at p line addr t)
  value_jumps n line addr (Some (TypeRow.Ordinal least greatest)) = after n line (ordinal_at least greatest addr) scalar (λ _. tt)
  value_jumps n line addr (Some (TypeRow.Subrange host least greatest)) = after n line (ordinal_at least greatest addr) scalar (λ _. tt)
  value_jumps n line addr (Some (TypeRow.Set packed base)) = bounds_jump n (type_at p base) _ (λ least greatest.
      after n line (set_at least greatest addr) scalar (λ _. tt))
  value_jumps n line addr (Some (TypeRow.Pointer domain)) = after n line (pointer_at addr) scalar (λ _. tt)
  value_jumps n line addr (Some (TypeRow.Array packed index component cells)) =
      after n line (read_values [] addr cells) (λ vs. Ret (Cells vs)) (λ _. tt)
  value_jumps n line addr (Some (TypeRow.Record packed region cells variants)) =
      after n line (read_values [] addr cells) (λ vs. Ret (Cells vs)) (λ _. tt)
  value_jumps n line addr (Some (TypeRow.Conformant packed index component place)) = tt
  value_jumps n line addr None = tt

  -- ---- calls

  call_jumps : (here : Here) (routine levels actuals : ℕ) (go : Out → ActTree) → Outward here.base go → ((out : Out) → JumpTree here.base (go out))
      → JumpTree here.base (call p here routine levels actuals go)
  call_jumps here routine levels actuals go o k = (
    refl,
    λ label b. inr (refl, refl),
    λ out. on_passed here.base _ (λ passed. frame_size_jumps here.base (routine_at p routine) _ (λ cells.
        after here.base here.line (frame_out levels here.base) _ (λ frame. (o, k)))) out,
  )

  enter_jumps : (n routine frame : ℕ) (passed : Passed) (go : Out → ActTree) → Outward n go → ((out : Out) → JumpTree n (go out))
      → JumpTree n (enter p routine frame passed go)
  enter_jumps n routine frame passed go o k = frame_size_jumps n (routine_at p routine) _ (λ cells. (o, k))

  formal_call : (here : Here) (formal levels actuals : ℕ) (go : Out → ActTree) → Outward here.base go → ((out : Out) → JumpTree here.base (go out))
      → JumpTree here.base (call_formal p here formal levels actuals go)
  formal_call here formal levels actuals go o k = (
    refl,
    λ label b. inr (refl, refl),
    λ out. on_passed here.base _ (λ passed. formal_jumps here.base (row_at p formal) _ (λ place heading.
        after here.base here.line (routine_out p heading levels here.base place) _ (λ x. enter_jumps here.base x.0 x.1 passed go o k))) out,
  )

  -- ---- expressions

  string_jumps : (n : ℕ) (o : Option (List ℕ)) → JumpTree n (string_in o)
  string_jumps n None = tt
  string_jumps n (Some text) = tt

  two : (here : Here) (left right : ℕ) (go : Value → Value → ActTree) → ((x y : Value) → JumpTree here.base (go x y))
      → JumpTree here.base (eval left here (λ x. eval right here (λ y. go x y)))
  two here left right go k = eval_jumps left here _ (λ x. eval_jumps right here _ (λ y. k x y))

  expression_jumps : (here : Here) (e : ExpressionRow) → JumpTree here.base (of_expression p here e)
  expression_jumps here (ExpressionRow.Constant n) = tt
  expression_jumps here (ExpressionRow.Text token) = string_jumps here.base (slice_get p.texts token)
  expression_jumps here ExpressionRow.Nil = tt
  expression_jumps here (ExpressionRow.Sign minus operand) = eval_jumps operand here _ (λ v. operated here (with_sign_of minus v))
  expression_jumps here (ExpressionRow.Not operand) = eval_jumps operand here _ (λ v. tt)
  expression_jumps here (ExpressionRow.Arithmetic operator left right) = two here left right _ (λ x y. operated here (arith_of operator x y))
  expression_jumps here (ExpressionRow.Logic operator left right) = two here left right _ (λ x y. tt)
  expression_jumps here (ExpressionRow.Sets operator left right) = two here left right _ (λ x y. operated here (sets_of operator x y))
  expression_jumps here (ExpressionRow.Compare order left right) = two here left right _ (λ x y. operated here (comparison order x y))
  expression_jumps here (ExpressionRow.CompareTexts order left right) =
      many_jump left here _ (λ xs. many_jump right here _ (λ ys. operated here (texts_compared order xs ys)))
  expression_jumps here (ExpressionRow.CompareSets order left right) = two here left right _ (λ x y. operated here (sets_compared order x y))
  expression_jumps here (ExpressionRow.ComparePointers equal left right) = two here left right _ (λ x y. operated here (pointers_compared equal x y))
  expression_jumps here (ExpressionRow.In left right) = two here left right _ (λ x y. operated here (in_set x y))
  expression_jumps here (ExpressionRow.Set members) = (refl, λ label b. inr (refl, refl), λ out. tt)
  expression_jumps here (ExpressionRow.Apply routine levels actuals) = call_jumps here routine levels actuals Ret (λ label b. inr (refl, refl)) (λ out. tt)
  expression_jumps here (ExpressionRow.ApplyFormal formal levels actuals) =
      formal_call here formal levels actuals Ret (λ label b. inr (refl, refl)) (λ out. tt)
  expression_jumps here (ExpressionRow.Function f operand least greatest) = eval_jumps operand here _ (λ v. operated here (function_of f least greatest v))
  expression_jumps here ExpressionRow.Eof = after here.base here.line at_end scalar (λ _. tt)
  expression_jumps here ExpressionRow.Eoln = after here.base here.line at_line_end scalar (λ _. tt)

  whole_array_jumps : (row t : ℕ) (here : Here) (go : Dimensions → WholeArray → ActTree)
      → ((d : Dimensions) (w : WholeArray) → JumpTree here.base (go d w)) → JumpTree here.base (whole_array p row t here go)
  whole_array_jumps row t here go k = (
    refl,
    λ label b. inr (refl, refl),
    λ out. on_array here.base _ (λ addr frame. dimensions_jump here.base (dimensions_of p t) _ (λ d.
        after here.base here.line (whole_at d addr frame) (go d) (λ w. k d w))) out,
  )

  valued : (row t : ℕ) (here : Here) (conformant : Bool) → JumpTree here.base (access_value p row t here conformant)
  valued row t here true = whole_array_jumps row t here (λ d w. Ret (Cells w.cells)) (λ d w. tt)
  valued row t here false = locate_jumps row here _ (λ addr. value_jumps here.base here.line addr (type_at p t))

  expression_row : (row : ℕ) (here : Here) (r : Row) → JumpTree here.base (expression_in p row here r)
  expression_row row here (Row.Expression e) = λ _. expression_jumps here e
  expression_row row here (Row.Access a) = valued row (type_accessed a) here (is_conformant p (type_accessed a))
  expression_row row here r = tt

  actual_jumps : (here : Here) (t : Option TypeRow) (go : List Value → ActTree) → ((vs : List Value) → JumpTree here.base (go vs)) → (out : Out)
      → JumpTree here.base (on_actual p here t go out)
  actual_jumps here t go k (Scalar v) = after here.base here.line (tested p t v) _ (λ w. k (w ∷ []))
  actual_jumps here t go k (Cells vs) = k vs
  actual_jumps here t go k (Jump label base) = tt
  actual_jumps here t go k out = tt

  passed_jumps : (here : Here) (nx : ℕ) (passed : Passed) (found : Action (ℕ × ℕ)) → JumpTree here.base (pass_routine here nx passed found)
  passed_jumps here nx passed found = λ _. after here.base here.line found _ (λ x. (refl, λ label b. inr (refl, refl), λ out. tt))

  -- ---- arrays as actuals

  placed_jumps : (access t : ℕ) (specs : List HeldSpec) (here : Here) (conformant : Bool) (go : List Extent → ℕ → ActTree)
      → ((es : List Extent) (addr : ℕ) → JumpTree here.base (go es addr)) → JumpTree here.base (array_placed p access t specs here conformant go)
  placed_jumps access t specs here true go k = (
    refl,
    λ label b. inr (refl, refl),
    λ out. on_array here.base _ (λ addr frame. dimensions_jump here.base (dimensions_of p t) _ (λ d. after here.base here.line (extents_at d.specs frame)
        (λ es. go (es ++ inner_extents p d specs) addr) (λ es. k (es ++ inner_extents p d specs) addr))) out,
  )
  placed_jumps access t specs here false go k =
      locate_jumps access here (λ addr. go (fixed_extents p specs (type_at p t)) addr) (λ addr. k (fixed_extents p specs (type_at p t)) addr)

  copied_jumps : (access t : ℕ) (specs : List HeldSpec) (here : Here) (conformant : Bool) (go : WholeArray → ActTree)
      → ((w : WholeArray) → JumpTree here.base (go w)) → JumpTree here.base (array_copied p access t specs here conformant go)
  copied_jumps access t specs here true go k =
      whole_array_jumps access t here (λ d w. go (record { extents = w.extents ++ inner_extents p d specs; cells = w.cells }))
      (λ d w. k (record { extents = w.extents ++ inner_extents p d specs; cells = w.cells }))
  copied_jumps access t specs here false go k = locate_jumps access here _ (λ addr. size_jumps here.base (type_at p t) _ (λ cells.
      after here.base here.line (read_values [] addr cells) (λ vs. go (record { extents = fixed_extents p specs (type_at p t); cells = vs }))
      (λ vs. k (record { extents = fixed_extents p specs (type_at p t); cells = vs }))))

  placed_row : (row : ℕ) (specs : List HeldSpec) (here : Here) (r : Row) (go : List Extent → ℕ → ActTree)
      → ((es : List Extent) (addr : ℕ) → JumpTree here.base (go es addr)) → JumpTree here.base (placed_in p row specs here r go)
  placed_row row specs here (Row.Access a) go k = placed_jumps row (type_accessed a) specs here (is_conformant p (type_accessed a)) go k
  placed_row row specs here r go k = tt

  copied_row : (row : ℕ) (specs : List HeldSpec) (here : Here) (r : Row) (go : WholeArray → ActTree) → ((w : WholeArray) → JumpTree here.base (go w))
      → JumpTree here.base (whole_in p row specs here r go)
  copied_row row specs here (Row.Access a) go k = copied_jumps row (type_accessed a) specs here (is_conformant p (type_accessed a)) go k
  copied_row row specs here (Row.Expression e) go k = many_jump row here (λ vs. go (text_whole vs)) (λ vs. k (text_whole vs))
  copied_row row specs here r go k = tt

  bounded : (here : Here) (first : Bool) (specs : List HeldSpec) (es : List Extent) (passed : Passed) (go : Passed → ActTree)
      → ((q : Passed) → JumpTree here.base (go q)) → JumpTree here.base (section_bounds here first specs es passed go)
  bounded here true specs es passed go k = after here.base here.line (arrays.bounds_tested es specs) (λ _. go (and_cells passed (bound_values es)))
      (λ _. k (and_cells passed (bound_values es)))
  bounded here false specs es passed go k = k passed

  actual_row : (passed : Passed) (here : Here) (r : Row) → JumpTree here.base (of_actual p passed here r)
  actual_row passed here (Row.Item (ItemRow.Value e of' nx)) = (
    refl,
    λ label b. inr (refl, refl),
    λ out. actual_jumps here (type_at p of') (λ vs. Sub (Pass nx (and_cells passed vs) here) Ret)
        (λ vs. done here.base (Pass nx (and_cells passed vs) here) refl) out,
  )
  actual_row passed here (Row.Item (ItemRow.Place access nx)) =
      locate_jumps access here (λ addr. Sub (Pass nx (and_cells passed (Value.Place addr ∷ [])) here) Ret)
      (λ addr. done here.base (Pass nx (and_cells passed (Value.Place addr ∷ [])) here) refl)
  actual_row passed here (Row.Item (ItemRow.ArrayPlace first access of' nx)) = dimensions_jump here.base (dimensions_of p of') _ (λ d.
      placed_row access d.specs here (row_at p access) _ (λ es addr.
      bounded here first d.specs es passed (λ q. Sub (Pass nx (and_cells q (Value.Place addr ∷ [])) here) Ret)
      (λ q. done here.base (Pass nx (and_cells q (Value.Place addr ∷ [])) here) refl)))
  actual_row passed here (Row.Item (ItemRow.ArrayValue first e of' nx)) = dimensions_jump here.base (dimensions_of p of') _ (λ d.
      copied_row e d.specs here (row_at p e) _ (λ w.
      bounded here first d.specs w.extents passed (λ q. Sub (Pass nx (and_copy q w.cells) here) Ret)
      (λ q. done here.base (Pass nx (and_copy q w.cells) here) refl)))
  actual_row passed here (Row.Item (ItemRow.Routine routine levels nx)) = passed_jumps here nx passed _
  actual_row passed here (Row.Item (ItemRow.RoutineFormal formal levels nx)) =
      formal_jumps here.base (row_at p formal) _ (λ place heading. passed_jumps here nx passed (routine_out p heading levels here.base place))
  actual_row passed here r = tt

  gather_jumps : (here : Here) (nx : ℕ) (r : Result Value OpFault) → JumpTree here.base (gather here nx r)
  gather_jumps here nx r = after here.base here.line (or_fault r) (λ set. Sub (Gather nx set here) Ret) (λ set. done here.base (Gather nx set here) refl)

  member_row : (set : Value) (here : Here) (r : Row) → JumpTree here.base (of_members set here r)
  member_row set here (Row.Item (ItemRow.Member e nx)) = eval_jumps e here _ (λ v. gather_jumps here nx _)
  member_row set here (Row.Item (ItemRow.Members first last nx)) = eval_jumps first here _ (λ v. eval_jumps last here _ (λ w. gather_jumps here nx _))
  member_row set here r = tt

  -- ---- assignments

  put_jumps : (here : Here) (target of' : ℕ) (out : Out) → JumpTree here.base (on_value p here target of' out)
  put_jumps here target of' (Scalar v) = target_jumps target here _ (λ addr.
      ended here (assign_to p (tag_accessed p (row_at p target)) (type_at p of') addr v))
  put_jumps here target of' (Cells vs) = target_jumps target here _ (λ addr. ended here (writes addr vs))
  put_jumps here target of' (Jump label base) = tt
  put_jumps here target of' out = tt

  -- ---- case and for statements

  choose_jumps : (here : Here) (s : Sought) → JumpTree here.base (choose here s)
  choose_jumps here (Some (Some n)) = done here.base (Exec n here) refl
  choose_jumps here (Some None) = tt
  choose_jumps here None = tt

  case_jumps : (here : Here) (choices : ℕ) (v : Value) → JumpTree here.base (chosen_by p here choices v)
  case_jumps here choices (Value.Number i) = choose_jumps here _
  case_jumps here choices v = tt

  undefine_jumps : (here : Here) (place : ℕ) → JumpTree here.base (undefine here place)
  undefine_jumps here place = ended here (write (moved here.base place) Value.Undefined)

  first_jumps : (here : Here) (turns : ℕ) (r : Row) (i j : Value) → JumpTree here.base (first_turn p here turns r i j)
  first_jumps here turns (Row.Statement (StatementRow.Turns direction last place of' body)) (Value.Number i) (Value.Number j) =
      if_tree here.base (has_turn direction i j) _ _ (after here.base here.line (bounds_tested p (type_at p of') i j) (λ _. Sub (Count turns i j here) Ret)
      (λ _. done here.base (Count turns i j here) refl)) (undefine_jumps here place)
  first_jumps here turns (Row.Statement (StatementRow.Turns direction last place of' body)) i j = tt
  first_jumps here turns r i j = tt

  for_jumps : (here : Here) (initial turns : ℕ) (r : Row) → JumpTree here.base (bounds p here initial turns r)
  for_jumps here initial turns (Row.Statement (StatementRow.Turns direction last place of' body)) =
      eval_jumps initial here _ (λ x. eval_jumps last here _ (λ y. first_jumps here turns (row_at p turns) x y))
  for_jumps here initial turns r = tt

  turn_ended : (here : Here) (row : ℕ) (direction : Direction) (place : ℕ) (i last : ℤ) → JumpTree here.base (turn_after row here direction place i last)
  turn_ended here row direction place i last =
      if_tree here.base (int_eq i last) _ _ (undefine_jumps here place) (refl, λ label b. inr (refl, refl), λ out. tt)

  count_row : (here : Here) (row : ℕ) (i last : ℤ) (r : Row) → JumpTree here.base (of_count row here i last r)
  count_row here row i last (Row.Statement (StatementRow.Turns direction last' place of' body)) =
      after here.base here.line (write (moved here.base place) (Value.Number i)) _
      (λ _. and_then here.base (Exec body here) _ refl (turn_ended here row direction place i last))
  count_row here row i last r = tt

  turn_row : (here : Here) (row : ℕ) (r : Row) → JumpTree here.base (of_turn row here r)
  turn_row here row (Row.Statement (StatementRow.While line condition body)) = eval_jumps condition here _ (λ v.
      if_tree here.base (is_true v) _ nothing (and_then here.base (Exec body here) _ refl (done here.base (Turn row here) refl)) tt)
  turn_row here row (Row.Statement (StatementRow.Repeat line statements condition)) =
      and_then here.base (Sequence statements statements here) _ refl (eval_jumps condition here _ (λ v.
      if_tree here.base (is_true v) nothing _ tt (done here.base (Turn row here) refl)))
  turn_row here row r = tt

  -- ---- packing

  array_jumps : (n : ℕ) (r : Row) (go : ℕ → Components → ActTree) → ((cells : ℕ) (a : Components) → JumpTree n (go cells a)) → JumpTree n (with_array p r go)
  array_jumps n (Row.Access a) go k = components_jump n (type_at p (type_accessed a)) _ (λ c. k _ c)
  array_jumps n r go k = tt

  moves_jump : (here : Here) (packing : Bool) (unpacked packed a z : ℕ) (v : Value)
      → JumpTree here.base (moves p here packing unpacked packed a z v (finally here))
  moves_jump here packing unpacked packed a z v =
      array_jumps here.base (row_at p unpacked) _ (λ _ wide. array_jumps here.base (row_at p packed) _ (λ cells close.
      after here.base here.line (first_moved wide close a v) _ (λ at. ended here (if packing then copies at z cells else copies z at cells))))

  pack_jumps : (here : Here) (packing : Bool) (unpacked index packed : ℕ) → JumpTree here.base (pack p here packing unpacked index packed (finally here))
  pack_jumps here true unpacked index packed = locate_jumps unpacked here _ (λ a. locate_jumps packed here _ (λ z. eval_jumps index here _ (λ v.
      moves_jump here true unpacked packed a z v)))
  pack_jumps here false unpacked index packed = locate_jumps packed here _ (λ z. locate_jumps unpacked here _ (λ a. eval_jumps index here _ (λ v.
      moves_jump here false unpacked packed a z v)))

  -- ---- statements

  statement_jumps : (row : ℕ) (here : Here) (s : StatementRow) → JumpTree here.base (of_statement p row here s)
  statement_jumps row here (StatementRow.Assign line target e of') = (refl, λ label b. inr (refl, refl), λ out. put_jumps here target of' out)
  statement_jumps row here (StatementRow.Call line routine levels actuals) =
      call_jumps here routine levels actuals (on_normal nothing) (λ label b. inr (refl, refl)) (λ out. normally here.base nothing tt out)
  statement_jumps row here (StatementRow.If line condition then') =
      eval_jumps condition here _ (λ v. if_tree here.base (is_true v) _ nothing (done here.base (Exec then' here) refl) tt)
  statement_jumps row here (StatementRow.IfElse line condition then' otherwise) = eval_jumps condition here _ (λ v.
      if_tree here.base (is_true v) _ _ (done here.base (Exec then' here) refl) (done here.base (Exec otherwise here) refl))
  statement_jumps row here (StatementRow.Case line selector choices) = eval_jumps selector here _ (λ v. case_jumps here choices v)
  statement_jumps row here (StatementRow.Repeat line statements condition) = done here.base (Turn row here) refl
  statement_jumps row here (StatementRow.While line condition body) = done here.base (Turn row here) refl
  statement_jumps row here (StatementRow.For line initial turns) = for_jumps here initial turns (row_at p turns)
  statement_jumps row here (StatementRow.CallFormal line formal levels actuals) =
      formal_call here formal levels actuals (on_normal nothing) (λ label b. inr (refl, refl)) (λ out. normally here.base nothing tt out)
  statement_jumps row here (StatementRow.Goto line label levels) = after here.base here.line (frame_out levels here.base) _ (λ base. tt)
  statement_jumps row here (StatementRow.With line records' body) = done here.base (Establish records' body here) refl
  statement_jumps row here (StatementRow.Read ends_line line actuals) =
      and_then here.base (Receive actuals here) _ refl (if_tree here.base ends_line _ nothing (done here.base (RestOfLine here) refl) tt)
  statement_jumps row here (StatementRow.Write ends_line line actuals) =
      and_then here.base (Print actuals here) _ refl (if_tree here.base ends_line _ nothing (ended here end_line) tt)
  statement_jumps row here (StatementRow.Page line) = ended here end_page
  statement_jumps row here (StatementRow.Pack packing line unpacked index packed) = pack_jumps here packing unpacked index packed
  statement_jumps row here (StatementRow.New line access of') = size_jumps here.base (type_at p of') _ (λ cells.
      after here.base here.line (made_variable cells of') (point here access) (λ v.
      target_jumps access here (λ addr. finally here (write addr v)) (λ addr. ended here (write addr v))))
  statement_jumps row here (StatementRow.Dispose line e of') = eval_jumps e here _ (λ v. size_jumps here.base (type_at p of') _ (λ cells.
      ended here (dispose cells v)))
  statement_jumps row here s = tt

  begins_jump : (row : ℕ) (here : Here) (s : StatementRow) (o : Option ℕ) → JumpTree here.base (begins p row here s o)
  begins_jump row here s (Some line) = statement_jumps row (record here { line = line }) s
  begins_jump row here s None = tt

  labelled_jumps : (row label : ℕ) (here : Here) (out : Out) → JumpTree here.base (on_labelled row label here out)
  labelled_jumps row label here (Jump goal base) = if_tree here.base ((goal == label) && (base == here.base)) _ _ (done here.base (Exec row here) refl) tt
  labelled_jumps row label here out = tt

  labelled_outward : (row label : ℕ) (here : Here) → Outward here.base (on_labelled row label here)
  labelled_outward row label here goal b = by (goal == label) (b == here.base) refl
    where
      by : (x y : Bool) → (b == here.base) ≡ y → (b ≡ here.base) ⊎ IsJump goal b (if x && y then Sub (Exec row here) Ret else Ret (Jump goal b))
      by x true e = inl (grind (arith, nat_tests))
      by true false e = inr (refl, refl)
      by false false e = inr (refl, refl)

  any_statement : (row : ℕ) (here : Here) (s : StatementRow) → JumpTree here.base (statement p row here s)
  any_statement row here StatementRow.Empty = λ _. tt
  any_statement row here (StatementRow.Compound statements) = λ _. done here.base (Sequence statements statements here) refl
  any_statement row here (StatementRow.Labelled label inner) = if_tree here.base (nat_lt row inner) _ _
      (refl, labelled_outward row label here, labelled_jumps row label here) tt
  any_statement row here s = begins_jump row here s (line_of s)

  statement_row : (row : ℕ) (here : Here) (r : Row) → JumpTree here.base (statement_in p row here r)
  statement_row row here (Row.Statement s) = any_statement row here s
  statement_row row here r = tt

  jumped_jumps : (here : Here) (first label base : ℕ) (s : Sought) → JumpTree here.base (jumped here first label base s)
  jumped_jumps here first label base (Some (Some at)) = done here.base (Sequence first at here) refl
  jumped_jumps here first label base (Some None) = tt
  jumped_jumps here first label base None = tt

  after_statement : (here : Here) (first nx : ℕ) (out : Out) → JumpTree here.base (on_statement p here first nx out)
  after_statement here first nx (Jump label base) = jumped_jumps here first label base _
  after_statement here first nx out = done here.base (Sequence first nx here) refl

  statement_outward : (here : Here) (first nx : ℕ) → Outward here.base (on_statement p here first nx)
  statement_outward here first nx label b = by (b == here.base) refl
    where
      by : (y : Bool) → (b == here.base) ≡ y
          → (b ≡ here.base) ⊎ IsJump label b (jumped here first label b (if y then labelled_in p (length p.rows) first label else Some None))
      by true e = inl (grind (arith, nat_tests))
      by false e = inr (refl, refl)

  sequence_row : (here : Here) (first : ℕ) (r : Row) → JumpTree here.base (of_sequence p here first r)
  sequence_row here first (Row.Item (ItemRow.Element s nx)) = (refl, statement_outward here first nx, λ out. after_statement here first nx out)
  sequence_row here first r = tt

  records_row : (here : Here) (body : ℕ) (r : Row) → JumpTree here.base (of_records here body r)
  records_row here body (Row.Item (ItemRow.Element access nx)) = locate_jumps access here (λ addr. Sub (Establish nx body (inside here addr)) Ret)
      (λ addr. done here.base (Establish nx body (inside here addr)) refl)
  records_row here body r = tt

  -- ---- reading and writing

  into_jumps : (here : Here) (access of' nx : ℕ) (v : Value) → JumpTree here.base (into p here access of' nx v)
  into_jumps here access of' nx v = target_jumps access here _ (λ addr.
      after here.base here.line (assign_to p (tag_accessed p (row_at p access)) (type_at p of') addr v) (λ _. Sub (Receive nx here) Ret)
      (λ _. done here.base (Receive nx here) refl))

  read_row : (here : Here) (access nx : ℕ) (r : Row) → JumpTree here.base (received p here access nx r)
  read_row here access nx (Row.Access a) = host_jumps here.base (type_accessed a) (type_at p (type_accessed a)) _ (λ host.
      if_tree here.base (host == char_type) _ _ (after here.base here.line next_char _ (λ v. into_jumps here access (type_accessed a) nx v))
      (refl, λ label b. inr (refl, refl), λ out. on_one here.base _ (λ v. into_jumps here access (type_accessed a) nx v) out))
  read_row here access nx r = tt

  received_row : (here : Here) (r : Row) → JumpTree here.base (of_received p here r)
  received_row here (Row.Item (ItemRow.Element access nx)) = read_row here access nx (row_at p access)
  received_row here r = tt

  scanned_jumps : (here : Here) (s : Scanned) → JumpTree here.base (on_scanned here s)
  scanned_jumps here (Further scan) = done here.base (Scanning scan here) refl
  scanned_jumps here (Whole v) = tt

  print_jumps : (here : Here) (nx : ℕ) (text : Text) (width : Option Value) → JumpTree here.base (print here nx text width)
  print_jumps here nx text width = after here.base here.line (written text width) _ (λ _. done here.base (Print nx here) refl)

  text_jumps : (n of' : ℕ) (go : Text → ActTree) → ((text : Text) → JumpTree n (go text)) → (out : Out) → JumpTree n (on_text p of' go out)
  text_jumps n of' go k (Scalar v) = host_jumps n of' (type_at p of') _ (λ host. k (scalar_text host v))
  text_jumps n of' go k (Cells vs) = k _
  text_jumps n of' go k (Jump label base) = tt
  text_jumps n of' go k out = tt

  printed_row : (here : Here) (r : Row) → JumpTree here.base (of_printed p here r)
  printed_row here (Row.Item (ItemRow.Written e of' nx)) = (
    refl,
    λ label b. inr (refl, refl),
    λ out. text_jumps here.base of' (λ text. print here nx text None) (λ text. print_jumps here nx text None) out,
  )
  printed_row here (Row.Item (ItemRow.WrittenWide e of' width nx)) = (
    refl,
    λ label b. inr (refl, refl),
    λ out. text_jumps here.base of' (λ text. eval width here (λ w. print here nx text (Some w)))
        (λ text. eval_jumps width here (λ w. print here nx text (Some w)) (λ w. print_jumps here nx text (Some w))) out,
  )
  printed_row here r = tt

  -- ---- routines

  body_jumps : (base : ℕ) (o : Option Routine) → JumpTree base (of_body base o)
  body_jumps base None = tt
  body_jumps base (Some r) = λ _. (refl, λ label b. inr (refl, refl), λ out. tt)

  result_type : (n line addr : ℕ) (t : Option TypeRow) → JumpTree n (result_of_type line addr t)
  result_type n line addr (Some (TypeRow.Pointer domain)) = after n line (pointer_result_at addr) scalar (λ _. tt)
  result_type n line addr t = bounds_jump n t (λ least greatest. doing line (result_read least greatest addr) scalar)
      (λ least greatest. after n line (result_read least greatest addr) scalar (λ _. tt))

  return_jumps : (n base : ℕ) (r : Routine) (o : Option ℕ) → JumpTree n (return_of p base r o)
  return_jumps n base r None = tt
  return_jumps n base r (Some place) = result_type n r.line (moved base place) (type_in_heading p (row_at p r.heading))

  pub whole_jumps : (f base : ℕ) (r : Routine) → JumpTree base (whole p f base r)
  whole_jumps f base r = and_then base (Body f base) _ refl (return_jumps base base r r.result)

  -- ---- each part

  until : (n at : ℕ) (t u : ActTree) → JumpTree n t → JumpTree n u → JumpTree n (until_end at t u)
  until n at t u h k = if_tree n (is_end at) t u h k

  own_jumps : (part : Part) → JumpTree (base_of part) (layer p part)
  own_jumps (Eval row here) = expression_row row here (row_at p row)
  own_jumps (Locate row target here) = access_row row target here (row_at p row)
  own_jumps (Pass at passed here) = until here.base at (Ret (Actuals passed)) _ tt (actual_row passed here (row_at p at))
  own_jumps (Gather at set here) = until here.base at (scalar set) _ tt (member_row set here (row_at p at))
  own_jumps (Establish at body here) = until here.base at _ _ (done here.base (Exec body here) refl) (records_row here body (row_at p at))
  own_jumps (Exec row here) = statement_row row here (row_at p row)
  own_jumps (Sequence first at here) = until here.base at nothing _ tt (sequence_row here first (row_at p at))
  own_jumps (Turn row here) = turn_row here row (row_at p row)
  own_jumps (Count row i last here) = count_row here row i last (row_at p row)
  own_jumps (Receive at here) = until here.base at nothing _ tt (received_row here (row_at p at))
  own_jumps (Scanning scan here) = after here.base here.line (scan_on scan) (on_scanned here) (scanned_jumps here)
  own_jumps (RestOfLine here) = after here.base here.line past_item _ (λ ended.
      if_tree here.base ended nothing _ tt (done here.base (RestOfLine here) refl))
  own_jumps (Print at here) = until here.base at nothing _ tt (printed_row here (row_at p at))
  own_jumps (Body routine base) = body_jumps base (routine_at p routine)

  pub part_jumps : (base : ℕ) (part : Part) → PartAt base part → JumpTree base (layer p part)
  part_jumps base part e = subst (λ n. JumpTree n (layer p part)) e (own_jumps part)
