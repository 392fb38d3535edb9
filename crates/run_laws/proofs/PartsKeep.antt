-- What each part of a program does puts no other pointers into cells than those that it got or read, and those to what
-- it made.
use Rattle.std.proofs.Common.{if◌then◌else◌, ◌&&◌, ◌++◌, ◌+◌, ◌==◌, ◌∷◌, ◌≤◌, [], ℕ, ℤ, Bool, List, None, Option, Result, Some, arith, false, length, nat_lt}
use Rattle.std.proofs.Common.{slice_get, slice_set, suc, true, zero}
use Rattle.std.specs.Ordering.{int_eq}
use Rattle.cell_value.specs.{Arithmetic.arith_of, declared.faults.OpFault.OpFault, declared.values.Value.Value}
use Rattle.core_program.specs.{Acts.Answer, Choices.Sought, Conformant.inner_extents, Conformant.whole_at, Expressions.whole_array, Expressions.whole_in}
use Rattle.core_program.specs.{Expressions.with_frame_size, Layer.layer, Layer.of_body, State.moved, Statements.statement_in, Statements.turn_after}
use Rattle.core_program.specs.{Statements.undefine, Values.with_sign_of, Variants.assign_to, Variants.field_at, Variants.tag_accessed}
use Rattle.core_program.specs.Accesses.{access_in, address, bounded_before, component_found, eval, eval_cells, is_conformant, is_end, locate, locate_before}
use Rattle.core_program.specs.Accesses.{locate_field, locate_target, of_access, on_address, on_bounded, on_cells, on_scalar, scalar, type_accessed, until_end}
use Rattle.core_program.specs.Accesses.{value_at, with_bounds, with_components, with_dimensions, with_formal, with_record, with_size}
use Rattle.core_program.specs.Actions.{Action, Fail, Give, NoMeaning, Perform}
use Rattle.core_program.specs.Cells.{cell_out, component, frame_out, ordinal_at, read_values, reference_out, routine_out, set_at, write, writes}
use Rattle.core_program.specs.Conformant.{Dimensions, WholeArray, bound_values, conformant_component_at, dimensions_of, extents_at, fixed_extents}
use Rattle.core_program.specs.Expressions.{access_value, array_copied, array_placed, call, call_formal, enter, expression_in, gather, of_actual, of_expression}
use Rattle.core_program.specs.Expressions.{of_members, on_actual, on_actuals, operation_result, pass_routine, placed_in, section_bounds, string_in, text_whole}
use Rattle.core_program.specs.Heap.{dispose, made_variable, pointed_at, pointer_at, pointer_result_at, pointers_compared}
use Rattle.core_program.specs.Input.{at_end, at_line_end, next_char, past_item, scan_on}
use Rattle.core_program.specs.Output.{Text, char_type, end_line, end_page, scalar_text, written}
use Rattle.core_program.specs.Packing.{copies, first_moved, moves, pack, with_array}
use Rattle.core_program.specs.Passed.{ArrayCopy, Entering, Passed, and_cells, and_copy, args_at, copied, placed}
use Rattle.core_program.specs.ProgramRows.{ProgramRows, routine_at, row_at, type_at}
use Rattle.core_program.specs.Run.{result_of_type, result_read, return_of, type_in_heading, whole}
use Rattle.core_program.specs.Statements.{begins, bounds, bounds_tested, choose, chosen_by, finally, first_turn, has_turn, jumped, line_of, nothing, of_count}
use Rattle.core_program.specs.Statements.{of_records, of_sequence, of_statement, of_turn, on_labelled, on_normal, on_statement, on_value, point, statement}
use Rattle.core_program.specs.Transfers.{into, of_printed, of_received, on_scanned, on_text, print, received, with_host}
use Rattle.core_program.specs.Tree.{ActTree, Actuals, Address, Body, Bounded, Cells, Count, Do, Enter, Establish, Eval, Exec, Gather, Halt, Here, Jump, Line}
use Rattle.core_program.specs.Tree.{Locate, Meaningless, Out, Part, Pass, Print, Receive, RestOfLine, Ret, Scalar, Scanning, Sequence, Sub, Turn, doing}
use Rattle.core_program.specs.Values.{comparison, function_of, in_set, is_true, or_fault, sets_compared, sets_of, string_of, tested, texts_compared}
use Rattle.core_program.specs.declared.{program.Routine.Routine, scan.Scanned.Scanned, scan.Scanned.TheVariants.Further, scan.Scanned.TheVariants.Whole}
use Rattle.core_program.specs.declared.components.{Components.Components, Extent.Extent, HeldSpec.HeldSpec}
use Rattle.core_program.specs.declared.rows.{AccessRow.AccessRow, Direction.Direction, ExpressionRow.ExpressionRow, ItemRow.ItemRow, NameRow.NameRow, Row.Row}
use Rattle.core_program.specs.declared.rows.{StatementRow.StatementRow, TypeRow.TypeRow}
use Rattle.run_laws.proofs.ActionsKeep.{ActLed, AllLed, AnswerLed, GivesLed, IsKept, Kept, OkLed, ScannedLed, WholeLed, all_both, all_on, arith_led}
use Rattle.run_laws.proofs.ActionsKeep.{assign_kept, bounded_kept, cell_kept, comparison_led, component_kept, copies_kept, dispose_kept, end_led, end_line_kept}
use Rattle.run_laws.proofs.ActionsKeep.{end_page_kept, extents_kept, fault_led, field_kept, frame_kept, function_led, in_set_led, led_on, line_end_led}
use Rattle.run_laws.proofs.ActionsKeep.{located_kept, made_led, members_led, moved_kept, next, next_char_led, on_led, ordinal_led, past_kept, pointed_kept}
use Rattle.run_laws.proofs.ActionsKeep.{pointer_led, pointer_result_led, pointers_led, reads_led, reference_kept, result_led, routine_kept, scan_led}
use Rattle.run_laws.proofs.ActionsKeep.{section_kept, set_led, sets_compared_led, sets_led, sign_led, tested_led, texts_led, truth_led, whole_led, write_kept}
use Rattle.run_laws.proofs.ActionsKeep.{writes_kept, written_kept}
use Rattle.run_laws.specs.PointerLaws.{LeadsToMade}

-- ---- what is passed

abbrev pub CopiesLed : ℕ → List ArrayCopy → Type 0
CopiesLed n [] = Unit {0}
CopiesLed n (c ∷ cs) = AllLed n c.cells × CopiesLed n cs

abbrev pub PassedLed : ℕ → Passed → Type 0
PassedLed n q = AllLed n q.cells × CopiesLed n q.copies

copies_on : (n m : ℕ) → n ≤ m → (cs : List ArrayCopy) → CopiesLed n cs → CopiesLed m cs
copies_on n m l [] h = tt
copies_on n m l (c ∷ cs) h = (all_on n m l c.cells h.0, copies_on n m l cs h.1)

copies_both : (n : ℕ) (cs ds : List ArrayCopy) → CopiesLed n cs → CopiesLed n ds → CopiesLed n (cs ++ ds)
copies_both n [] ds h k = k
copies_both n (c ∷ cs) ds h k = (h.0, copies_both n cs ds h.1 k)

passed_on : (n m : ℕ) → n ≤ m → (q : Passed) → PassedLed n q → PassedLed m q
passed_on n m l q h = (all_on n m l q.cells h.0, copies_on n m l q.copies h.1)

more_cells : (n : ℕ) (q : Passed) (vs : List Value) → PassedLed n q → AllLed n vs → PassedLed n (and_cells q vs)
more_cells n q vs h k = (all_both n q.cells vs h.0 k, h.1)

one_copy : (n : ℕ) (q : Passed) (vs : List Value) → PassedLed n q → AllLed n vs → PassedLed n (and_copy q vs)
one_copy n q vs h k =
    (all_both n q.cells (Value.Undefined ∷ []) h.0 (tt, tt), copies_both n q.copies (record { at = length q.cells; cells = vs } ∷ []) h.1 (k, tt))

bounds_led : (n : ℕ) (es : List Extent) → AllLed n (bound_values es)
bounds_led n [] = tt
bounds_led n (e ∷ es) = (tt, (tt, bounds_led n es))

address_put : (n : ℕ) (vs : List Value) (k address : ℕ) → AllLed n vs → AllLed n (slice_set vs k (Value.Place address))
address_put n [] k address h = tt
address_put n (v ∷ vs) zero address h = (tt, h.1)
address_put n (v ∷ vs) (suc k) address h = (h.0, address_put n vs k address h.1)

placed_led : (n address : ℕ) (cs : List ArrayCopy) (vs : List Value) → AllLed n vs → AllLed n (placed address cs vs)
placed_led n address [] vs h = h
placed_led n address (c ∷ cs) vs h =
    placed_led n (address + length c.cells) cs (slice_set vs c.at (Value.Place address)) (address_put n vs c.at address h)

copied_led : (n : ℕ) (cs : List ArrayCopy) → CopiesLed n cs → AllLed n (copied cs)
copied_led n [] h = tt
copied_led n (c ∷ cs) h = all_both n c.cells (copied cs) h.0 (copied_led n cs h.1)

abbrev pub EnteringLed : ℕ → Entering → Type 0
EnteringLed n e = LeadsToMade n e.link × PassedLed n e.passed

-- the arguments that a call gets of these, wherever its frame begins
pub args_led : (n : ℕ) (e : Entering) (base : ℕ) → EnteringLed n e → AllLed n (args_at e base)
args_led n e base h = (
  h.0,
  all_both n (placed (base + e.cells) e.passed.copies e.passed.cells) (copied e.passed.copies)
      (placed_led n (base + e.cells) e.passed.copies e.passed.cells h.1.0) (copied_led n e.passed.copies h.1.1),
)

-- ---- trees

abbrev pub OutLed : ℕ → Out → Type 0
OutLed n (Scalar v) = LeadsToMade n v
OutLed n (Cells vs) = AllLed n vs
OutLed n (Actuals q) = PassedLed n q
OutLed n out = Unit {0}

abbrev pub PartLed : ℕ → Part → Type 0
PartLed n (Pass at passed here) = PassedLed n passed
PartLed n (Gather at set here) = LeadsToMade n set
PartLed n part = Unit {0}

abbrev pub KeptTree : ℕ → ActTree → Type 0
KeptTree n (Ret out) = OutLed n out
KeptTree n (Halt line why) = Unit {0}
KeptTree n Meaningless = Unit {0}
KeptTree n (Do line act next) = ActLed n act × ((m : ℕ) → n ≤ m → (x : Answer act) → AnswerLed m act x → KeptTree m (next x))
KeptTree n (Sub part next) = PartLed n part × ((m : ℕ) → n ≤ m → (out : Out) → OutLed m out → KeptTree m (next out))
KeptTree n (Enter e next) = EnteringLed n e × ((m : ℕ) → n ≤ m → (out : Out) → OutLed m out → KeptTree m (next out))
KeptTree n (Line line next) = KeptTree n next

doing_kept : {A : Type 0} (Q : ℕ → A → Type 0) (n line : ℕ) (a : Action A) (go : A → ActTree) → Kept Q n a
    → ((m : ℕ) → n ≤ m → (x : A) → Q m x → KeptTree m (go x)) → KeptTree n (doing line a go)
doing_kept Q n line (Give x) go h k = k n (omega arith) x h
doing_kept Q n line (Fail why) go h k = tt
doing_kept Q n line NoMeaning go h k = tt
doing_kept Q n line (Perform act next) go h k =
    (h.0, λ m l x o. doing_kept Q m line (next x) go (h.1 m l x o) (λ q i y p. k q (omega (arith, l, i)) y p))

after : {A : Type 0} (n line : ℕ) (a : Action A) (go : A → ActTree) → IsKept n a → ((m : ℕ) → n ≤ m → (x : A) → KeptTree m (go x))
    → KeptTree n (doing line a go)
after n line a go h k = doing_kept (λ _ _. Unit {0}) n line a go h (λ m l x _. k m l x)

after_led : (n line : ℕ) (a : Action Value) (go : Value → ActTree) → GivesLed n a → ((m : ℕ) → n ≤ m → (v : Value) → LeadsToMade m v → KeptTree m (go v))
    → KeptTree n (doing line a go)
after_led n line a go h k = doing_kept LeadsToMade n line a go h k

if_tree : (n : ℕ) (b : Bool) (t u : ActTree) → KeptTree n t → KeptTree n u → KeptTree n (if b then t else u)
if_tree n true t u h k = h
if_tree n false t u h k = k

-- a part after which nothing is done
done : (n : ℕ) (part : Part) → PartLed n part → KeptTree n (Sub part Ret)
done n part h = (h, λ m l out o. o)

-- ---- how parts go on

on_one : (n : ℕ) (go : Value → ActTree) → ((v : Value) → LeadsToMade n v → KeptTree n (go v)) → (out : Out) → OutLed n out → KeptTree n (on_scalar go out)
on_one n go k (Scalar v) o = k v o
on_one n go k (Jump label base) o = tt
on_one n go k out o = tt

on_many : (n : ℕ) (go : List Value → ActTree) → ((vs : List Value) → AllLed n vs → KeptTree n (go vs)) → (out : Out) → OutLed n out
    → KeptTree n (on_cells go out)
on_many n go k (Cells vs) o = k vs o
on_many n go k (Jump label base) o = tt
on_many n go k out o = tt

on_variable : (n : ℕ) (go : ℕ → ActTree) → ((addr : ℕ) → KeptTree n (go addr)) → (out : Out) → KeptTree n (on_address go out)
on_variable n go k (Address addr) = k addr
on_variable n go k (Bounded addr frame) = k addr
on_variable n go k (Jump label base) = tt
on_variable n go k out = tt

on_array : (n : ℕ) (go : ℕ → ℕ → ActTree) → ((addr frame : ℕ) → KeptTree n (go addr frame)) → (out : Out) → KeptTree n (on_bounded go out)
on_array n go k (Bounded addr frame) = k addr frame
on_array n go k (Jump label base) = tt
on_array n go k out = tt

on_passed : (n : ℕ) (go : Passed → ActTree) → ((q : Passed) → PassedLed n q → KeptTree n (go q)) → (out : Out) → OutLed n out
    → KeptTree n (on_actuals go out)
on_passed n go k (Actuals q) o = k q o
on_passed n go k (Jump label base) o = tt
on_passed n go k out o = tt

normally : (n : ℕ) (t : ActTree) → KeptTree n t → (out : Out) → KeptTree n (on_normal t out)
normally n t h (Jump label base) = tt
normally n t h out = h

eval_kept : (n row : ℕ) (here : Here) (go : Value → ActTree) → ((m : ℕ) → n ≤ m → (v : Value) → LeadsToMade m v → KeptTree m (go v))
    → KeptTree n (eval row here go)
eval_kept n row here go k = (tt, λ m l out o. on_one m go (λ v h. k m l v h) out o)

many_kept : (n row : ℕ) (here : Here) (go : List Value → ActTree) → ((m : ℕ) → n ≤ m → (vs : List Value) → KeptTree m (go vs))
    → KeptTree n (eval_cells row here go)
many_kept n row here go k = (tt, λ m l out o. on_many m go (λ vs h. k m l vs) out o)

locate_kept : (n row : ℕ) (here : Here) (go : ℕ → ActTree) → ((m : ℕ) → n ≤ m → (addr : ℕ) → KeptTree m (go addr)) → KeptTree n (locate row here go)
locate_kept n row here go k = (tt, λ m l out o. on_variable m go (λ addr. k m l addr) out)

target_kept : (n row : ℕ) (here : Here) (go : ℕ → ActTree) → ((m : ℕ) → n ≤ m → (addr : ℕ) → KeptTree m (go addr)) → KeptTree n (locate_target row here go)
target_kept n row here go k = (tt, λ m l out o. on_variable m go (λ addr. k m l addr) out)

bounds_kept : (n : ℕ) (t : Option TypeRow) (go : ℤ → ℤ → ActTree) → ((least greatest : ℤ) → KeptTree n (go least greatest)) → KeptTree n (with_bounds t go)
bounds_kept n (Some (TypeRow.Ordinal least greatest)) go k = k least greatest
bounds_kept n (Some (TypeRow.Subrange host least greatest)) go k = k least greatest
bounds_kept n t go k = tt

size_kept : (n : ℕ) (t : Option TypeRow) (go : ℕ → ActTree) → ((k : ℕ) → KeptTree n (go k)) → KeptTree n (with_size t go)
size_kept n None go k = tt
size_kept n (Some t) go k = k _

dimensions_kept : (n : ℕ) (o : Option Dimensions) (go : Dimensions → ActTree) → ((d : Dimensions) → KeptTree n (go d)) → KeptTree n (with_dimensions o go)
dimensions_kept n None go k = tt
dimensions_kept n (Some d) go k = k d

record_kept : (n : ℕ) (o : Option ℕ) (go : ℕ → ActTree) → ((addr : ℕ) → KeptTree n (go addr)) → KeptTree n (with_record o go)
record_kept n None go k = tt
record_kept n (Some addr) go k = k addr

formal_kept : (n : ℕ) (r : Row) (go : ℕ → ℕ → ActTree) → ((place heading : ℕ) → KeptTree n (go place heading)) → KeptTree n (with_formal r go)
formal_kept n (Row.Name (NameRow.RoutineFormal place level heading)) go k = k place heading
formal_kept n r go k = tt

host_kept : (n of' : ℕ) (t : Option TypeRow) (go : ℕ → ActTree) → ((host : ℕ) → KeptTree n (go host)) → KeptTree n (with_host of' t go)
host_kept n of' (Some (TypeRow.Ordinal least greatest)) go k = k of'
host_kept n of' (Some (TypeRow.Subrange host least greatest)) go k = k host
host_kept n of' t go k = tt

frame_size_kept : (n : ℕ) (o : Option Routine) (go : ℕ → ActTree) → ((cells : ℕ) → KeptTree n (go cells)) → KeptTree n (with_frame_size o go)
frame_size_kept n None go k = tt
frame_size_kept n (Some r) go k = k r.cells

ended : (n : ℕ) (here : Here) (a : Action (Unit {0})) → IsKept n a → KeptTree n (finally here a)
ended n here a h = after n here.line a _ h (λ m l _. tt)

operated : (n : ℕ) (here : Here) (r : Result Value OpFault) → OkLed n r → KeptTree n (operation_result here r)
operated n here r h = after_led n here.line (or_fault r) scalar (fault_led n r h) (λ m l v o. o)

string_led : (n : ℕ) (text : List ℕ) → AllLed n (string_of text)
string_led n [] = tt
string_led n (c ∷ cs) = (tt, string_led n cs)

module _ (p : ProgramRows) where
  components_kept : (n : ℕ) (t : Option TypeRow) (go : Components → ActTree) → ((a : Components) → KeptTree n (go a)) → KeptTree n (with_components p t go)
  components_kept n (Some (TypeRow.Array packed index component cells)) go k = bounds_kept n (type_at p index) _ (λ least greatest.
      size_kept n (type_at p component) _ (λ size. k _))
  components_kept n t go k = tt

  -- ---- accesses

  before_kept : (n row inner : ℕ) (target : Bool) (here : Here) (go : ℕ → ActTree) → ((m : ℕ) → (addr : ℕ) → KeptTree m (go addr))
      → KeptTree n (locate_before row inner target here go)
  before_kept n row inner target here go k = if_tree n (nat_lt inner row) _ _ (tt, λ m l out o. on_variable m go (λ addr. k m addr) out) tt

  array_before : (n row inner : ℕ) (target : Bool) (here : Here) (go : ℕ → ℕ → ActTree) → ((m : ℕ) → (addr frame : ℕ) → KeptTree m (go addr frame))
      → KeptTree n (bounded_before row inner target here go)
  array_before n row inner target here go k =
      if_tree n (nat_lt inner row) _ _ (tt, λ m l out o. on_array m go (λ addr frame. k m addr frame) out) tt

  component_there : (n : ℕ) (conformant : Bool) (frame addr : ℕ) → KeptTree n (component_found conformant frame addr)
  component_there n true frame addr = tt
  component_there n false frame addr = tt

  located : (n : ℕ) (target : Bool) (line addr field : ℕ) → KeptTree n (locate_field p target line addr field)
  located n target line addr field =
      after n line (field_at p target addr (row_at p field)) address (field_kept p n target addr (row_at p field)) (λ m l _. tt)

  access_kept : (n row : ℕ) (target : Bool) (here : Here) (a : AccessRow) → KeptTree n (of_access p row target here a)
  access_kept n row target here (AccessRow.Variable place levels of') =
      (tt, λ m l _ _. after m here.line (cell_out levels here.base place) address (cell_kept m levels here.base place) (λ q i _. tt))
  access_kept n row target here (AccessRow.Reference place levels of') =
      (tt, λ m l _ _. after m here.line (reference_out levels here.base place) address (reference_kept m levels here.base place) (λ q i _. tt))
  access_kept n row target here (AccessRow.Conformant place levels of') =
      (tt, λ m l _ _. after m here.line _ _ (located_kept m levels here.base place) (λ q i _. tt))
  access_kept n row target here (AccessRow.Component inner index array of') = array_before n row inner target here _ (λ m addr frame. (
    tt,
    λ q i _ _. eval_kept q index here _ (λ r j v o. dimensions_kept r (dimensions_of p array) _ (λ d.
        after r here.line (conformant_component_at d addr frame v) (component_found (is_conformant p of') frame) (bounded_kept r d addr frame v)
        (λ s t at. component_there s (is_conformant p of') frame at))),
  ))
  access_kept n row target here (AccessRow.Index inner index array of') = before_kept n row inner target here _ (λ m addr. (
    tt,
    λ q i _ _. eval_kept q index here _ (λ r j v o. components_kept r (type_at p array) _ (λ a.
        after r here.line (component a addr v) address (component_kept r a addr v) (λ s t _. tt))),
  ))
  access_kept n row target here (AccessRow.Field inner field of') =
      before_kept n row inner target here _ (λ m addr. (tt, λ q i _ _. located q target here.line addr field))
  access_kept n row target here (AccessRow.Within record' field of') =
      (tt, λ m l _ _. record_kept m (slice_get here.records record') _ (λ addr. located m target here.line addr field))
  access_kept n row target here (AccessRow.Dereference inner of') = before_kept n row inner target here _ (λ m addr.
      (tt, λ q i _ _. after q here.line (pointed_at addr) address (pointed_kept q addr) (λ r j _. tt)))

  access_row : (n row : ℕ) (target : Bool) (here : Here) (r : Row) → KeptTree n (access_in p row target here r)
  access_row n row target here (Row.Access a) = access_kept n row target here a
  access_row n row target here r = tt

  value_kept : (n line addr : ℕ) (t : Option TypeRow) → KeptTree n (value_at p line addr t)
  value_kept n line addr (Some (TypeRow.Ordinal least greatest)) =
      after_led n line (ordinal_at least greatest addr) scalar (ordinal_led n least greatest addr) (λ m l v o. o)
  value_kept n line addr (Some (TypeRow.Subrange host least greatest)) =
      after_led n line (ordinal_at least greatest addr) scalar (ordinal_led n least greatest addr) (λ m l v o. o)
  value_kept n line addr (Some (TypeRow.Set packed base)) = bounds_kept n (type_at p base) _ (λ least greatest.
      after_led n line (set_at least greatest addr) scalar (set_led n least greatest addr) (λ m l v o. o))
  value_kept n line addr (Some (TypeRow.Pointer domain)) = after_led n line (pointer_at addr) scalar (pointer_led n addr) (λ m l v o. o)
  value_kept n line addr (Some (TypeRow.Array packed index component cells)) =
      doing_kept AllLed n line (read_values [] addr cells) (λ vs. Ret (Cells vs)) (reads_led n [] addr cells tt) (λ m l vs o. o)
  value_kept n line addr (Some (TypeRow.Record packed region cells variants)) =
      doing_kept AllLed n line (read_values [] addr cells) (λ vs. Ret (Cells vs)) (reads_led n [] addr cells tt) (λ m l vs o. o)
  value_kept n line addr (Some (TypeRow.Conformant packed index component place)) = tt
  value_kept n line addr None = tt

  -- ---- calls

  call_kept : (n : ℕ) (here : Here) (routine levels actuals : ℕ) (go : Out → ActTree) → ((m : ℕ) (out : Out) → OutLed m out → KeptTree m (go out))
      → KeptTree n (call p here routine levels actuals go)
  call_kept n here routine levels actuals go k = (
    (tt, tt),
    λ m l out o. on_passed m _ (λ passed h. frame_size_kept m (routine_at p routine) _ (λ cells.
        after m here.line (frame_out levels here.base) _ (frame_kept m levels here.base)
        (λ q i frame. ((tt, passed_on m q i passed h), λ r j out o. k r out o)))) out o,
  )

  enter_kept : (n routine frame : ℕ) (passed : Passed) (go : Out → ActTree) → PassedLed n passed
      → ((m : ℕ) (out : Out) → OutLed m out → KeptTree m (go out)) → KeptTree n (enter p routine frame passed go)
  enter_kept n routine frame passed go h k = frame_size_kept n (routine_at p routine) _ (λ cells. ((tt, h), λ m l out o. k m out o))

  formal_call : (n : ℕ) (here : Here) (formal levels actuals : ℕ) (go : Out → ActTree) → ((m : ℕ) (out : Out) → OutLed m out → KeptTree m (go out))
      → KeptTree n (call_formal p here formal levels actuals go)
  formal_call n here formal levels actuals go k = (
    (tt, tt),
    λ m l out o. on_passed m _ (λ passed h. formal_kept m (row_at p formal) _ (λ place heading.
        after m here.line (routine_out p heading levels here.base place) _ (routine_kept m p heading levels here.base place)
        (λ q i x. enter_kept q x.0 x.1 passed go (passed_on m q i passed h) k))) out o,
  )

  -- ---- expressions

  string_kept : (n : ℕ) (o : Option (List ℕ)) → KeptTree n (string_in o)
  string_kept n None = tt
  string_kept n (Some text) = string_led n text

  two : (n : ℕ) (here : Here) (left right : ℕ) (go : Value → Value → ActTree) → ((m : ℕ) (x y : Value) → KeptTree m (go x y))
      → KeptTree n (eval left here (λ x. eval right here (λ y. go x y)))
  two n here left right go k = eval_kept n left here _ (λ m l x o. eval_kept m right here _ (λ q i y p. k q x y))

  expression_kept : (n : ℕ) (here : Here) (e : ExpressionRow) → KeptTree n (of_expression p here e)
  expression_kept n here (ExpressionRow.Constant i) = tt
  expression_kept n here (ExpressionRow.Text token) = string_kept n (slice_get p.texts token)
  expression_kept n here ExpressionRow.Nil = tt
  expression_kept n here (ExpressionRow.Sign minus operand) =
      eval_kept n operand here _ (λ m l v o. operated m here (with_sign_of minus v) (sign_led m minus v))
  expression_kept n here (ExpressionRow.Not operand) = eval_kept n operand here _ (λ m l v o. truth_led m _)
  expression_kept n here (ExpressionRow.Arithmetic operator left right) =
      two n here left right _ (λ m x y. operated m here (arith_of operator x y) (arith_led m operator x y))
  expression_kept n here (ExpressionRow.Logic operator left right) = two n here left right _ (λ m x y. truth_led m _)
  expression_kept n here (ExpressionRow.Sets operator left right) =
      two n here left right _ (λ m x y. operated m here (sets_of operator x y) (sets_led m operator x y))
  expression_kept n here (ExpressionRow.Compare order left right) =
      two n here left right _ (λ m x y. operated m here (comparison order x y) (comparison_led m order x y))
  expression_kept n here (ExpressionRow.CompareTexts order left right) = many_kept n left here _ (λ m l xs. many_kept m right here _ (λ q i ys.
      operated q here (texts_compared order xs ys) (texts_led q order xs ys)))
  expression_kept n here (ExpressionRow.CompareSets order left right) =
      two n here left right _ (λ m x y. operated m here (sets_compared order x y) (sets_compared_led m order x y))
  expression_kept n here (ExpressionRow.ComparePointers equal left right) =
      two n here left right _ (λ m x y. operated m here (pointers_compared equal x y) (pointers_led m equal x y))
  expression_kept n here (ExpressionRow.In left right) = two n here left right _ (λ m x y. operated m here (in_set x y) (in_set_led m x y))
  expression_kept n here (ExpressionRow.Set members) = (tt, λ m l out o. o)
  expression_kept n here (ExpressionRow.Apply routine levels actuals) = call_kept n here routine levels actuals Ret (λ m out o. o)
  expression_kept n here (ExpressionRow.ApplyFormal formal levels actuals) = formal_call n here formal levels actuals Ret (λ m out o. o)
  expression_kept n here (ExpressionRow.Function f operand least greatest) =
      eval_kept n operand here _ (λ m l v o. operated m here (function_of f least greatest v) (function_led m f least greatest v))
  expression_kept n here ExpressionRow.Eof = after_led n here.line at_end scalar (end_led n) (λ m l v o. o)
  expression_kept n here ExpressionRow.Eoln = after_led n here.line at_line_end scalar (line_end_led n) (λ m l v o. o)

  whole_array_kept : (n row t : ℕ) (here : Here) (go : Dimensions → WholeArray → ActTree)
      → ((m : ℕ) → n ≤ m → (d : Dimensions) (w : WholeArray) → AllLed m w.cells → KeptTree m (go d w)) → KeptTree n (whole_array p row t here go)
  whole_array_kept n row t here go k = (
    tt,
    λ m l out o. on_array m _ (λ addr frame. dimensions_kept m (dimensions_of p t) _ (λ d. doing_kept WholeLed m here.line (whole_at d addr frame) (go d)
        (whole_led m d addr frame) (λ q i w h. k q (omega (arith, l, i)) d w h))) out,
  )

  valued : (n row t : ℕ) (here : Here) (conformant : Bool) → KeptTree n (access_value p row t here conformant)
  valued n row t here true = whole_array_kept n row t here (λ d w. Ret (Cells w.cells)) (λ m l d w h. h)
  valued n row t here false = locate_kept n row here _ (λ m l addr. value_kept m here.line addr (type_at p t))

  expression_row : (n row : ℕ) (here : Here) (r : Row) → KeptTree n (expression_in p row here r)
  expression_row n row here (Row.Expression e) = (tt, λ m l _ _. expression_kept m here e)
  expression_row n row here (Row.Access a) = valued n row (type_accessed a) here (is_conformant p (type_accessed a))
  expression_row n row here r = tt

  actual_kept : (n : ℕ) (here : Here) (t : Option TypeRow) (go : List Value → ActTree)
      → ((m : ℕ) → n ≤ m → (vs : List Value) → AllLed m vs → KeptTree m (go vs))
      → (out : Out) → OutLed n out → KeptTree n (on_actual p here t go out)
  actual_kept n here t go k (Scalar v) o = after_led n here.line (tested p t v) _ (tested_led p n t v o) (λ m l w h. k m l (w ∷ []) (h, tt))
  actual_kept n here t go k (Cells vs) o = k n (omega arith) vs o
  actual_kept n here t go k (Jump label base) o = tt
  actual_kept n here t go k out o = tt

  passed_kept : (n : ℕ) (here : Here) (nx : ℕ) (passed : Passed) (found : Action (ℕ × ℕ)) → PassedLed n passed
      → ((m : ℕ) → IsKept m found) → KeptTree n (pass_routine here nx passed found)
  passed_kept n here nx passed found h k = (
    tt,
    λ m l _ _. after m here.line found _ (k m) (λ q i x.
        (more_cells q passed (Value.Routine x.0 x.1 ∷ []) (passed_on n q (omega (arith, l, i)) passed h) (tt, tt), λ r j out o. o)),
  )

  -- ---- arrays as actuals

  placed_kept : (n access t : ℕ) (specs : List HeldSpec) (here : Here) (conformant : Bool) (go : List Extent → ℕ → ActTree)
      → ((m : ℕ) → n ≤ m → (es : List Extent) (addr : ℕ) → KeptTree m (go es addr)) → KeptTree n (array_placed p access t specs here conformant go)
  placed_kept n access t specs here true go k = (
    tt,
    λ m l out o. on_array m _ (λ addr frame. dimensions_kept m (dimensions_of p t) _ (λ d. after m here.line (extents_at d.specs frame)
        (λ es. go (es ++ inner_extents p d specs) addr) (extents_kept m d.specs frame)
        (λ q i es. k q (omega (arith, l, i)) (es ++ inner_extents p d specs) addr))) out,
  )
  placed_kept n access t specs here false go k =
      locate_kept n access here (λ addr. go (fixed_extents p specs (type_at p t)) addr) (λ m l addr. k m l (fixed_extents p specs (type_at p t)) addr)

  copied_kept : (n access t : ℕ) (specs : List HeldSpec) (here : Here) (conformant : Bool) (go : WholeArray → ActTree)
      → ((m : ℕ) → n ≤ m → (w : WholeArray) → AllLed m w.cells → KeptTree m (go w)) → KeptTree n (array_copied p access t specs here conformant go)
  copied_kept n access t specs here true go k =
      whole_array_kept n access t here (λ d w. go (record { extents = w.extents ++ inner_extents p d specs; cells = w.cells }))
      (λ m l d w h. k m l (record { extents = w.extents ++ inner_extents p d specs; cells = w.cells }) h)
  copied_kept n access t specs here false go k = locate_kept n access here _ (λ m l addr. size_kept m (type_at p t) _ (λ cells.
      doing_kept AllLed m here.line (read_values [] addr cells) (λ vs. go (record { extents = fixed_extents p specs (type_at p t); cells = vs }))
      (reads_led m [] addr cells tt) (λ q i vs h. k q (omega (arith, l, i)) (record { extents = fixed_extents p specs (type_at p t); cells = vs }) h)))

  placed_row : (n row : ℕ) (specs : List HeldSpec) (here : Here) (r : Row) (go : List Extent → ℕ → ActTree)
      → ((m : ℕ) → n ≤ m → (es : List Extent) (addr : ℕ) → KeptTree m (go es addr)) → KeptTree n (placed_in p row specs here r go)
  placed_row n row specs here (Row.Access a) go k = placed_kept n row (type_accessed a) specs here (is_conformant p (type_accessed a)) go k
  placed_row n row specs here r go k = tt

  copied_row : (n row : ℕ) (specs : List HeldSpec) (here : Here) (r : Row) (go : WholeArray → ActTree)
      → ((m : ℕ) → n ≤ m → (w : WholeArray) → AllLed m w.cells → KeptTree m (go w)) → KeptTree n (whole_in p row specs here r go)
  copied_row n row specs here (Row.Access a) go k = copied_kept n row (type_accessed a) specs here (is_conformant p (type_accessed a)) go k
  copied_row n row specs here (Row.Expression e) go k =
      (tt, λ m l out o. on_many m (λ vs. go (text_whole vs)) (λ vs h. k m l (text_whole vs) h) out o)
  copied_row n row specs here r go k = tt

  bounded : (n : ℕ) (here : Here) (first : Bool) (specs : List HeldSpec) (es : List Extent) (passed : Passed) (go : Passed → ActTree) → PassedLed n passed
      → ((m : ℕ) → n ≤ m → (q : Passed) → PassedLed m q → KeptTree m (go q)) → KeptTree n (section_bounds here first specs es passed go)
  bounded n here true specs es passed go h k = after n here.line _ (λ _. go (and_cells passed (bound_values es))) (section_kept n es specs)
      (λ m l _. k m l (and_cells passed (bound_values es)) (more_cells m passed (bound_values es) (passed_on n m l passed h) (bounds_led m es)))
  bounded n here false specs es passed go h k = k n (omega arith) passed h

  actual_row : (n : ℕ) (passed : Passed) (here : Here) (r : Row) → PassedLed n passed → KeptTree n (of_actual p passed here r)
  actual_row n passed here (Row.Item (ItemRow.Value e of' nx)) h = (
    tt,
    λ m l out o. actual_kept m here (type_at p of') (λ vs. Sub (Pass nx (and_cells passed vs) here) Ret) (λ q i vs k.
        (more_cells q passed vs (passed_on n q (omega (arith, l, i)) passed h) k, λ r j out o. o)) out o,
  )
  actual_row n passed here (Row.Item (ItemRow.Place access nx)) h =
      locate_kept n access here (λ addr. Sub (Pass nx (and_cells passed (Value.Place addr ∷ [])) here) Ret)
      (λ m l addr. (more_cells m passed (Value.Place addr ∷ []) (passed_on n m l passed h) (tt, tt), λ q i out o. o))
  actual_row n passed here (Row.Item (ItemRow.ArrayPlace first access of' nx)) h = dimensions_kept n (dimensions_of p of') _ (λ d.
      placed_row n access d.specs here (row_at p access) _ (λ m l es addr.
      bounded m here first d.specs es passed (λ q. Sub (Pass nx (and_cells q (Value.Place addr ∷ [])) here) Ret) (passed_on n m l passed h)
      (λ i j q k. (more_cells i q (Value.Place addr ∷ []) k (tt, tt), λ r s out o. o))))
  actual_row n passed here (Row.Item (ItemRow.ArrayValue first e of' nx)) h = dimensions_kept n (dimensions_of p of') _ (λ d.
      copied_row n e d.specs here (row_at p e) _ (λ m l w o.
      bounded m here first d.specs w.extents passed (λ q. Sub (Pass nx (and_copy q w.cells) here) Ret) (passed_on n m l passed h)
      (λ i j q k. (one_copy i q w.cells k (all_on m i j w.cells o), λ r s out o. o))))
  actual_row n passed here (Row.Item (ItemRow.Routine routine levels nx)) h = passed_kept n here nx passed _ h
      (λ m. next m (frame_out levels here.base) _ (frame_kept m levels here.base) (λ q i _. tt))
  actual_row n passed here (Row.Item (ItemRow.RoutineFormal formal levels nx)) h = formal_kept n (row_at p formal) _ (λ place heading.
      passed_kept n here nx passed (routine_out p heading levels here.base place) h (λ m. routine_kept m p heading levels here.base place))
  actual_row n passed here r h = tt

  gather_kept : (n : ℕ) (here : Here) (nx : ℕ) (r : Result Value OpFault) → OkLed n r → KeptTree n (gather here nx r)
  gather_kept n here nx r h = after_led n here.line (or_fault r) (λ set. Sub (Gather nx set here) Ret) (fault_led n r h)
      (λ m l set o. (o, λ q i out p. p))

  member_row : (n : ℕ) (set : Value) (here : Here) (r : Row) → KeptTree n (of_members set here r)
  member_row n set here (Row.Item (ItemRow.Member e nx)) = eval_kept n e here _ (λ m l v o. gather_kept m here nx _ (members_led m set v v))
  member_row n set here (Row.Item (ItemRow.Members first last nx)) =
      eval_kept n first here _ (λ m l v o. eval_kept m last here _ (λ q i w p. gather_kept q here nx _ (members_led q set v w)))
  member_row n set here r = tt

  -- ---- assignments

  put_kept : (n : ℕ) (here : Here) (target of' : ℕ) (out : Out) → OutLed n out → KeptTree n (on_value p here target of' out)
  put_kept n here target of' (Scalar v) o = target_kept n target here
      (λ addr. finally here (assign_to p (tag_accessed p (row_at p target)) (type_at p of') addr v)) (λ m l addr.
      ended m here _ (assign_kept p m (tag_accessed p (row_at p target)) (type_at p of') addr v (led_on n m l v o)))
  put_kept n here target of' (Cells vs) o = target_kept n target here (λ addr. finally here (writes addr vs))
      (λ m l addr. ended m here (writes addr vs) (writes_kept m addr vs (all_on n m l vs o)))
  put_kept n here target of' (Jump label base) o = tt
  put_kept n here target of' out o = tt

  -- ---- case and for statements

  choose_kept : (n : ℕ) (here : Here) (s : Sought) → KeptTree n (choose here s)
  choose_kept n here (Some (Some k)) = done n (Exec k here) tt
  choose_kept n here (Some None) = tt
  choose_kept n here None = tt

  case_kept : (n : ℕ) (here : Here) (choices : ℕ) (v : Value) → KeptTree n (chosen_by p here choices v)
  case_kept n here choices (Value.Number i) = choose_kept n here _
  case_kept n here choices v = tt

  undefine_kept : (n : ℕ) (here : Here) (place : ℕ) → KeptTree n (undefine here place)
  undefine_kept n here place = ended n here (write (moved here.base place) Value.Undefined) (write_kept n (moved here.base place) Value.Undefined tt)

  first_kept : (n : ℕ) (here : Here) (turns : ℕ) (r : Row) (i j : Value) → KeptTree n (first_turn p here turns r i j)
  first_kept n here turns (Row.Statement (StatementRow.Turns direction last place of' body)) (Value.Number i) (Value.Number j) =
      if_tree n (has_turn direction i j) _ _ (after_led n here.line (bounds_tested p (type_at p of') i j) (λ _. Sub (Count turns i j here) Ret)
      (on_led LeadsToMade n (tested p (type_at p of') (Value.Number i)) (λ _. tested p (type_at p of') (Value.Number j))
      (tested_led p n (type_at p of') (Value.Number i) tt) (λ m l w o. tested_led p m (type_at p of') (Value.Number j) tt))
      (λ m l w o. done m (Count turns i j here) tt)) (undefine_kept n here place)
  first_kept n here turns (Row.Statement (StatementRow.Turns direction last place of' body)) i j = tt
  first_kept n here turns r i j = tt

  for_kept : (n : ℕ) (here : Here) (initial turns : ℕ) (r : Row) → KeptTree n (bounds p here initial turns r)
  for_kept n here initial turns (Row.Statement (StatementRow.Turns direction last place of' body)) =
      eval_kept n initial here _ (λ m l x o. eval_kept m last here _ (λ q i y p. first_kept q here turns _ x y))
  for_kept n here initial turns r = tt

  turn_ended : (n : ℕ) (here : Here) (row : ℕ) (direction : Direction) (place : ℕ) (i last : ℤ) → KeptTree n (turn_after row here direction place i last)
  turn_ended n here row direction place i last = if_tree n (int_eq i last) _ _ (undefine_kept n here place) (tt, λ m l out o. o)

  count_row : (n : ℕ) (here : Here) (row : ℕ) (i last : ℤ) (r : Row) → KeptTree n (of_count row here i last r)
  count_row n here row i last (Row.Statement (StatementRow.Turns direction last' place of' body)) =
      after n here.line (write (moved here.base place) (Value.Number i)) _ (write_kept n (moved here.base place) (Value.Number i) tt)
      (λ m l _. (tt, λ q j out o. normally q _ (turn_ended q here row direction place i last) out))
  count_row n here row i last r = tt

  turn_row : (n : ℕ) (here : Here) (row : ℕ) (r : Row) → KeptTree n (of_turn row here r)
  turn_row n here row (Row.Statement (StatementRow.While line condition body)) = eval_kept n condition here _ (λ m l v o.
      if_tree m (is_true v) _ nothing (tt, λ q i out p. normally q _ (done q (Turn row here) tt) out) tt)
  turn_row n here row (Row.Statement (StatementRow.Repeat line statements condition)) = (
    tt,
    λ m l out o. normally m _ (eval_kept m condition here _ (λ q i v p. if_tree q (is_true v) nothing _ tt (done q (Turn row here) tt))) out,
  )
  turn_row n here row r = tt

  -- ---- packing

  array_kept : (n : ℕ) (r : Row) (go : ℕ → Components → ActTree) → ((cells : ℕ) (a : Components) → KeptTree n (go cells a)) → KeptTree n (with_array p r go)
  array_kept n (Row.Access a) go k = components_kept n (type_at p (type_accessed a)) _ (λ c. k _ c)
  array_kept n r go k = tt

  copies_made : (n : ℕ) (here : Here) (packing : Bool) (from to cells : ℕ)
      → KeptTree n (finally here (if packing then copies from to cells else copies to from cells))
  copies_made n here true from to cells = ended n here (copies from to cells) (copies_kept n from to cells)
  copies_made n here false from to cells = ended n here (copies to from cells) (copies_kept n to from cells)

  moves_kept : (n : ℕ) (here : Here) (packing : Bool) (unpacked packed a z : ℕ) (v : Value)
      → KeptTree n (moves p here packing unpacked packed a z v (finally here))
  moves_kept n here packing unpacked packed a z v = array_kept n (row_at p unpacked) _ (λ _ wide. array_kept n (row_at p packed) _ (λ cells close.
      after n here.line (first_moved wide close a v) _ (moved_kept n wide close a v) (λ m l at. copies_made m here packing at z cells)))

  pack_kept : (n : ℕ) (here : Here) (packing : Bool) (unpacked index packed : ℕ) → KeptTree n (pack p here packing unpacked index packed (finally here))
  pack_kept n here true unpacked index packed = locate_kept n unpacked here _ (λ m l a. locate_kept m packed here _ (λ q i z. eval_kept q index here _
      (λ r j v o. moves_kept r here true unpacked packed a z v)))
  pack_kept n here false unpacked index packed = locate_kept n packed here _ (λ m l z. locate_kept m unpacked here _ (λ q i a. eval_kept q index here _
      (λ r j v o. moves_kept r here false unpacked packed a z v)))

  -- ---- statements

  statement_kept : (n row : ℕ) (here : Here) (s : StatementRow) → KeptTree n (of_statement p row here s)
  statement_kept n row here (StatementRow.Assign line target e of') = (tt, λ m l out o. put_kept m here target of' out o)
  statement_kept n row here (StatementRow.Call line routine levels actuals) = call_kept n here routine levels actuals _ (λ m out o. normally m nothing tt out)
  statement_kept n row here (StatementRow.If line condition then') =
      eval_kept n condition here _ (λ m l v o. if_tree m (is_true v) _ nothing (done m (Exec then' here) tt) tt)
  statement_kept n row here (StatementRow.IfElse line condition then' otherwise) =
      eval_kept n condition here _ (λ m l v o. if_tree m (is_true v) _ _ (done m (Exec then' here) tt) (done m (Exec otherwise here) tt))
  statement_kept n row here (StatementRow.Case line selector choices) = eval_kept n selector here _ (λ m l v o. case_kept m here choices v)
  statement_kept n row here (StatementRow.Repeat line statements condition) = done n (Turn row here) tt
  statement_kept n row here (StatementRow.While line condition body) = done n (Turn row here) tt
  statement_kept n row here (StatementRow.For line initial turns) = for_kept n here initial turns (row_at p turns)
  statement_kept n row here (StatementRow.CallFormal line formal levels actuals) =
      formal_call n here formal levels actuals _ (λ m out o. normally m nothing tt out)
  statement_kept n row here (StatementRow.Goto line label levels) =
      after n here.line (frame_out levels here.base) _ (frame_kept n levels here.base) (λ m l base. tt)
  statement_kept n row here (StatementRow.With line records' body) = done n (Establish records' body here) tt
  statement_kept n row here (StatementRow.Read ends_line line actuals) =
      (tt, λ m l out o. normally m _ (if_tree m ends_line _ nothing (done m (RestOfLine here) tt) tt) out)
  statement_kept n row here (StatementRow.Write ends_line line actuals) =
      (tt, λ m l out o. normally m _ (if_tree m ends_line _ nothing (ended m here end_line (end_line_kept m)) tt) out)
  statement_kept n row here (StatementRow.Page line) = ended n here end_page (end_page_kept n)
  statement_kept n row here (StatementRow.Pack packing line unpacked index packed) = pack_kept n here packing unpacked index packed
  statement_kept n row here (StatementRow.New line access of') = size_kept n (type_at p of') _ (λ cells.
      after_led n here.line (made_variable cells of') (point here access) (made_led n cells of') (λ m l v o.
      target_kept m access here (λ addr. finally here (write addr v)) (λ q i addr. ended q here (write addr v) (write_kept q addr v (led_on m q i v o)))))
  statement_kept n row here (StatementRow.Dispose line e of') = eval_kept n e here _ (λ m l v o. size_kept m (type_at p of') _ (λ cells.
      ended m here (dispose cells v) (dispose_kept m cells v o)))
  statement_kept n row here s = tt

  begins_kept : (n row : ℕ) (here : Here) (s : StatementRow) (o : Option ℕ) → KeptTree n (begins p row here s o)
  begins_kept n row here s (Some line) = statement_kept n row (record here { line = line }) s
  begins_kept n row here s None = tt

  labelled_kept : (n row label : ℕ) (here : Here) (out : Out) → KeptTree n (on_labelled row label here out)
  labelled_kept n row label here (Jump goal base) = if_tree n ((goal == label) && (base == here.base)) _ _ (done n (Exec row here) tt) tt
  labelled_kept n row label here out = tt

  any_statement : (n row : ℕ) (here : Here) (s : StatementRow) → KeptTree n (statement p row here s)
  any_statement n row here StatementRow.Empty = (tt, λ m l _ _. tt)
  any_statement n row here (StatementRow.Compound statements) = (tt, λ m l _ _. done m (Sequence statements statements here) tt)
  any_statement n row here (StatementRow.Labelled label inner) =
      if_tree n (nat_lt row inner) _ _ (tt, λ m l out o. labelled_kept m row label here out) tt
  any_statement n row here s = begins_kept n row here s (line_of s)

  statement_row : (n row : ℕ) (here : Here) (r : Row) → KeptTree n (statement_in p row here r)
  statement_row n row here (Row.Statement s) = any_statement n row here s
  statement_row n row here r = tt

  jumped_kept : (n : ℕ) (here : Here) (first label base : ℕ) (s : Sought) → KeptTree n (jumped here first label base s)
  jumped_kept n here first label base (Some (Some at)) = done n (Sequence first at here) tt
  jumped_kept n here first label base (Some None) = tt
  jumped_kept n here first label base None = tt

  after_statement : (n : ℕ) (here : Here) (first nx : ℕ) (out : Out) → KeptTree n (on_statement p here first nx out)
  after_statement n here first nx (Jump label base) = jumped_kept n here first label base _
  after_statement n here first nx out = done n (Sequence first nx here) tt

  sequence_row : (n : ℕ) (here : Here) (first : ℕ) (r : Row) → KeptTree n (of_sequence p here first r)
  sequence_row n here first (Row.Item (ItemRow.Element s nx)) = (tt, λ m l out o. after_statement m here first nx out)
  sequence_row n here first r = tt

  records_row : (n : ℕ) (here : Here) (body : ℕ) (r : Row) → KeptTree n (of_records here body r)
  records_row n here body (Row.Item (ItemRow.Element access nx)) = locate_kept n access here _ (λ m l addr. (tt, λ q i out o. o))
  records_row n here body r = tt

  -- ---- reading and writing

  into_kept : (n : ℕ) (here : Here) (access of' nx : ℕ) (v : Value) → LeadsToMade n v → KeptTree n (into p here access of' nx v)
  into_kept n here access of' nx v h = target_kept n access here _ (λ m l addr.
      after m here.line (assign_to p (tag_accessed p (row_at p access)) (type_at p of') addr v) (λ _. Sub (Receive nx here) Ret)
      (assign_kept p m (tag_accessed p (row_at p access)) (type_at p of') addr v (led_on n m l v h)) (λ q i _. done q (Receive nx here) tt))

  read_row : (n : ℕ) (here : Here) (access nx : ℕ) (r : Row) → KeptTree n (received p here access nx r)
  read_row n here access nx (Row.Access a) = host_kept n (type_accessed a) (type_at p (type_accessed a)) _ (λ host. if_tree n (host == char_type) _ _
      (after_led n here.line next_char _ (next_char_led n) (λ m l v o. into_kept m here access (type_accessed a) nx v o))
      (tt, λ m l out o. on_one m _ (λ v h. into_kept m here access (type_accessed a) nx v h) out o))
  read_row n here access nx r = tt

  received_row : (n : ℕ) (here : Here) (r : Row) → KeptTree n (of_received p here r)
  received_row n here (Row.Item (ItemRow.Element access nx)) = read_row n here access nx (row_at p access)
  received_row n here r = tt

  scanned_kept : (n : ℕ) (here : Here) (s : Scanned) → ScannedLed n s → KeptTree n (on_scanned here s)
  scanned_kept n here (Further scan) h = done n (Scanning scan here) tt
  scanned_kept n here (Whole v) h = h

  print_kept : (n : ℕ) (here : Here) (nx : ℕ) (text : Text) (width : Option Value) → KeptTree n (print here nx text width)
  print_kept n here nx text width = after n here.line (written text width) _ (written_kept n text width) (λ m l _. done m (Print nx here) tt)

  text_kept : (n of' : ℕ) (go : Text → ActTree) → ((text : Text) → KeptTree n (go text)) → (out : Out) → KeptTree n (on_text p of' go out)
  text_kept n of' go k (Scalar v) = host_kept n of' (type_at p of') _ (λ host. k (scalar_text host v))
  text_kept n of' go k (Cells vs) = k _
  text_kept n of' go k (Jump label base) = tt
  text_kept n of' go k out = tt

  printed_row : (n : ℕ) (here : Here) (r : Row) → KeptTree n (of_printed p here r)
  printed_row n here (Row.Item (ItemRow.Written e of' nx)) =
      (tt, λ m l out o. text_kept m of' (λ text. print here nx text None) (λ text. print_kept m here nx text None) out)
  printed_row n here (Row.Item (ItemRow.WrittenWide e of' width nx)) = (
    tt,
    λ m l out o. text_kept m of' (λ text. eval width here (λ w. print here nx text (Some w)))
        (λ text. eval_kept m width here (λ w. print here nx text (Some w)) (λ q i w p. print_kept q here nx text (Some w))) out,
  )
  printed_row n here r = tt

  -- ---- routines

  body_kept : (n base : ℕ) (o : Option Routine) → KeptTree n (of_body base o)
  body_kept n base None = tt
  body_kept n base (Some r) = (tt, λ m l _ _. (tt, λ q i out o. o))

  result_type : (n line addr : ℕ) (t : Option TypeRow) → KeptTree n (result_of_type line addr t)
  result_type n line addr (Some (TypeRow.Pointer domain)) =
      after_led n line (pointer_result_at addr) scalar (pointer_result_led n addr) (λ m l v o. o)
  result_type n line addr t = bounds_kept n t (λ least greatest. doing line (result_read least greatest addr) scalar)
      (λ least greatest. after_led n line (result_read least greatest addr) scalar (result_led n least greatest addr) (λ m l v o. o))

  return_kept : (n base : ℕ) (r : Routine) (o : Option ℕ) → KeptTree n (return_of p base r o)
  return_kept n base r None = tt
  return_kept n base r (Some place) = result_type n r.line (moved base place) (type_in_heading p (row_at p r.heading))

  pub whole_kept : (n f base : ℕ) (r : Routine) → KeptTree n (whole p f base r)
  whole_kept n f base r = (tt, λ m l out o. normally m (return_of p base r r.result) (return_kept m base r r.result) out)

  -- ---- each part

  until : (n at : ℕ) (t u : ActTree) → KeptTree n t → KeptTree n u → KeptTree n (until_end at t u)
  until n at t u h k = if_tree n (is_end at) t u h k

  pub part_kept : (n : ℕ) (part : Part) → PartLed n part → KeptTree n (layer p part)
  part_kept n (Eval row here) h = expression_row n row here (row_at p row)
  part_kept n (Locate row target here) h = access_row n row target here (row_at p row)
  part_kept n (Pass at passed here) h = until n at (Ret (Actuals passed)) _ h (actual_row n passed here (row_at p at) h)
  part_kept n (Gather at set here) h = until n at (scalar set) _ h (member_row n set here (row_at p at))
  part_kept n (Establish at body here) h = until n at _ _ (done n (Exec body here) tt) (records_row n here body (row_at p at))
  part_kept n (Exec row here) h = statement_row n row here (row_at p row)
  part_kept n (Sequence first at here) h = until n at nothing _ tt (sequence_row n here first (row_at p at))
  part_kept n (Turn row here) h = turn_row n here row (row_at p row)
  part_kept n (Count row i last here) h = count_row n here row i last (row_at p row)
  part_kept n (Receive at here) h = until n at nothing _ tt (received_row n here (row_at p at))
  part_kept n (Scanning scan here) h = doing_kept ScannedLed n here.line (scan_on scan) (on_scanned here) (scan_led n scan) (λ m l s o. scanned_kept m here s o)
  part_kept n (RestOfLine here) h = after n here.line past_item _ (past_kept n) (λ m l ended. if_tree m ended nothing _ tt (done m (RestOfLine here) tt))
  part_kept n (Print at here) h = until n at nothing _ tt (printed_row n here (row_at p at))
  part_kept n (Body routine base) h = body_kept n base (routine_at p routine)
