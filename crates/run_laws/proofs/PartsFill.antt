-- What each part of a program does, where the tables are laid out: it passes what the parameters of routines take.
use Rattle.std.proofs.Common.{if◌then◌else◌, ◌&&◌, ◌++◌, ◌+◌, ◌==◌, ◌∙◌, ◌∷◌, ◌≡◌, ◌≤◌, [], ℕ, ℤ, Bool, List, None, Option, Result, Some, ap, arith, false}
use Rattle.std.proofs.Common.{length, length-append, min, nat_lt, pos, refl, slice_get, subst, suc, sym, true, unwrap_or, zero}
use Rattle.std.{proofs.lemmas.Bool.Decides.nat_tests, proofs.lemmas.List.length-map, specs.Ordering.int_eq}
use Rattle.cell_value.specs.{Arithmetic.arith_of, Effects.heap_end, declared.faults.OpFault.OpFault, declared.values.Value.Value, declared.ways_out.Kind.Kind}
use Rattle.core_program.proofs.OutcomesCompose.{none_some, some_same}
use Rattle.core_program.specs.{Acts.Answer, Acts.Fault, Cells.routine_out, Cells.set_at, Cells.write, Cells.writes, Choices.Sought, Conformant.inner_extents}
use Rattle.core_program.specs.{Conformant.whole_at, Headings.heading_in, Headings.may_stand_for, Layer.layer, Layer.of_body, State.moved, State.stack_end}
use Rattle.core_program.specs.Accesses.{access_in, address, bounded_before, cells_at, component_found, eval, eval_cells, is_conformant, is_end, locate}
use Rattle.core_program.specs.Accesses.{locate_before, locate_field, locate_target, of_access, on_address, on_bounded, on_cells, on_scalar, scalar}
use Rattle.core_program.specs.Accesses.{type_accessed, until_end, value_at, with_bounds, with_components, with_dimensions, with_formal, with_record, with_size}
use Rattle.core_program.specs.Actions.{◌>>=◌, Action, Fail, Give, NoMeaning, Perform}
use Rattle.core_program.specs.Cells.{cell_out, component, frame_out, ordinal_at, read_value, read_values, reference_out, referred, routine_held, routine_meant}
use Rattle.core_program.specs.Conformant.{Dimensions, WholeArray, bound_values, conformant_component_at, dimensions_of, extents_at, fixed_extents}
use Rattle.core_program.specs.Conformant as arrays
use Rattle.core_program.specs.Expressions.{access_value, array_copied, array_placed, call, call_formal, enter, entering, expression_in, gather, of_actual}
use Rattle.core_program.specs.Expressions.{of_expression, of_members, on_actual, on_actuals, operation_result, pass_routine, placed_in, section_bounds}
use Rattle.core_program.specs.Expressions.{string_in, text_whole, whole_array, whole_in, with_frame_size}
use Rattle.core_program.specs.Heap.{dispose, made_variable, pointed_at, pointer_at, pointer_result_at, pointers_compared}
use Rattle.core_program.specs.Input.{at_end, at_line_end, next_char, past_item, scan_on}
use Rattle.core_program.specs.Output.{Text, char_type, end_line, end_page, scalar_text, written}
use Rattle.core_program.specs.Packing.{copies, first_moved, moves, pack, with_array}
use Rattle.core_program.specs.Passed.{Entering, Passed, and_cells, and_copy, args_at, cells_entered, nothing_passed}
use Rattle.core_program.specs.ProgramRows.{ProgramRows, cells_in, routine_at, row_at, size_of, type_at}
use Rattle.core_program.specs.Run.{block, result_of_type, result_read, return_of, type_in_heading, whole}
use Rattle.core_program.specs.Statements.{begins, bounds, bounds_tested, choose, chosen_by, finally, first_turn, has_turn, inside, jumped, labelled_in, line_of}
use Rattle.core_program.specs.Statements.{nothing, of_count, of_records, of_sequence, of_statement, of_turn, on_labelled, on_normal, on_statement, on_value}
use Rattle.core_program.specs.Statements.{point, statement, statement_in, turn_after, undefine}
use Rattle.core_program.specs.Transfers.{into, of_printed, of_received, on_scanned, on_text, print, received, with_host}
use Rattle.core_program.specs.Tree.{ActTree, Actuals, Address, Body, Bounded, Cells, Count, Do, Enter, Establish, Eval, Exec, Gather, Halt, Here, Jump, Line}
use Rattle.core_program.specs.Tree.{Locate, Meaningless, Out, Part, Pass, Print, Receive, RestOfLine, Ret, Scalar, Scanning, Sequence, Sub, Turn, doing}
use Rattle.core_program.specs.Values.{comparison, function_of, in_set, is_true, or_fault, sets_compared, sets_of, tested, texts_compared, with_sign_of}
use Rattle.core_program.specs.Variants.{assign_to, field_at, tag_accessed}
use Rattle.core_program.specs.declared.{program.Routine.Routine, scan.Scanned.Scanned, scan.Scanned.TheVariants.Further, scan.Scanned.TheVariants.Whole}
use Rattle.core_program.specs.declared.components.{Components.Components, Extent.Extent, HeldSpec.HeldSpec}
use Rattle.core_program.specs.declared.rows.{AccessRow.AccessRow, Direction.Direction, ExpressionRow.ExpressionRow, ItemRow.ItemRow, NameRow.NameRow, Row.Row}
use Rattle.core_program.specs.declared.rows.{StatementRow.StatementRow, TypeRow.TypeRow}
use Rattle.run_laws.proofs.PassedFill.{Grown, Sketched, block_entered, by_address, by_array, by_bounds, by_copy, by_routine, by_value, entered, not_grown}
use Rattle.run_laws.proofs.PiecesMatch.{stands_for}
use Rattle.run_laws.specs.{LaidOut.extents_held, LaidOut.extents_of, LaidOut.unless_conformant, ParameterLaws.FillsParameters}
use Rattle.run_laws.specs.LaidOut.{ActualPasses, CallPasses, FitsSchema, FormalTakes, LaidOut, RoutineTakes, cells_accessed, cells_given, extents_given}
use Rattle.run_laws.specs.ParameterPieces.{OfRoutine, OfValue, ParameterPiece, heading_pieces, specs_in, specs_of}

-- ---- what a part is to give

pub data Want : Type 0 where
  Anything : Want
  -- no value of many cells
  NoCells : Want
  -- a value of this many cells, if that is known
  Valued : (cells : Option ℕ) → Want
  -- what was passed before, and what these pieces take
  PassedOn : (qs : List ParameterPiece) (old : Passed) → Want

abbrev pub Wants : Want → Out → Type 0
Wants NoCells (Cells vs) = ⊥
Wants (Valued cells) (Scalar v) = (n : ℕ) → cells ≡ Some n → n ≡ 1
Wants (Valued cells) (Cells vs) = (n : ℕ) → cells ≡ Some n → length vs ≡ n
Wants (PassedOn qs old) (Actuals new) = Grown qs old new
Wants w out = Unit {0}

-- a value of one cell
abbrev One : Want
One = Valued (Some 1)

-- a jump is always welcome
jumping : (w : Want) (label base : ℕ) → Wants w (Jump label base)
jumping Anything label base = tt
jumping NoCells label base = tt
jumping (Valued cells) label base = tt
jumping (PassedOn qs old) label base = tt

-- one cell is given
alone : (n : ℕ) → Some 1 ≡ Some n → n ≡ 1
alone n e = sym (some_same e)

-- what has no many cells may stand where one is wanted
one_cell : (out : Out) → Wants NoCells out → Wants (Valued (Some 1)) out
one_cell (Cells vs) h = absurd h
one_cell (Scalar v) h = alone
one_cell out h = tt

-- ---- answers of actions

abbrev pub Gives : {A : Type 0} → (A → Type 0) → Action A → Type 0
Gives R (Give x) = R x
Gives R (Fail why) = Unit {0}
Gives R NoMeaning = Unit {0}
Gives R (Perform act next) = (x : Answer act) → Gives R (next x)

whatever : {A : Type 0} (a : Action A) → Gives (λ _. Unit {0}) a
whatever (Give x) = tt
whatever (Fail why) = tt
whatever NoMeaning = tt
whatever (Perform act next) = λ x. whatever (next x)

then_gives : {A B : Type 0} (S : B → Type 0) (a : Action A) (f : A → Action B) → ((x : A) → Gives S (f x)) → Gives S (a >>= f)
then_gives S (Give x) f k = k x
then_gives S (Fail why) f k = tt
then_gives S NoMeaning f k = tt
then_gives S (Perform act next) f k = λ x. then_gives S (next x) f k

on_gives : {A B : Type 0} (R : A → Type 0) (S : B → Type 0) (a : Action A) (f : A → Action B) → Gives R a → ((x : A) → R x → Gives S (f x))
    → Gives S (a >>= f)
on_gives R S (Give x) f h k = k x h
on_gives R S (Fail why) f h k = tt
on_gives R S NoMeaning f h k = tt
on_gives R S (Perform act next) f h k = λ x. on_gives R S (next x) f (h x) k

-- so many cells are read
reads_give : (vs : List Value) (addr n : ℕ) → Gives (λ ws. length ws ≡ length vs + n) (read_values vs addr n)
reads_give vs addr zero = omega arith
reads_give vs addr (suc n) = then_gives (λ ws. length ws ≡ length vs + suc n) (read_value addr) (λ v. read_values (vs ++ v ∷ []) (moved addr 1) n)
    (λ v. subst (λ k. Gives (λ ws. length ws ≡ k) (read_values (vs ++ v ∷ []) (moved addr 1) n))
    (let e = length-append vs (v ∷ []) in omega (arith, e)) (reads_give (vs ++ v ∷ []) (moved addr 1) n))

-- each spec has its extent
held_many : (ss : List HeldSpec) (vs : List Value) (es : List Extent) → arrays.extents_held ss vs ≡ Some es → length es ≡ length ss
held_many [] vs es e = ap length (sym (some_same e))
held_many (s ∷ ss) [] es e = absurd (none_some e)
held_many (s ∷ ss) (v ∷ []) es e = absurd (none_some e)
held_many (s ∷ ss) (v ∷ w ∷ vs) es e = by (arrays.extent_held s v w) (arrays.extents_held ss vs) (held_many ss vs) e
  where
    by : (x : Option Extent) (o : Option (List Extent)) → ((fs : List Extent) → o ≡ Some fs → length fs ≡ length ss) → arrays.and_extent x o ≡ Some es
        → length es ≡ suc (length ss)
    by None None k e = absurd (none_some e)
    by None (Some fs) k e = absurd (none_some e)
    by (Some x) None k e = absurd (none_some e)
    by (Some x) (Some fs) k e = ap length (sym (some_same e)) ∙ ap suc (k fs refl)

extents_give : (ss : List HeldSpec) (frame : ℕ) → Gives (λ es. length es ≡ length ss) (extents_at ss frame)
extents_give ss frame = then_gives (λ es. length es ≡ length ss) (arrays.read_each [] (arrays.bound_cells frame ss))
    (λ vs. arrays.or_undefined (arrays.extents_held ss vs))
    (λ vs. by (arrays.extents_held ss vs) (held_many ss vs))
  where
    by : (o : Option (List Extent)) → ((es : List Extent) → o ≡ Some es → length es ≡ length ss)
        → Gives (λ es. length es ≡ length ss) (arrays.or_undefined o)
    by None k = tt
    by (Some es) k = k es refl

whole_gives : (d : Dimensions) (addr frame : ℕ) → Gives (λ (w : WholeArray). length w.extents ≡ length d.specs) (whole_at d addr frame)
whole_gives d addr frame = on_gives (λ es. length es ≡ length d.specs) (λ (w : WholeArray). length w.extents ≡ length d.specs) (extents_at d.specs frame)
    (λ es. arrays.whole_over es d.size addr) (extents_give d.specs frame) (λ es h.
    then_gives (λ (w : WholeArray). length w.extents ≡ length d.specs) (read_values [] addr (min (arrays.cells_over es d.size) (heap_end + 1)))
    (λ vs. Give (record { extents = es; cells = vs })) (λ vs. h))

abbrev StandsFor : ProgramRows → (heading : ℕ) → ℕ × ℕ → Type 0
StandsFor p heading x = may_stand_for p heading x.0 ≡ true

meant_gives : (p : ProgramRows) (heading : ℕ) (v : Value) → Gives (StandsFor p heading) (routine_meant p heading v)
meant_gives p heading (Value.Routine routine frame) = by (may_stand_for p heading routine) refl
  where
    by : (b : Bool) → may_stand_for p heading routine ≡ b
        → Gives (StandsFor p heading) (if b then Give (routine, frame) else Fail (Fault Kind.Undefined))
    by true e = e
    by false e = tt
meant_gives p heading v = tt

routine_gives : (p : ProgramRows) (heading levels base place : ℕ) → Gives (StandsFor p heading) (routine_out p heading levels base place)
routine_gives p heading levels base place = then_gives (StandsFor p heading) (cell_out levels base place) (routine_held p heading)
    (λ addr. then_gives (StandsFor p heading) (read_value addr) (routine_meant p heading) (meant_gives p heading))

-- ---- trees

module _ (p : ProgramRows) (L : LaidOut p) where
  abbrev pub want_of : Part → Want
  want_of (Eval row here) = Valued (cells_given p (row_at p row))
  want_of (Pass at passed here) = PassedOn (L.passes at) passed
  want_of (Gather at set here) = NoCells
  want_of part = Anything

  -- a routine that is entered has its parameters filled, wherever its frame begins
  abbrev pub Enters : Entering → Type 0
  Enters e = (r : Routine) → routine_at p e.routine ≡ Some r → (base : ℕ) → base + cells_entered e ≤ stack_end → FillsParameters p r base (args_at e base)

  abbrev pub Meets : Want → ActTree → Type 0
  Meets w (Ret out) = Wants w out
  Meets w (Halt line why) = Unit {0}
  Meets w Meaningless = Unit {0}
  Meets w (Do line act next) = (x : Answer act) → Meets w (next x)
  Meets w (Sub part next) = (out : Out) → Wants (want_of part) out → Meets w (next out)
  Meets w (Enter e next) = Enters e × ((out : Out) → Wants NoCells out → Meets w (next out))
  Meets w (Line line next) = Meets w next

  after_given : {A : Type 0} (w : Want) (line : ℕ) (R : A → Type 0) (a : Action A) (go : A → ActTree) → Gives R a → ((x : A) → R x → Meets w (go x))
      → Meets w (doing line a go)
  after_given w line R (Give x) go h k = k x h
  after_given w line R (Fail why) go h k = tt
  after_given w line R NoMeaning go h k = tt
  after_given w line R (Perform act next) go h k = λ x. after_given w line R (next x) go (h x) k

  after : {A : Type 0} (w : Want) (line : ℕ) (a : Action A) (go : A → ActTree) → ((x : A) → Meets w (go x)) → Meets w (doing line a go)
  after w line a go k = after_given w line (λ _. Unit {0}) a go (whatever a) (λ x _. k x)

  if_tree : (w : Want) (b : Bool) (t u : ActTree) → Meets w t → Meets w u → Meets w (if b then t else u)
  if_tree w true t u h k = h
  if_tree w false t u h k = k

  done : (part : Part) → Meets Anything (Sub part Ret)
  done part = λ out post. tt

  -- ---- how parts go on

  on_one : (w : Want) (go : Value → ActTree) → ((v : Value) → Meets w (go v)) → (out : Out) → Meets w (on_scalar go out)
  on_one w go k (Scalar v) = k v
  on_one w go k (Jump label base) = jumping w label base
  on_one w go k out = tt

  on_many : (w : Want) (go : List Value → ActTree) → ((vs : List Value) → Meets w (go vs)) → (out : Out) → Meets w (on_cells go out)
  on_many w go k (Cells vs) = k vs
  on_many w go k (Jump label base) = jumping w label base
  on_many w go k out = tt

  on_variable : (w : Want) (go : ℕ → ActTree) → ((addr : ℕ) → Meets w (go addr)) → (out : Out) → Meets w (on_address go out)
  on_variable w go k (Address addr) = k addr
  on_variable w go k (Bounded addr frame) = k addr
  on_variable w go k (Jump label base) = jumping w label base
  on_variable w go k out = tt

  on_array : (w : Want) (go : ℕ → ℕ → ActTree) → ((addr frame : ℕ) → Meets w (go addr frame)) → (out : Out) → Meets w (on_bounded go out)
  on_array w go k (Bounded addr frame) = k addr frame
  on_array w go k (Jump label base) = jumping w label base
  on_array w go k out = tt

  on_passed : (w : Want) (qs : List ParameterPiece) (go : Passed → ActTree) → ((new : Passed) → Grown qs nothing_passed new → Meets w (go new))
      → (out : Out) → Wants (PassedOn qs nothing_passed) out → Meets w (on_actuals go out)
  on_passed w qs go k (Actuals new) h = k new h
  on_passed w qs go k (Jump label base) h = jumping w label base
  on_passed w qs go k out h = tt

  normally : (w : Want) (t : ActTree) → Meets w t → (out : Out) → Meets w (on_normal t out)
  normally w t h (Jump label base) = jumping w label base
  normally w t h out = h

  eval_meets : (w : Want) (row : ℕ) (here : Here) (go : Value → ActTree) → ((v : Value) → Meets w (go v)) → Meets w (eval row here go)
  eval_meets w row here go k = λ out post. on_one w go k out

  many_meet : (w : Want) (row : ℕ) (here : Here) (go : List Value → ActTree) → ((vs : List Value) → Meets w (go vs)) → Meets w (eval_cells row here go)
  many_meet w row here go k = λ out post. on_many w go k out

  locate_meets : (w : Want) (row : ℕ) (here : Here) (go : ℕ → ActTree) → ((addr : ℕ) → Meets w (go addr)) → Meets w (locate row here go)
  locate_meets w row here go k = λ out post. on_variable w go k out

  target_meets : (w : Want) (row : ℕ) (here : Here) (go : ℕ → ActTree) → ((addr : ℕ) → Meets w (go addr)) → Meets w (locate_target row here go)
  target_meets w row here go k = λ out post. on_variable w go k out

  -- a part, and then nothing or something more
  and_then : (part : Part) (t : ActTree) → Meets Anything t → Meets Anything (Sub part (on_normal t))
  and_then part t k = λ out post. normally Anything t k out

  bounds_meet : (w : Want) (t : Option TypeRow) (go : ℤ → ℤ → ActTree) → ((least greatest : ℤ) → Meets w (go least greatest)) → Meets w (with_bounds t go)
  bounds_meet w (Some (TypeRow.Ordinal least greatest)) go k = k least greatest
  bounds_meet w (Some (TypeRow.Subrange host least greatest)) go k = k least greatest
  bounds_meet w t go k = tt

  size_meets : (w : Want) (t : Option TypeRow) (go : ℕ → ActTree) → ((k : ℕ) → Meets w (go k)) → Meets w (with_size t go)
  size_meets w None go k = tt
  size_meets w (Some t) go k = k _

  dimensions_meet : (w : Want) (o : Option Dimensions) (go : Dimensions → ActTree) → ((d : Dimensions) → o ≡ Some d → Meets w (go d))
      → Meets w (with_dimensions o go)
  dimensions_meet w None go k = tt
  dimensions_meet w (Some d) go k = k d refl

  record_meets : (w : Want) (o : Option ℕ) (go : ℕ → ActTree) → ((addr : ℕ) → Meets w (go addr)) → Meets w (with_record o go)
  record_meets w None go k = tt
  record_meets w (Some addr) go k = k addr

  formal_meets : (w : Want) (r : Row) (go : ℕ → ℕ → ActTree) → ((place heading : ℕ) → heading_in r ≡ Some heading → Meets w (go place heading))
      → Meets w (with_formal r go)
  formal_meets w (Row.Name (NameRow.RoutineFormal place level heading)) go k = k place heading refl
  formal_meets w r go k = tt

  host_meets : (w : Want) (of' : ℕ) (t : Option TypeRow) (go : ℕ → ActTree) → ((host : ℕ) → Meets w (go host)) → Meets w (with_host of' t go)
  host_meets w of' (Some (TypeRow.Ordinal least greatest)) go k = k of'
  host_meets w of' (Some (TypeRow.Subrange host least greatest)) go k = k host
  host_meets w of' t go k = tt

  ended : (here : Here) (a : Action (Unit {0})) → Meets Anything (finally here a)
  ended here a = after Anything here.line a _ (λ _. tt)

  components_meet : (w : Want) (t : Option TypeRow) (go : Components → ActTree) → ((a : Components) → Meets w (go a)) → Meets w (with_components p t go)
  components_meet w (Some (TypeRow.Array packed index component cells)) go k = bounds_meet w (type_at p index) _ (λ least greatest.
      size_meets w (type_at p component) _ (λ size. k _))
  components_meet w t go k = tt

  -- ---- accesses

  before_meets : (row inner : ℕ) (target : Bool) (here : Here) (go : ℕ → ActTree) → ((addr : ℕ) → Meets Anything (go addr))
      → Meets Anything (locate_before row inner target here go)
  before_meets row inner target here go k =
      if_tree Anything (nat_lt inner row) _ _ (λ out post. on_variable Anything go k out) tt

  array_before : (row inner : ℕ) (target : Bool) (here : Here) (go : ℕ → ℕ → ActTree) → ((addr frame : ℕ) → Meets Anything (go addr frame))
      → Meets Anything (bounded_before row inner target here go)
  array_before row inner target here go k =
      if_tree Anything (nat_lt inner row) _ _ (λ out post. on_array Anything go k out) tt

  component_there : (conformant : Bool) (frame addr : ℕ) → Meets Anything (component_found conformant frame addr)
  component_there true frame addr = tt
  component_there false frame addr = tt

  located : (target : Bool) (line addr field : ℕ) → Meets Anything (locate_field p target line addr field)
  located target line addr field = after Anything line (field_at p target addr (row_at p field)) address (λ _. tt)

  access_meets : (row : ℕ) (target : Bool) (here : Here) (a : AccessRow) → Meets Anything (of_access p row target here a)
  access_meets row target here (AccessRow.Variable place levels of') =
      λ _. after Anything here.line (cell_out levels here.base place) address (λ _. tt)
  access_meets row target here (AccessRow.Reference place levels of') =
      λ _. after Anything here.line (reference_out levels here.base place) address (λ _. tt)
  access_meets row target here (AccessRow.Conformant place levels of') = λ _. after Anything here.line
      (frame_out levels here.base >>= λ frame. referred (moved frame place) >>= λ addr. Give (addr, frame)) _ (λ _. tt)
  access_meets row target here (AccessRow.Component inner index array of') = array_before row inner target here _ (λ addr frame _.
      eval_meets Anything index here _ (λ v. dimensions_meet Anything (dimensions_of p array) _ (λ d _. after Anything here.line
      (conformant_component_at d addr frame v) (component_found (is_conformant p of') frame)
      (λ at. component_there (is_conformant p of') frame at))))
  access_meets row target here (AccessRow.Index inner index array of') = before_meets row inner target here _ (λ addr _.
      eval_meets Anything index here _ (λ v. components_meet Anything (type_at p array) _ (λ a.
      after Anything here.line (component a addr v) address (λ _. tt))))
  access_meets row target here (AccessRow.Field inner field of') =
      before_meets row inner target here _ (λ addr _. located target here.line addr field)
  access_meets row target here (AccessRow.Within record' field of') =
      λ _. record_meets Anything (slice_get here.records record') _ (λ addr. located target here.line addr field)
  access_meets row target here (AccessRow.Dereference inner of') = before_meets row inner target here _ (λ addr _.
      after Anything here.line (pointed_at addr) address (λ _. tt))

  access_row : (row : ℕ) (target : Bool) (here : Here) (r : Row) → Meets Anything (access_in p row target here r)
  access_row row target here (Row.Access a) = access_meets row target here a
  access_row row target here r = tt

  -- ---- values

  scalar_meets : (line : ℕ) (a : Action Value) → Meets One (doing line a scalar)
  scalar_meets line a = after One line a scalar (λ _. alone)

  cells_meet : (line addr cells : ℕ) → Meets (Valued (Some cells)) (cells_at line addr cells)
  cells_meet line addr cells = after_given (Valued (Some cells)) line (λ (vs : List Value). length vs ≡ 0 + cells) (read_values [] addr cells)
      (λ vs. Ret (Cells vs)) (reads_give [] addr cells) (λ vs h n e. let k = some_same e in omega (arith, h, k))

  -- the value of a variable has the cells of its type
  value_meets : (line addr : ℕ) (t : Option TypeRow) → Meets (Valued (Some (cells_in t))) (value_at p line addr t)
  value_meets line addr (Some (TypeRow.Ordinal least greatest)) = scalar_meets line (ordinal_at least greatest addr)
  value_meets line addr (Some (TypeRow.Subrange host least greatest)) = scalar_meets line (ordinal_at least greatest addr)
  value_meets line addr (Some (TypeRow.Set packed base)) =
      bounds_meet One (type_at p base) _ (λ least greatest. scalar_meets line (set_at least greatest addr))
  value_meets line addr (Some (TypeRow.Pointer domain)) = scalar_meets line (pointer_at addr)
  value_meets line addr (Some (TypeRow.Array packed index component cells)) = cells_meet line addr cells
  value_meets line addr (Some (TypeRow.Record packed region cells variants)) = cells_meet line addr cells
  value_meets line addr (Some (TypeRow.Conformant packed index component place)) = tt
  value_meets line addr None = tt

  -- ---- calls

  enters : (routine : ℕ) (q : Routine) (frame : ℕ) (new : Passed) → routine_at p routine ≡ Some q
      → Sketched (heading_pieces p q.heading) 0 new.cells new.copies → Enters (entering routine q.cells frame new)
  enters routine q frame new e s r f base l =
      let same : q ≡ r = some_same (sym e ∙ f) in
      entered p r (L.routines routine r f) (entering routine q.cells frame new) (ap (λ (x : Routine). x.cells) same)
      (subst (λ (x : Routine). Sketched (heading_pieces p x.heading) 0 new.cells new.copies) same s) base l

  from_nothing : {qs : List ParameterPiece} {new : Passed} → Grown qs nothing_passed new → Sketched qs 0 new.cells new.copies
  from_nothing {qs} {new} g = subst (λ cs. Sketched qs 0 cs new.copies) (sym g.more_cells)
      (subst (λ ds. Sketched qs 0 g.cells ds) (sym g.more_copies) g.sketched)

  -- what is passed is what the parameters of the routine take, if it is there
  abbrev Takes : (new : Passed) → Option Routine → Type 0
  Takes new o = (r : Routine) → o ≡ Some r → Sketched (heading_pieces p r.heading) 0 new.cells new.copies

  takes : {qs : List ParameterPiece} {new : Passed} (o : Option Routine) → Grown qs nothing_passed new
      → ((r : Routine) → o ≡ Some r → qs ≡ heading_pieces p r.heading) → Takes new o
  takes {new = new} o g k r e = subst (λ qs. Sketched qs 0 new.cells new.copies) (k r e) (from_nothing g)

  module _ (w : Want) (go : Out → ActTree) (k : (out : Out) → Wants NoCells out → Meets w (go out)) where
    call_goes : (here : Here) (routine levels : ℕ) (new : Passed) (o : Option Routine) → routine_at p routine ≡ o → Takes new o
        → Meets w (with_frame_size o (λ cells. doing here.line (frame_out levels here.base) (λ frame. Enter (entering routine cells frame new) go)))
    call_goes here routine levels new None e t = tt
    call_goes here routine levels new (Some r) e t =
        after w here.line (frame_out levels here.base) _ (λ frame. (enters routine r frame new e (t r refl), k))

    enter_goes : (routine frame : ℕ) (new : Passed) (o : Option Routine) → routine_at p routine ≡ o → Takes new o
        → Meets w (with_frame_size o (λ cells. Enter (entering routine cells frame new) go))
    enter_goes routine frame new None e t = tt
    enter_goes routine frame new (Some r) e t = (enters routine r frame new e (t r refl), k)

    call_meets : (here : Here) (routine levels actuals : ℕ) → RoutineTakes p (L.passes actuals) routine → Meets w (call p here routine levels actuals go)
    call_meets here routine levels actuals t = λ out post. on_passed w (L.passes actuals) _ (λ new g.
        call_goes here routine levels new (routine_at p routine) refl (takes (routine_at p routine) g t)) out post

    formal_call : (here : Here) (formal levels actuals : ℕ) → FormalTakes p (L.passes actuals) formal
        → Meets w (call_formal p here formal levels actuals go)
    formal_call here formal levels actuals t = λ out post. on_passed w (L.passes actuals) _ (λ new g.
        formal_meets w (row_at p formal) _ (λ place heading e.
        after_given w here.line (StandsFor p heading) (routine_out p heading levels here.base place) _ (routine_gives p heading levels here.base place)
        (λ x h. enter_goes x.0 x.1 new (routine_at p x.0) refl
        (takes (routine_at p x.0) g (λ r f. t heading e ∙ stands_for p heading x.0 r f h))))) out post

  -- ---- expressions

  operated : (here : Here) (r : Result Value OpFault) → Meets One (operation_result here r)
  operated here r = scalar_meets here.line (or_fault r)

  string_meets : (o : Option (List ℕ)) → Meets (Valued (Some (length (unwrap_or o [])))) (string_in o)
  string_meets None = tt
  string_meets (Some text) = λ n e. length-map text (λ character. Value.Number (pos character)) ∙ some_same e

  two : (here : Here) (left right : ℕ) (go : Value → Value → ActTree) → ((x y : Value) → Meets One (go x y))
      → Meets One (eval left here (λ x. eval right here (λ y. go x y)))
  two here left right go k = eval_meets One left here _ (λ x. eval_meets One right here _ (λ y. k x y))

  expression_meets : (here : Here) (e : ExpressionRow) → CallPasses p L.passes (Row.Expression e)
      → Meets (Valued (cells_given p (Row.Expression e))) (of_expression p here e)
  expression_meets here (ExpressionRow.Constant n) h = alone
  expression_meets here (ExpressionRow.Text token) h = string_meets (slice_get p.texts token)
  expression_meets here ExpressionRow.Nil h = alone
  expression_meets here (ExpressionRow.Sign minus operand) h = eval_meets One operand here _ (λ v. operated here (with_sign_of minus v))
  expression_meets here (ExpressionRow.Not operand) h = eval_meets One operand here _ (λ v. alone)
  expression_meets here (ExpressionRow.Arithmetic operator left right) h = two here left right _ (λ x y. operated here (arith_of operator x y))
  expression_meets here (ExpressionRow.Logic operator left right) h = two here left right _ (λ x y. alone)
  expression_meets here (ExpressionRow.Sets operator left right) h = two here left right _ (λ x y. operated here (sets_of operator x y))
  expression_meets here (ExpressionRow.Compare order left right) h = two here left right _ (λ x y. operated here (comparison order x y))
  expression_meets here (ExpressionRow.CompareTexts order left right) h =
      many_meet One left here _ (λ xs. many_meet One right here _ (λ ys. operated here (texts_compared order xs ys)))
  expression_meets here (ExpressionRow.CompareSets order left right) h = two here left right _ (λ x y. operated here (sets_compared order x y))
  expression_meets here (ExpressionRow.ComparePointers equal left right) h = two here left right _ (λ x y. operated here (pointers_compared equal x y))
  expression_meets here (ExpressionRow.In left right) h = two here left right _ (λ x y. operated here (in_set x y))
  expression_meets here (ExpressionRow.Set members) h = one_cell
  expression_meets here (ExpressionRow.Apply routine levels actuals) h = call_meets One Ret one_cell here routine levels actuals h
  expression_meets here (ExpressionRow.ApplyFormal formal levels actuals) h = formal_call One Ret one_cell here formal levels actuals h
  expression_meets here (ExpressionRow.Function f operand least greatest) h =
      eval_meets One operand here _ (λ v. operated here (function_of f least greatest v))
  expression_meets here ExpressionRow.Eof h = scalar_meets here.line at_end
  expression_meets here ExpressionRow.Eoln h = scalar_meets here.line at_line_end

  -- an array has an extent for each of its specs
  whole_array_meets : (w : Want) (row t : ℕ) (here : Here) (go : Dimensions → WholeArray → ActTree)
      → ((d : Dimensions) (x : WholeArray) → dimensions_of p t ≡ Some d → length x.extents ≡ length d.specs → Meets w (go d x))
      → Meets w (whole_array p row t here go)
  whole_array_meets w row t here go k = λ out post. on_array w _ (λ addr frame. dimensions_meet w (dimensions_of p t) _ (λ d e.
      after_given w here.line (λ (x : WholeArray). length x.extents ≡ length d.specs) (whole_at d addr frame) (go d) (whole_gives d addr frame)
      (λ x h. k d x e h))) out

  valued : (row t : ℕ) (here : Here) (conformant : Bool) → Meets (Valued (unless_conformant conformant (size_of p t))) (access_value p row t here conformant)
  valued row t here true = whole_array_meets (Valued None) row t here (λ d x. Ret (Cells x.cells)) (λ d x e h n q. absurd (none_some q))
  valued row t here false = locate_meets (Valued (Some (size_of p t))) row here _ (λ addr. value_meets here.line addr (type_at p t))

  expression_row : (row : ℕ) (here : Here) (r : Row) → CallPasses p L.passes r → Meets (Valued (cells_given p r)) (expression_in p row here r)
  expression_row row here (Row.Expression e) h = λ _. expression_meets here e h
  expression_row row here (Row.Access a) h = valued row (type_accessed a) here (is_conformant p (type_accessed a))
  expression_row row here r h = tt

  -- ---- arrays as actuals

  placed_meets : (w : Want) (access t : ℕ) (specs : List HeldSpec) (here : Here) (conformant : Bool) (go : List Extent → ℕ → ActTree)
      → ((es : List Extent) (addr : ℕ) → length es ≡ extents_of p specs t conformant → Meets w (go es addr))
      → Meets w (array_placed p access t specs here conformant go)
  placed_meets w access t specs here true go k = λ out post. on_array w _ (λ addr frame. dimensions_meet w (dimensions_of p t) _ (λ d e.
      after_given w here.line (λ es. length es ≡ length d.specs) (extents_at d.specs frame) (λ es. go (es ++ inner_extents p d specs) addr)
      (extents_give d.specs frame) (λ es h. k (es ++ inner_extents p d specs) addr (length-append es (inner_extents p d specs)
      ∙ ap (λ n. n + length (inner_extents p d specs)) h ∙ ap (extents_held p specs) (sym e))))) out
  placed_meets w access t specs here false go k =
      locate_meets w access here (λ addr. go (fixed_extents p specs (type_at p t)) addr) (λ addr. k (fixed_extents p specs (type_at p t)) addr refl)

  copied_meets : (w : Want) (access t : ℕ) (specs : List HeldSpec) (here : Here) (conformant : Bool) (go : WholeArray → ActTree)
      → ((x : WholeArray) → length x.extents ≡ extents_of p specs t conformant → Meets w (go x))
      → Meets w (array_copied p access t specs here conformant go)
  copied_meets w access t specs here true go k =
      whole_array_meets w access t here (λ d x. go (record { extents = x.extents ++ inner_extents p d specs; cells = x.cells }))
      (λ d x e h. k (record { extents = x.extents ++ inner_extents p d specs; cells = x.cells }) (length-append x.extents (inner_extents p d specs)
      ∙ ap (λ n. n + length (inner_extents p d specs)) h ∙ ap (extents_held p specs) (sym e)))
  copied_meets w access t specs here false go k = locate_meets w access here _ (λ addr. size_meets w (type_at p t) _ (λ cells.
      after w here.line (read_values [] addr cells) (λ vs. go (record { extents = fixed_extents p specs (type_at p t); cells = vs }))
      (λ vs. k (record { extents = fixed_extents p specs (type_at p t); cells = vs }) refl)))

  placed_row : (w : Want) (row : ℕ) (specs : List HeldSpec) (here : Here) (r : Row) (go : List Extent → ℕ → ActTree)
      → ((es : List Extent) (addr : ℕ) → length es ≡ extents_given p specs r → Meets w (go es addr)) → Meets w (placed_in p row specs here r go)
  placed_row w row specs here (Row.Access a) go k = placed_meets w row (type_accessed a) specs here (is_conformant p (type_accessed a)) go k
  placed_row w row specs here r go k = tt

  copied_row : (w : Want) (row : ℕ) (specs : List HeldSpec) (here : Here) (r : Row) (go : WholeArray → ActTree)
      → ((x : WholeArray) → length x.extents ≡ extents_given p specs r → Meets w (go x)) → Meets w (whole_in p row specs here r go)
  copied_row w row specs here (Row.Access a) go k = copied_meets w row (type_accessed a) specs here (is_conformant p (type_accessed a)) go k
  copied_row w row specs here (Row.Expression e) go k = many_meet w row here (λ vs. go (text_whole vs)) (λ vs. k (text_whole vs) refl)
  copied_row w row specs here r go k = tt

  -- ---- actuals

  -- what is passed further was passed from an actual on
  goes_on : (at : ℕ) (more qs : List ParameterPiece) (old middle : Passed) → L.passes at ≡ more → ((new : Passed) → Grown qs middle new → Grown more old new)
      → (out : Out) → Wants (PassedOn qs middle) out → Wants (PassedOn (L.passes at) old) out
  goes_on at more qs old middle e f (Actuals new) g = subst (λ rs. Grown rs old new) (sym e) (f new g)
  goes_on at more qs old middle e f out g = tt

  value_goes : (here : Here) (at nx n : ℕ) (old : Passed) (t : Option TypeRow) (c : Option ℕ) → L.passes at ≡ OfValue n ∷ L.passes nx → c ≡ Some n
      → (out : Out) → Wants (Valued c) out
      → Meets (PassedOn (L.passes at) old) (on_actual p here t (λ vs. Sub (Pass nx (and_cells old vs) here) Ret) out)
  value_goes here at nx n old t c e f (Scalar v) h = after (PassedOn (L.passes at) old) here.line (tested p t v) _ (λ x.
      goes_on at (OfValue n ∷ L.passes nx) (L.passes nx) old (and_cells old (x ∷ [])) e (λ new g. by_value n (x ∷ []) (sym (h n f)) g))
  value_goes here at nx n old t c e f (Cells vs) h =
      goes_on at (OfValue n ∷ L.passes nx) (L.passes nx) old (and_cells old vs) e (λ new g. by_value n vs (h n f) g)
  value_goes here at nx n old t c e f (Jump label base) h = tt
  value_goes here at nx n old t c e f out h = tt

  routine_goes : (here : Here) (at nx : ℕ) (old : Passed) (found : Action (ℕ × ℕ)) → L.passes at ≡ OfRoutine ∷ L.passes nx
      → Meets (PassedOn (L.passes at) old) (pass_routine here nx old found)
  routine_goes here at nx old found e = λ _. after (PassedOn (L.passes at) old) here.line found _ (λ x.
      goes_on at (OfRoutine ∷ L.passes nx) (L.passes nx) old (and_cells old (Value.Routine x.0 x.1 ∷ [])) e (λ new g. by_routine x.0 x.1 g))

  -- the bounds of a section are those of the specs of its schema
  bounds_many : (of' : ℕ) (d : Dimensions) (r : Row) (es : List Extent) → dimensions_of p of' ≡ Some d → FitsSchema p of' r
      → length es ≡ extents_given p d.specs r → length es ≡ specs_of p of'
  bounds_many of' d r es e f l = l ∙ f d e ∙ ap specs_in (sym e)

  actual_row : (old : Passed) (here : Here) (at : ℕ) (r : Row) → ActualPasses p L.passes at r → Meets (PassedOn (L.passes at) old) (of_actual p old here r)
  actual_row old here at (Row.Item (ItemRow.Value e of' nx)) h =
      λ out post. value_goes here at nx (size_of p of') old (type_at p of') (cells_given p (row_at p e)) h.0 h.1 out post
  actual_row old here at (Row.Item (ItemRow.Place access nx)) h = locate_meets (PassedOn (L.passes at) old) access here _ (λ addr.
      goes_on at _ (L.passes nx) old (and_cells old (Value.Place addr ∷ [])) h (λ new g. by_address (cells_accessed p (row_at p access)) addr g))
  actual_row old here at (Row.Item (ItemRow.ArrayPlace true access of' nx)) h =
      dimensions_meet (PassedOn (L.passes at) old) (dimensions_of p of') _ (λ d e.
      placed_row (PassedOn (L.passes at) old) access d.specs here (row_at p access) _ (λ es addr l.
      after (PassedOn (L.passes at) old) here.line (arrays.bounds_tested es d.specs) _ (λ _.
      goes_on at _ (L.passes nx) old (and_cells (and_cells old (bound_values es)) (Value.Place addr ∷ [])) h.0
      (λ new g. by_bounds (specs_of p of') es (bounds_many of' d (row_at p access) es e (h.1 refl) l) (by_array addr g)))))
  actual_row old here at (Row.Item (ItemRow.ArrayPlace false access of' nx)) h =
      dimensions_meet (PassedOn (L.passes at) old) (dimensions_of p of') _ (λ d e.
      placed_row (PassedOn (L.passes at) old) access d.specs here (row_at p access) _ (λ es addr l.
      goes_on at _ (L.passes nx) old (and_cells old (Value.Place addr ∷ [])) h.0 (λ new g. by_array addr g)))
  actual_row old here at (Row.Item (ItemRow.ArrayValue true v of' nx)) h =
      dimensions_meet (PassedOn (L.passes at) old) (dimensions_of p of') _ (λ d e.
      copied_row (PassedOn (L.passes at) old) v d.specs here (row_at p v) _ (λ x l.
      after (PassedOn (L.passes at) old) here.line (arrays.bounds_tested x.extents d.specs) _ (λ _.
      goes_on at _ (L.passes nx) old (and_copy (and_cells old (bound_values x.extents)) x.cells) h.0
      (λ new g. by_bounds (specs_of p of') x.extents (bounds_many of' d (row_at p v) x.extents e (h.1 refl) l) (by_copy x.cells g)))))
  actual_row old here at (Row.Item (ItemRow.ArrayValue false v of' nx)) h =
      dimensions_meet (PassedOn (L.passes at) old) (dimensions_of p of') _ (λ d e.
      copied_row (PassedOn (L.passes at) old) v d.specs here (row_at p v) _ (λ x l.
      goes_on at _ (L.passes nx) old (and_copy old x.cells) h.0 (λ new g. by_copy x.cells g)))
  actual_row old here at (Row.Item (ItemRow.Routine routine levels nx)) h = routine_goes here at nx old _ h
  actual_row old here at (Row.Item (ItemRow.RoutineFormal formal levels nx)) h = formal_meets (PassedOn (L.passes at) old) (row_at p formal) _
      (λ place heading e. routine_goes here at nx old (routine_out p heading levels here.base place) h)
  actual_row old here at r h = tt

  -- the list of actuals ends, or one more is passed
  actuals_from : (old : Passed) (here : Here) (at : ℕ) → Meets (PassedOn (L.passes at) old)
      (until_end at (Ret (Actuals old)) (of_actual p old here (row_at p at)))
  actuals_from old here at = by (is_end at) refl
    where
      by : (b : Bool) → is_end at ≡ b → Meets (PassedOn (L.passes at) old) (if b then Ret (Actuals old) else of_actual p old here (row_at p at))
      by true e = subst (λ qs. Grown qs old old) (sym (ap L.passes (let z : at ≡ 0 = grind (arith, nat_tests) in z) ∙ L.ends)) (not_grown old)
      by false e = actual_row old here at (row_at p at) (L.actuals at)

  -- ---- members

  gather_meets : (here : Here) (nx : ℕ) (r : Result Value OpFault) → Meets NoCells (gather here nx r)
  gather_meets here nx r = after NoCells here.line (or_fault r) (λ set. Sub (Gather nx set here) Ret) (λ set out post. post)

  member_row : (set : Value) (here : Here) (r : Row) → Meets NoCells (of_members set here r)
  member_row set here (Row.Item (ItemRow.Member e nx)) = eval_meets NoCells e here _ (λ v. gather_meets here nx _)
  member_row set here (Row.Item (ItemRow.Members first last nx)) =
      eval_meets NoCells first here _ (λ v. eval_meets NoCells last here _ (λ w. gather_meets here nx _))
  member_row set here r = tt

  -- ---- assignments

  put_meets : (here : Here) (target of' : ℕ) (out : Out) → Meets Anything (on_value p here target of' out)
  put_meets here target of' (Scalar v) = target_meets Anything target here _ (λ addr.
      ended here (assign_to p (tag_accessed p (row_at p target)) (type_at p of') addr v))
  put_meets here target of' (Cells vs) = target_meets Anything target here _ (λ addr. ended here (writes addr vs))
  put_meets here target of' (Jump label base) = tt
  put_meets here target of' out = tt

  -- ---- case and for statements

  choose_meets : (here : Here) (s : Sought) → Meets Anything (choose here s)
  choose_meets here (Some (Some n)) = done (Exec n here)
  choose_meets here (Some None) = tt
  choose_meets here None = tt

  case_meets : (here : Here) (choices : ℕ) (v : Value) → Meets Anything (chosen_by p here choices v)
  case_meets here choices (Value.Number i) = choose_meets here _
  case_meets here choices v = tt

  undefine_meets : (here : Here) (place : ℕ) → Meets Anything (undefine here place)
  undefine_meets here place = ended here (write (moved here.base place) Value.Undefined)

  first_meets : (here : Here) (turns : ℕ) (r : Row) (i j : Value) → Meets Anything (first_turn p here turns r i j)
  first_meets here turns (Row.Statement (StatementRow.Turns direction last place of' body)) (Value.Number i) (Value.Number j) =
      if_tree Anything (has_turn direction i j) _ _ (after Anything here.line (bounds_tested p (type_at p of') i j) (λ _. Sub (Count turns i j here) Ret)
      (λ _. done (Count turns i j here))) (undefine_meets here place)
  first_meets here turns (Row.Statement (StatementRow.Turns direction last place of' body)) i j = tt
  first_meets here turns r i j = tt

  for_meets : (here : Here) (initial turns : ℕ) (r : Row) → Meets Anything (bounds p here initial turns r)
  for_meets here initial turns (Row.Statement (StatementRow.Turns direction last place of' body)) =
      eval_meets Anything initial here _ (λ x. eval_meets Anything last here _ (λ y. first_meets here turns (row_at p turns) x y))
  for_meets here initial turns r = tt

  turn_ended : (here : Here) (row : ℕ) (direction : Direction) (place : ℕ) (i last : ℤ) → Meets Anything (turn_after row here direction place i last)
  turn_ended here row direction place i last =
      if_tree Anything (int_eq i last) _ _ (undefine_meets here place) (λ out post. tt)

  count_row : (here : Here) (row : ℕ) (i last : ℤ) (r : Row) → Meets Anything (of_count row here i last r)
  count_row here row i last (Row.Statement (StatementRow.Turns direction last' place of' body)) =
      after Anything here.line (write (moved here.base place) (Value.Number i)) _
      (λ _. and_then (Exec body here) _ (turn_ended here row direction place i last))
  count_row here row i last r = tt

  turn_row : (here : Here) (row : ℕ) (r : Row) → Meets Anything (of_turn row here r)
  turn_row here row (Row.Statement (StatementRow.While line condition body)) = eval_meets Anything condition here _ (λ v.
      if_tree Anything (is_true v) _ nothing (and_then (Exec body here) _ (done (Turn row here))) tt)
  turn_row here row (Row.Statement (StatementRow.Repeat line statements condition)) =
      and_then (Sequence statements statements here) _ (eval_meets Anything condition here _ (λ v.
      if_tree Anything (is_true v) nothing _ tt (done (Turn row here))))
  turn_row here row r = tt

  -- ---- packing

  array_meets : (r : Row) (go : ℕ → Components → ActTree) → ((cells : ℕ) (a : Components) → Meets Anything (go cells a)) → Meets Anything (with_array p r go)
  array_meets (Row.Access a) go k = components_meet Anything (type_at p (type_accessed a)) _ (λ c. k _ c)
  array_meets r go k = tt

  moves_meet : (here : Here) (packing : Bool) (unpacked packed a z : ℕ) (v : Value)
      → Meets Anything (moves p here packing unpacked packed a z v (finally here))
  moves_meet here packing unpacked packed a z v =
      array_meets (row_at p unpacked) _ (λ _ wide. array_meets (row_at p packed) _ (λ cells close.
      after Anything here.line (first_moved wide close a v) _ (λ at. ended here (if packing then copies at z cells else copies z at cells))))

  pack_meets : (here : Here) (packing : Bool) (unpacked index packed : ℕ) → Meets Anything (pack p here packing unpacked index packed (finally here))
  pack_meets here true unpacked index packed = locate_meets Anything unpacked here _
      (λ a. locate_meets Anything packed here _ (λ z. eval_meets Anything index here _ (λ v.
      moves_meet here true unpacked packed a z v)))
  pack_meets here false unpacked index packed = locate_meets Anything packed here _
      (λ z. locate_meets Anything unpacked here _ (λ a. eval_meets Anything index here _ (λ v.
      moves_meet here false unpacked packed a z v)))

  -- ---- statements

  statement_meets : (row : ℕ) (here : Here) (s : StatementRow) → CallPasses p L.passes (Row.Statement s) → Meets Anything (of_statement p row here s)
  statement_meets row here (StatementRow.Assign line target e of') h = (λ out post. put_meets here target of' out)
  statement_meets row here (StatementRow.Call line routine levels actuals) h =
      call_meets Anything (on_normal nothing) (λ out post. normally Anything nothing tt out) here routine levels actuals h
  statement_meets row here (StatementRow.If line condition then') h =
      eval_meets Anything condition here _ (λ v. if_tree Anything (is_true v) _ nothing (done (Exec then' here)) tt)
  statement_meets row here (StatementRow.IfElse line condition then' otherwise) h = eval_meets Anything condition here _ (λ v.
      if_tree Anything (is_true v) _ _ (done (Exec then' here)) (done (Exec otherwise here)))
  statement_meets row here (StatementRow.Case line selector choices) h = eval_meets Anything selector here _ (λ v. case_meets here choices v)
  statement_meets row here (StatementRow.Repeat line statements condition) h = done (Turn row here)
  statement_meets row here (StatementRow.While line condition body) h = done (Turn row here)
  statement_meets row here (StatementRow.For line initial turns) h = for_meets here initial turns (row_at p turns)
  statement_meets row here (StatementRow.CallFormal line formal levels actuals) h =
      formal_call Anything (on_normal nothing) (λ out post. normally Anything nothing tt out) here formal levels actuals h
  statement_meets row here (StatementRow.Goto line label levels) h = after Anything here.line (frame_out levels here.base) _ (λ base. tt)
  statement_meets row here (StatementRow.With line records' body) h = done (Establish records' body here)
  statement_meets row here (StatementRow.Read ends_line line actuals) h =
      and_then (Receive actuals here) _ (if_tree Anything ends_line _ nothing (done (RestOfLine here)) tt)
  statement_meets row here (StatementRow.Write ends_line line actuals) h =
      and_then (Print actuals here) _ (if_tree Anything ends_line _ nothing (ended here end_line) tt)
  statement_meets row here (StatementRow.Page line) h = ended here end_page
  statement_meets row here (StatementRow.Pack packing line unpacked index packed) h = pack_meets here packing unpacked index packed
  statement_meets row here (StatementRow.New line access of') h = size_meets Anything (type_at p of') _ (λ cells.
      after Anything here.line (made_variable cells of') (point here access) (λ v.
      target_meets Anything access here (λ addr. finally here (write addr v)) (λ addr. ended here (write addr v))))
  statement_meets row here (StatementRow.Dispose line e of') h = eval_meets Anything e here _ (λ v. size_meets Anything (type_at p of') _ (λ cells.
      ended here (dispose cells v)))
  statement_meets row here s h = tt

  begins_meet : (row : ℕ) (here : Here) (s : StatementRow) (o : Option ℕ) → CallPasses p L.passes (Row.Statement s) → Meets Anything (begins p row here s o)
  begins_meet row here s (Some line) h = statement_meets row (record here { line = line }) s h
  begins_meet row here s None h = tt

  labelled_meets : (row label : ℕ) (here : Here) (out : Out) → Meets Anything (on_labelled row label here out)
  labelled_meets row label here (Jump goal base) = if_tree Anything ((goal == label) && (base == here.base)) _ _ (done (Exec row here)) tt
  labelled_meets row label here out = tt

  any_statement : (row : ℕ) (here : Here) (s : StatementRow) → CallPasses p L.passes (Row.Statement s) → Meets Anything (statement p row here s)
  any_statement row here StatementRow.Empty h = λ _. tt
  any_statement row here (StatementRow.Compound statements) h = λ _. done (Sequence statements statements here)
  any_statement row here (StatementRow.Labelled label inner) h = if_tree Anything (nat_lt row inner) _ _
      (λ out post. labelled_meets row label here out) tt
  any_statement row here s h = begins_meet row here s (line_of s) h

  statement_row : (row : ℕ) (here : Here) (r : Row) → CallPasses p L.passes r → Meets Anything (statement_in p row here r)
  statement_row row here (Row.Statement s) h = any_statement row here s h
  statement_row row here r h = tt

  jumped_meets : (here : Here) (first label base : ℕ) (s : Sought) → Meets Anything (jumped here first label base s)
  jumped_meets here first label base (Some (Some at)) = done (Sequence first at here)
  jumped_meets here first label base (Some None) = tt
  jumped_meets here first label base None = tt

  after_statement : (here : Here) (first nx : ℕ) (out : Out) → Meets Anything (on_statement p here first nx out)
  after_statement here first nx (Jump label base) = jumped_meets here first label base _
  after_statement here first nx out = done (Sequence first nx here)

  sequence_row : (here : Here) (first : ℕ) (r : Row) → Meets Anything (of_sequence p here first r)
  sequence_row here first (Row.Item (ItemRow.Element s nx)) = (λ out post. after_statement here first nx out)
  sequence_row here first r = tt

  records_row : (here : Here) (body : ℕ) (r : Row) → Meets Anything (of_records here body r)
  records_row here body (Row.Item (ItemRow.Element access nx)) = locate_meets Anything access here (λ addr. Sub (Establish nx body (inside here addr)) Ret)
      (λ addr. done (Establish nx body (inside here addr)))
  records_row here body r = tt

  -- ---- reading and writing

  into_meets : (here : Here) (access of' nx : ℕ) (v : Value) → Meets Anything (into p here access of' nx v)
  into_meets here access of' nx v = target_meets Anything access here _ (λ addr.
      after Anything here.line (assign_to p (tag_accessed p (row_at p access)) (type_at p of') addr v) (λ _. Sub (Receive nx here) Ret)
      (λ _. done (Receive nx here)))

  read_row : (here : Here) (access nx : ℕ) (r : Row) → Meets Anything (received p here access nx r)
  read_row here access nx (Row.Access a) = host_meets Anything (type_accessed a) (type_at p (type_accessed a)) _ (λ host.
      if_tree Anything (host == char_type) _ _ (after Anything here.line next_char _ (λ v. into_meets here access (type_accessed a) nx v))
      (λ out post. on_one Anything _ (λ v. into_meets here access (type_accessed a) nx v) out))
  read_row here access nx r = tt

  received_row : (here : Here) (r : Row) → Meets Anything (of_received p here r)
  received_row here (Row.Item (ItemRow.Element access nx)) = read_row here access nx (row_at p access)
  received_row here r = tt

  scanned_meets : (here : Here) (s : Scanned) → Meets Anything (on_scanned here s)
  scanned_meets here (Further scan) = done (Scanning scan here)
  scanned_meets here (Whole v) = tt

  print_meets : (here : Here) (nx : ℕ) (text : Text) (width : Option Value) → Meets Anything (print here nx text width)
  print_meets here nx text width = after Anything here.line (written text width) _ (λ _. done (Print nx here))

  text_meets : (of' : ℕ) (go : Text → ActTree) → ((text : Text) → Meets Anything (go text)) → (out : Out) → Meets Anything (on_text p of' go out)
  text_meets of' go k (Scalar v) = host_meets Anything of' (type_at p of') _ (λ host. k (scalar_text host v))
  text_meets of' go k (Cells vs) = k _
  text_meets of' go k (Jump label base) = tt
  text_meets of' go k out = tt

  printed_row : (here : Here) (r : Row) → Meets Anything (of_printed p here r)
  printed_row here (Row.Item (ItemRow.Written e of' nx)) = (λ out post. text_meets of' (λ text. print here nx text None)
      (λ text. print_meets here nx text None) out)
  printed_row here (Row.Item (ItemRow.WrittenWide e of' width nx)) = (λ out post. text_meets of' (λ text. eval width here (λ w. print here nx text (Some w)))
      (λ text. eval_meets Anything width here (λ w. print here nx text (Some w)) (λ w. print_meets here nx text (Some w))) out)
  printed_row here r = tt

  -- ---- routines

  body_meets : (base : ℕ) (o : Option Routine) → Meets Anything (of_body base o)
  body_meets base None = tt
  body_meets base (Some r) = λ _ out post. tt

  result_type : (line addr : ℕ) (t : Option TypeRow) → Meets NoCells (result_of_type line addr t)
  result_type line addr (Some (TypeRow.Pointer domain)) = after NoCells line (pointer_result_at addr) scalar (λ _. tt)
  result_type line addr t = bounds_meet NoCells t (λ least greatest. doing line (result_read least greatest addr) scalar)
      (λ least greatest. after NoCells line (result_read least greatest addr) scalar (λ _. tt))

  return_meets : (base : ℕ) (r : Routine) (o : Option ℕ) → Meets NoCells (return_of p base r o)
  return_meets base r None = tt
  return_meets base r (Some place) = result_type r.line (moved base place) (type_in_heading p (row_at p r.heading))

  pub whole_meets : (f base : ℕ) (r : Routine) → Meets NoCells (whole p f base r)
  whole_meets f base r = λ out post. normally NoCells (return_of p base r r.result) (return_meets base r r.result) out

  -- ---- each part

  until : (w : Want) (at : ℕ) (t u : ActTree) → Meets w t → Meets w u → Meets w (until_end at t u)
  until w at t u h k = if_tree w (is_end at) t u h k

  pub part_meets : (part : Part) → Meets (want_of part) (layer p part)
  part_meets (Eval row here) = expression_row row here (row_at p row) (L.calls row)
  part_meets (Locate row target here) = access_row row target here (row_at p row)
  part_meets (Pass at passed here) = actuals_from passed here at
  part_meets (Gather at set here) = until NoCells at (scalar set) _ tt (member_row set here (row_at p at))
  part_meets (Establish at body here) = until Anything at _ _ (done (Exec body here)) (records_row here body (row_at p at))
  part_meets (Exec row here) = statement_row row here (row_at p row) (L.calls row)
  part_meets (Sequence first at here) = until Anything at nothing _ tt (sequence_row here first (row_at p at))
  part_meets (Turn row here) = turn_row here row (row_at p row)
  part_meets (Count row i last here) = count_row here row i last (row_at p row)
  part_meets (Receive at here) = until Anything at nothing _ tt (received_row here (row_at p at))
  part_meets (Scanning scan here) = after Anything here.line (scan_on scan) (on_scanned here) (scanned_meets here)
  part_meets (RestOfLine here) = after Anything here.line past_item _ (λ ended. if_tree Anything ended nothing _ tt (done (RestOfLine here)))
  part_meets (Print at here) = until Anything at nothing _ tt (printed_row here (row_at p at))
  part_meets (Body routine base) = body_meets base (routine_at p routine)

  -- ---- the program block

  pub block_meets : Meets Anything block
  block_meets = (λ r e base l. block_entered p r (L.routines 0 r e) (L.main r e) Value.Nil base, λ out post. tt)
