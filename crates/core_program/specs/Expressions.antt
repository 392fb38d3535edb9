-- What each expression does (6.7), with function designators, actual parameters and set constructors.
use Rattle.std.specs.Prelude.{◌++◌, ◌∷◌, [], ℕ, Bool, List, None, Option, Result, Some, false, length, not, pos}
use Rattle.std.specs.Prelude.{slice_get, true}
use Rattle.cell_value.specs.{Arithmetic.arith_of, declared.faults.OpFault.OpFault, declared.values.Value.Value}
use Rattle.core_program.specs.{Actions.◌>>=◌, Actions.Action, Actions.Give, Heap.pointers_compared, Input.at_end}
use Rattle.core_program.specs.{Input.at_line_end, Tree.Scalar, Tree.Sub, Tree.doing, Values.with_sign_of}
use Rattle.core_program.specs.Accesses.{eval, eval_cells, is_conformant, locate, no_row, on_bounded, scalar, spend}
use Rattle.core_program.specs.Accesses.{type_accessed, value_at, with_dimensions, with_formal, with_size}
use Rattle.core_program.specs.Cells.{frame_out, read_values, routine_out}
use Rattle.core_program.specs.Conformant.{Dimensions, WholeArray, bound_values, bounds_tested, dimensions_of}
use Rattle.core_program.specs.Conformant.{extents_at, fixed_extents, inner_extents, whole_at}
use Rattle.core_program.specs.Passed.{Entering, Passed, and_cells, and_copy, nothing_passed}
use Rattle.core_program.specs.ProgramRows.{ProgramRows, routine_at, row_at, type_at}
use Rattle.core_program.specs.Tree.{ActTree, Actuals, Cells, Enter, Eval, Gather, Here, Jump, Locate, Out, Pass, Ret}
use Rattle.core_program.specs.Values.{comparison, function_of, in_set, is_true, logic_of, members_added, no_members}
use Rattle.core_program.specs.Values.{or_fault, sets_compared, sets_of, string_of, tested, texts_compared, truth}
use Rattle.core_program.specs.declared.{components.Extent.Extent, components.HeldSpec.HeldSpec, program.Routine.Routine}
use Rattle.core_program.specs.declared.rows.{ExpressionRow.ExpressionRow, ItemRow.ItemRow, Row.Row, TypeRow.TypeRow}
use Rattle.core_program.specs.declared.rows.ExpressionRow.TheVariants.{Apply, ApplyFormal, Arithmetic, Compare}
use Rattle.core_program.specs.declared.rows.ExpressionRow.TheVariants.{ComparePointers, CompareSets, CompareTexts}
use Rattle.core_program.specs.declared.rows.ExpressionRow.TheVariants.{Constant, Eof, Eoln, Function, In, Logic, Nil}
use Rattle.core_program.specs.declared.rows.ExpressionRow.TheVariants.{Not, Set, Sets, Sign, Text}

-- the result of an operation as a value, or its fault
abbrev pub operation_result : Here → Result Value OpFault → ActTree
operation_result here r = doing here.line (or_fault r) scalar

-- goes on with what is passed to a routine
abbrev pub on_actuals : (Passed → ActTree) → Out → ActTree
on_actuals go (Actuals passed) = go passed
on_actuals go (Jump label base) = Ret (Jump label base)
on_actuals go out = no_row

-- a routine with the link to a frame, and what is passed
abbrev pub entering : (routine cells frame : ℕ) → Passed → Entering
entering routine cells frame passed =
    record { routine = routine; cells = cells; link = Value.Frame frame; passed = passed }

-- goes on with the cells of a routine's frame
abbrev pub with_frame_size : Option Routine → (ℕ → ActTree) → ActTree
with_frame_size None go = no_row
with_frame_size (Some r) go = go r.cells

-- A call of a routine that was declared this many blocks out: the actual parameters, then the links to the frame in
-- which it was declared, the limits, and the routine is entered with its link and the cells of its parameters (6.6.3.1,
-- 6.8.2.3).
abbrev pub call : ProgramRows → Here → (routine levels actuals : ℕ) → (Out → ActTree) → ActTree
call p here routine levels actuals go = Sub (Pass actuals nothing_passed here) (on_actuals (λ passed.
    with_frame_size (routine_at p routine) (λ cells. doing here.line (frame_out levels here.base) (λ frame.
    Enter (entering routine cells frame passed) go))))

-- a routine is entered with its link and what is passed, unless a limit forbids it
abbrev pub enter : ProgramRows → (routine frame : ℕ) → Passed → (Out → ActTree) → ActTree
enter p routine frame passed go =
    with_frame_size (routine_at p routine) (λ cells. Enter (entering routine cells frame passed) go)

-- The call of a routine parameter: the actual parameters, then the links to the frame that has the parameter, its cell,
-- and the routine that it stands for is entered, with a link to the frame in which that was declared (6.6.3.4,
-- 6.6.3.5).
abbrev pub call_formal : ProgramRows → Here → (formal levels actuals : ℕ) → (Out → ActTree) → ActTree
call_formal p here formal levels actuals go = Sub (Pass actuals nothing_passed here) (on_actuals (λ passed.
    with_formal (row_at p formal) (λ place heading.
    doing here.line (routine_out p heading levels here.base place) (λ (routine, frame).
    enter p routine frame passed go))))

-- a string, if the token has a text
abbrev pub string_in : Option (List ℕ) → ActTree
string_in None = no_row
string_in (Some text) = Ret (Cells (string_of text))

-- An expression, once its step is taken. Operands are evaluated from left to right, and both operands of `and` and of
-- `or` always.
abbrev pub of_expression : ProgramRows → Here → ExpressionRow → ActTree
of_expression p here (Constant n) = scalar (Value.Number n)
of_expression p here (Text token) = string_in (slice_get p.texts token)
of_expression p here Nil = scalar Value.Nil
of_expression p here (Sign minus operand) = eval operand here (λ v. operation_result here (with_sign_of minus v))
of_expression p here (Not operand) = eval operand here (λ v. scalar (truth (not (is_true v))))
of_expression p here (Arithmetic operator left right) =
    eval left here (λ x. eval right here (λ y. operation_result here (arith_of operator x y)))
of_expression p here (Logic operator left right) =
    eval left here (λ x. eval right here (λ y. scalar (truth (logic_of operator (is_true x) (is_true y)))))
of_expression p here (Compare order left right) =
    eval left here (λ x. eval right here (λ y. operation_result here (comparison order x y)))
of_expression p here (Sets operator left right) =
    eval left here (λ x. eval right here (λ y. operation_result here (sets_of operator x y)))
of_expression p here (CompareSets order left right) =
    eval left here (λ x. eval right here (λ y. operation_result here (sets_compared order x y)))
of_expression p here (ComparePointers equal left right) =
    eval left here (λ x. eval right here (λ y. operation_result here (pointers_compared equal x y)))
of_expression p here (In left right) =
    eval left here (λ x. eval right here (λ y. operation_result here (in_set x y)))
of_expression p here (CompareTexts order left right) =
    eval_cells left here (λ xs. eval_cells right here (λ ys. operation_result here (texts_compared order xs ys)))
of_expression p here (Set members) = Sub (Gather members no_members here) Ret
of_expression p here (Apply routine levels actuals) = call p here routine levels actuals Ret
of_expression p here (ApplyFormal formal levels actuals) = call_formal p here formal levels actuals Ret
of_expression p here (Function f operand least greatest) =
    eval operand here (λ v. operation_result here (function_of f least greatest v))
of_expression p here Eof = doing here.line at_end scalar
of_expression p here Eoln = doing here.line at_line_end scalar

-- A conformant array is located, its bounds are read, and then its cells.
abbrev pub whole_array : ProgramRows → (row t : ℕ) → Here → (Dimensions → WholeArray → ActTree) → ActTree
whole_array p row t here go = Sub (Locate row false here) (on_bounded (λ addr frame.
    with_dimensions (dimensions_of p t) (λ d. doing here.line (whole_at d addr frame) (go d))))

-- the value of a variable of a type
abbrev pub access_value : ProgramRows → (row t : ℕ) → Here → (conformant : Bool) → ActTree
access_value p row t here true = whole_array p row t here (λ d w. Ret (Cells w.cells))
access_value p row t here false = locate row here (λ addr. value_at p here.line addr (type_at p t))

-- An access that is used for its value takes no step beside its own.
abbrev pub expression_in : ProgramRows → (row : ℕ) → Here → Row → ActTree
expression_in p row here (Row.Expression e) = spend here (of_expression p here e)
expression_in p row here (Row.Access a) =
    access_value p row (type_accessed a) here (is_conformant p (type_accessed a))
expression_in p row here r = no_row

-- the cells of a value parameter of a type, from the value of its actual; the whole of an array or a record is copied
-- as it is
abbrev pub on_actual : ProgramRows → Here → Option TypeRow → (List Value → ActTree) → Out → ActTree
on_actual p here t go (Scalar v) = doing here.line (tested p t v) (λ w. go (w ∷ []))
on_actual p here t go (Cells vs) = go vs
on_actual p here t go (Jump label base) = Ret (Jump label base)
on_actual p here t go out = no_row

-- A routine as an actual parameter, whose name takes a step, is passed with the frame in which it was declared.
abbrev pub pass_routine : Here → (next : ℕ) → Passed → Action (ℕ × ℕ) → ActTree
pass_routine here next passed found = spend here (doing here.line found (λ (routine, frame).
    Sub (Pass next (and_cells passed (Value.Routine routine frame ∷ [])) here) Ret))

-- ---- arrays as actuals of conformant parameters

-- An access of an array, of a fixed type or conformant: its address, and its extents for the specs of a schema, which
-- of a conformant one are read then.
abbrev pub array_placed : ProgramRows → (access t : ℕ) → List HeldSpec → Here → (conformant : Bool)
    → (List Extent → ℕ → ActTree) → ActTree
array_placed p access t specs here true go = Sub (Locate access false here) (on_bounded (λ addr frame.
    with_dimensions (dimensions_of p t) (λ d. doing here.line (extents_at d.specs frame) (λ es.
    go (es ++ inner_extents p d specs) addr))))
array_placed p access t specs here false go =
    locate access here (λ addr. go (fixed_extents p specs (type_at p t)) addr)

-- the same as a value: its extents, and then its cells
abbrev pub array_copied : ProgramRows → (access t : ℕ) → List HeldSpec → Here → (conformant : Bool)
    → (WholeArray → ActTree) → ActTree
array_copied p access t specs here true go = whole_array p access t here (λ d w.
    go (record { extents = w.extents ++ inner_extents p d specs; cells = w.cells }))
array_copied p access t specs here false go = locate access here (λ addr. with_size (type_at p t) (λ cells.
    doing here.line (read_values [] addr cells) (λ vs.
    go (record { extents = fixed_extents p specs (type_at p t); cells = vs }))))

-- a string has the indices from 1 on
abbrev pub text_whole : List Value → WholeArray
text_whole vs =
    record { extents = (record { least = pos 1; greatest = pos (length vs) }) ∷ []; cells = vs }

abbrev pub whole_in : ProgramRows → (row : ℕ) → List HeldSpec → Here → Row → (WholeArray → ActTree) → ActTree
whole_in p row specs here (Row.Access a) go =
    array_copied p row (type_accessed a) specs here (is_conformant p (type_accessed a)) go
whole_in p row specs here (Row.Expression e) go = eval_cells row here (λ vs. go (text_whole vs))
whole_in p row specs here r go = no_row

abbrev pub placed_in : ProgramRows → (row : ℕ) → List HeldSpec → Here → Row → (List Extent → ℕ → ActTree) → ActTree
placed_in p row specs here (Row.Access a) go =
    array_placed p row (type_accessed a) specs here (is_conformant p (type_accessed a)) go
placed_in p row specs here r go = no_row

-- The first actual of a section passes its bounds, which are tested for the types of the specs; the others have the
-- same.
abbrev pub section_bounds : Here → (first : Bool) → List HeldSpec → List Extent → Passed → (Passed → ActTree) → ActTree
section_bounds here true specs es passed go =
    doing here.line (bounds_tested es specs) (λ _. go (and_cells passed (bound_values es)))
section_bounds here false specs es passed go = go passed

-- The actual parameters from an item on, from left to right (6.6.3.2 to 6.6.3.8).
abbrev pub of_actual : ProgramRows → Passed → Here → Row → ActTree
of_actual p passed here (Row.Item (ItemRow.Value e of' next)) =
    Sub (Eval e here) (on_actual p here (type_at p of') (λ vs. Sub (Pass next (and_cells passed vs) here) Ret))
of_actual p passed here (Row.Item (ItemRow.Place access next)) = locate access here (λ addr.
    Sub (Pass next (and_cells passed (Value.Place addr ∷ [])) here) Ret)
of_actual p passed here (Row.Item (ItemRow.ArrayPlace first access of' next)) =
    with_dimensions (dimensions_of p of') (λ d. placed_in p access d.specs here (row_at p access) (λ es addr.
    section_bounds here first d.specs es passed (λ q.
    Sub (Pass next (and_cells q (Value.Place addr ∷ [])) here) Ret)))
of_actual p passed here (Row.Item (ItemRow.ArrayValue first e of' next)) =
    with_dimensions (dimensions_of p of') (λ d. whole_in p e d.specs here (row_at p e) (λ w.
    section_bounds here first d.specs w.extents passed (λ q. Sub (Pass next (and_copy q w.cells) here) Ret)))
of_actual p passed here (Row.Item (ItemRow.Routine routine levels next)) =
    pass_routine here next passed (frame_out levels here.base >>= λ frame. Give (routine, frame))
of_actual p passed here (Row.Item (ItemRow.RoutineFormal formal levels next)) =
    with_formal (row_at p formal) (λ place heading.
    pass_routine here next passed (routine_out p heading levels here.base place))
of_actual p passed here r = no_row

-- goes on with the members from an item on, where those before it passed their tests
abbrev pub gather : Here → (next : ℕ) → Result Value OpFault → ActTree
gather here next r = doing here.line (or_fault r) (λ set. Sub (Gather next set here) Ret)

-- The members of a set constructor from an item on, from left to right (6.7.1): each member, or both ends of a range,
-- is tested directly after it is evaluated.
abbrev pub of_members : Value → Here → Row → ActTree
of_members set here (Row.Item (ItemRow.Member e next)) =
    eval e here (λ v. gather here next (members_added set v v))
of_members set here (Row.Item (ItemRow.Members first last next)) =
    eval first here (λ v. eval last here (λ w. gather here next (members_added set v w)))
of_members set here r = no_row
