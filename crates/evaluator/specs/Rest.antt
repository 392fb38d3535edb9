-- What a body has still to do, by its tasks.
use Rattle.std.specs.Prelude.{if◌then◌else◌, ◌++◌, ◌∷◌, [], ℕ, ℤ, Bool, List, None, Option, Some, false, map, not}
use Rattle.std.specs.{Prelude.reverse, Prelude.true, Global.Vec}
use Rattle.cell_value.specs.declared.values.Value.{Value}
use Rattle.core_program.specs.{Accesses.with_components, Accesses.with_formal, Accesses.with_size, Actions.◌>>=◌}
use Rattle.core_program.specs.{Actions.Action, Actions.Give, Actions.act, Acts.Spend, Expressions.with_frame_size}
use Rattle.core_program.specs.{Heap.dispose, Heap.pointed_at, Output.end_line, Output.scalar_text, Output.string_text}
use Rattle.core_program.specs.{Packing.copies, Packing.moves, Passed.ArrayCopy, Passed.Passed, Passed.and_cells}
use Rattle.core_program.specs.{Passed.and_copy, Run.return_of, Transfers.into, Transfers.on_text, Transfers.print}
use Rattle.core_program.specs.{Tree.Scalar, Tree.Sub, Tree.bind, Tree.doing, Variants.assign_to, Variants.tag_accessed}
use Rattle.core_program.specs.Accesses.{address, component_found, eval, eval_cells, is_conformant, locate, locate_field}
use Rattle.core_program.specs.Accesses.{no_row, on_address, on_bounded, on_cells, on_scalar, scalar, spend, value_at}
use Rattle.core_program.specs.Cells.{component, frame_out, routine_out, write, writes}
use Rattle.core_program.specs.Expressions.{enter, entering, gather, on_actual, on_actuals, operation_result}
use Rattle.core_program.specs.ProgramRows.{ProgramRows, routine_at, row_at, type_at}
use Rattle.core_program.specs.Statements.{chosen_by, finally, first_turn, has_turn, inside, line_of, nothing}
use Rattle.core_program.specs.Statements.{of_statement, on_labelled, on_normal, on_statement, on_value, turn_after}
use Rattle.core_program.specs.Tree.{ActTree, Actuals, Address, Bounded, Cells, Enter, Here, Jump, Nothing, Out, Ret}
use Rattle.core_program.specs.Tree as parts
use Rattle.core_program.specs.Values.{function_of, is_true, members_added, texts_compared, truth, with_sign_of}
use Rattle.core_program.specs.declared.{program.Routine.Routine, rows.Row.Row, rows.StatementRow.StatementRow}
use Rattle.eval_ops.specs.Conformant.{ArrayActual, conformant_actual, conformant_component, conformant_whole}
use Rattle.eval_ops.specs.Conformant.{fixed_actual, fixed_bounds, place_bounds, text_actual}
use Rattle.eval_ops.specs.Operators.{dyadic_of}
use Rattle.evaluator.specs.{Records.without_last, declared.body.Body.Body, declared.body.Copied.Copied}
use Rattle.evaluator.specs.declared.tasks.{ArrayPlaces.ArrayPlaces, ArrayRows.ArrayRows, ChoiceTask.ChoiceTask}
use Rattle.evaluator.specs.declared.tasks.{Home.Home, Located.Located, Next.Next, OperandTask.OperandTask, Part.Part}
use Rattle.evaluator.specs.declared.tasks.{Reading.Reading, Task.Task, TransferTask.TransferTask, Way.Way}
use Rattle.evaluator.specs.declared.tasks.Now.{Now, TheVariants.Begin, TheVariants.Came, TheVariants.Carry}

abbrev pub here : Home → (line : ℕ) → Here
here home line = record { line = line; base = home.base; records = home.records }

-- the value, or the list, that was the last to wait, and those below it
abbrev pub top : List Value → Value
top [] = Value.Undefined
top (v ∷ vs) = v

abbrev pub below_top : {A : Type 0} → List A → List A
below_top [] = []
below_top (x ∷ xs) = xs

-- the lists that wait, the last first: of cells, and, for each call whose actual parameters are passed, of the copies
-- that go with them
pub record Lists : Type 0 where
  pub cells : List (List Value)
  pub copies : List (List ArrayCopy)

abbrev pub first_of : {A : Type 0} → List (List A) → List A
first_of [] = []
first_of (l ∷ ls) = l

abbrev pub top_list : Lists → List Value
top_list ls = first_of ls.cells

-- what was passed so far of the innermost call
abbrev pub top_passed : Lists → Passed
top_passed ls = record { cells = first_of ls.cells; copies = first_of ls.copies }

abbrev pub below_list : Lists → Lists
below_list ls = record { cells = below_top ls.cells; copies = ls.copies }

abbrev pub below_passed : Lists → Lists
below_passed ls = record { cells = below_top ls.cells; copies = below_top ls.copies }

-- one list of cells more
abbrev pub and_list : List Value → Lists → Lists
and_list l ls = record { cells = l ∷ ls.cells; copies = ls.copies }

-- one copy more that goes with what is passed
abbrev pub with_copy : Lists → ArrayCopy → Lists
with_copy ls c = record { cells = ls.cells; copies = (first_of ls.copies ++ c ∷ []) ∷ below_top ls.copies }

-- one call more, which begins with its actual parameters
abbrev pub and_passing : Lists → Lists
and_passing ls = record { cells = [] ∷ ls.cells; copies = [] ∷ ls.copies }

-- ---- what each task does with what came, where `x` is the value that waited

abbrev pub after_operand : ProgramRows → Home → OperandTask → (x : Value) → Value → ActTree
after_operand p home (OperandTask.Sign minus line) x v = operation_result (here home line) (with_sign_of minus v)
after_operand p home OperandTask.Not x v = scalar (truth (not (is_true v)))
after_operand p home (OperandTask.Right dyadic right line) x v =
    eval right (here home line) (λ y. operation_result (here home line) (dyadic_of dyadic v y))
after_operand p home (OperandTask.Both dyadic line) x v = operation_result (here home line) (dyadic_of dyadic x v)
after_operand p home (OperandTask.Member next line) x v = gather (here home line) next (members_added x v v)
after_operand p home (OperandTask.First last next line) x v =
    eval last (here home line) (λ w. gather (here home line) next (members_added x v w))
after_operand p home (OperandTask.Function f least greatest line) x v =
    operation_result (here home line) (function_of f least greatest v)
after_operand p home (OperandTask.Component array addr line) x v = with_components p (type_at p array) (λ a.
    doing line (component a addr v) address)

-- the actual parameters from an item on
abbrev pub pass : Home → (at line : ℕ) → Passed → ActTree
pass home at line passed = Sub (parts.Pass at passed (here home line)) Ret

-- an action after a step
abbrev pub paid : {A : Type 0} → Action A → Action A
paid a = act (Spend 1) >>= λ _. a

-- a routine that was declared this many blocks out, and the frame of that block
abbrev pub declared : (routine levels base : ℕ) → Action (ℕ × ℕ)
declared routine levels base = frame_out levels base >>= λ frame. Give (routine, frame)

abbrev pub located : ProgramRows → Home → Located → Passed → (addr : ℕ) → ActTree
located p home (Located.Value of' line) q addr = value_at p line addr (type_at p of')
located p home (Located.Index index array line) q addr = spend (here home line) (eval index (here home line) (λ v.
    with_components p (type_at p array) (λ a. doing line (component a addr v) address)))
located p home (Located.Field field target line) q addr =
    spend (here home line) (locate_field p target line addr field)
located p home (Located.Pointed line) q addr = spend (here home line) (doing line (pointed_at addr) address)
located p home (Located.Passed next line) q addr = pass home next line (and_cells q (Value.Place addr ∷ []))

-- the values of the cells of a conformant array
abbrev pub conformant_value : ProgramRows → (line of' addr frame : ℕ) → ActTree
conformant_value p line of' addr frame = doing line (conformant_whole p of' addr frame) (λ w. Ret (Cells w.cells))

-- a variable of a type that is located for its value, which may be a conformant array
abbrev pub value_wanted : ProgramRows → (line of' : ℕ) → (conformant : Bool) → Out → ActTree
value_wanted p line of' true = on_bounded (conformant_value p line of')
value_wanted p line of' false = on_address (λ addr. value_at p line addr (type_at p of'))

-- an array that is an actual variable parameter, by its address and the bounds that it passes
abbrev pub place_passed : Home → (next line : ℕ) → Passed → (addr : ℕ) → (bounds : List Value) → ActTree
place_passed home next line q addr bounds = pass home next line (and_cells (and_cells q bounds) (Value.Place addr ∷ []))

-- an array that is an actual value parameter
abbrev pub array_passed : Home → (next line : ℕ) → Passed → ArrayActual → ActTree
array_passed home next line q a = pass home next line (and_copy (and_cells q a.bounds) a.cells)

-- arrays of a type that are located as actuals, by the type of the parameter
abbrev pub place_found : ProgramRows → Home → (first : Bool) → (of' t next line : ℕ) → Passed → (conformant : Bool)
    → Out → ActTree
place_found p home first of' t next line q true = on_bounded (λ addr frame.
    doing line (place_bounds p first of' t frame) (place_passed home next line q addr))
place_found p home first of' t next line q false = on_address (λ addr.
    doing line (fixed_bounds p first of' t) (place_passed home next line q addr))

abbrev pub array_found : ProgramRows → Home → (first : Bool) → (of' t next line : ℕ) → Passed → (conformant : Bool)
    → Out → ActTree
array_found p home first of' t next line q true = on_bounded (λ addr frame.
    doing line (conformant_actual p first of' t addr frame) (array_passed home next line q))
array_found p home first of' t next line q false = on_address (λ addr.
    doing line (fixed_actual p first of' t addr) (array_passed home next line q))

-- an index in a conformant array, by the array's type and that of the component
abbrev pub conformant_indexed : ProgramRows → Home → (index array of' line : ℕ) → (addr frame : ℕ) → ActTree
conformant_indexed p home index array of' line addr frame = spend (here home line) (eval index (here home line) (λ v.
    doing line (conformant_component p array addr frame v) (component_found (is_conformant p of') frame)))

abbrev pub exec : Home → (row line : ℕ) → ActTree
exec home row line = Sub (parts.Exec row (here home line)) Ret

abbrev pub turn : Home → (row line : ℕ) → ActTree
turn home row line = Sub (parts.Turn row (here home line)) Ret

-- the end of a turn of a repeat statement
abbrev pub until : Home → (row line : ℕ) → Value → ActTree
until home row line v = if is_true v then nothing else turn home row line

abbrev pub after_choice : ProgramRows → Home → ChoiceTask → (x : Value) → Value → ActTree
after_choice p home (ChoiceTask.If then' line) x v = if is_true v then exec home then' line else nothing
after_choice p home (ChoiceTask.IfElse then' otherwise line) x v =
    if is_true v then exec home then' line else exec home otherwise line
after_choice p home (ChoiceTask.Case list line) x v = chosen_by p (here home line) list v
after_choice p home (ChoiceTask.While row body line) x v =
    if is_true v then Sub (parts.Exec body (here home line)) (on_normal (turn home row line)) else nothing
after_choice p home (ChoiceTask.Until row line) x v = until home row line v
after_choice p home (ChoiceTask.First last turns line) x v =
    eval last (here home line) (λ j. first_turn p (here home line) turns (row_at p turns) v j)
after_choice p home (ChoiceTask.Last turns line) x v = first_turn p (here home line) turns (row_at p turns) x v

-- after the turn of a for statement with a value up to which it had come
abbrev pub after_turn : Home → (row line : ℕ) → (i last : ℤ) → Row → ActTree
after_turn home row line i last (Row.Statement (StatementRow.Turns direction last' place of' body)) =
    if has_turn direction i last then turn_after row (here home line) direction place i last else no_row
after_turn home row line i last r = no_row

-- goes on with the two numbers that waited
abbrev pub with_numbers : (i last : Value) → (ℤ → ℤ → ActTree) → ActTree
with_numbers (Value.Number i) (Value.Number last) go = go i last
with_numbers i last go = no_row

-- after a statement that ended normally
abbrev pub after_next : ProgramRows → Home → Next → List Value → ActTree
after_next p home (Next.Sequence first at line) vs = Sub (parts.Sequence first at (here home line)) Ret
after_next p home (Next.Labelled row label line) vs = nothing
after_next p home (Next.Again row line) vs = turn home row line
after_next p home (Next.Condition row condition line) vs = eval condition (here home line) (until home row line)
after_next p home (Next.Counted row line) vs = with_numbers (top (below_top vs)) (top vs) (λ i last.
    after_turn home row line i last (row_at p row))
after_next p home Next.Forget vs = nothing
after_next p home (Next.PassLine line) vs = Sub (parts.RestOfLine (here home line)) Ret
after_next p home (Next.EndLine line) vs = finally (here home line) end_line

-- after a statement, which may have ended by a jump
abbrev pub after_statement : ProgramRows → Home → Next → List Value → Out → ActTree
after_statement p home (Next.Sequence first at line) vs = on_statement p (here home line) first at
after_statement p home (Next.Labelled row label line) vs = on_labelled row label (here home line)
after_statement p home t vs = on_normal (after_next p home t vs)

-- a value that was read is for a variable, which is located
abbrev pub into_variable : ProgramRows → Home → Reading → Value → ActTree
into_variable p home a = into p (here home a.line) a.access a.of a.next

-- it goes into the variable, and then comes the next actual
abbrev pub stored : ProgramRows → Home → Reading → Value → (addr : ℕ) → ActTree
stored p home a v addr =
    doing a.line (assign_to p (tag_accessed p (row_at p a.access)) (type_at p a.of) addr v) (λ _.
    Sub (parts.Receive a.next (here home a.line)) Ret)

-- after a part of an actual of a read or a write statement
abbrev pub after_transfer : ProgramRows → Home → TransferTask → List Value → Lists → Out → ActTree
after_transfer p home (TransferTask.Integer a) vs ls = on_scalar (into_variable p home a)
after_transfer p home (TransferTask.Into a) vs ls = on_address (stored p home a (top vs))
after_transfer p home (TransferTask.Written of' next line) vs ls = on_text p of' (λ text.
    print (here home line) next text None)
after_transfer p home (TransferTask.Wide of' width next line) vs ls = on_text p of' (λ text.
    eval width (here home line) (λ w. print (here home line) next text (Some w)))
after_transfer p home (TransferTask.Width host next line) vs ls = on_scalar (λ w.
    print (here home line) next (scalar_text host (top vs)) (Some w))
after_transfer p home (TransferTask.TextWidth next line) vs ls = on_scalar (λ w.
    print (here home line) next (string_text (top_list ls)) (Some w))

-- the cells of arrays are copied, the one way or the other, from or to an address in the unpacked one
abbrev pub copied : Home → (packing : Bool) → ArrayPlaces → (cells at : ℕ) → ActTree
copied home packing a cells at =
    finally (here home a.line) (if packing then copies at a.close cells else copies a.close at cells)

-- the components of arrays are moved, once both are located and the index is known
abbrev pub arrays_moved : ProgramRows → Home → (packing : Bool) → ArrayPlaces → Value → ActTree
arrays_moved p home packing a v =
    moves p (here home a.line) packing a.unpacked a.packed a.wide a.close v (finally (here home a.line))

-- both arrays of a pack or an unpack statement are located
abbrev pub both_located : ProgramRows → Home → (packing : Bool) → (index : ℕ) → ArrayPlaces → ActTree
both_located p home packing index a = eval index (here home a.line) (arrays_moved p home packing a)

-- where the arrays are, by the addresses of the one that is located first and of the other
abbrev pub places : (packing : Bool) → ArrayRows → (first second : ℕ) → ArrayPlaces
places packing rows first second = record {
  unpacked = rows.unpacked;
  packed = rows.packed;
  wide = if packing then first else second;
  close = if packing then second else first;
  line = rows.line;
}

abbrev pub second_row : (packing : Bool) → ArrayRows → ℕ
second_row packing rows = if packing then rows.packed else rows.unpacked

-- the first of them is located
abbrev pub first_located : ProgramRows → Home → (packing : Bool) → ArrayRows → (first : ℕ) → ActTree
first_located p home packing rows first = locate (second_row packing rows) (here home rows.line) (λ second.
    both_located p home packing rows.index (places packing rows first second))

-- what comes after a call
abbrev pub after_call : (procedure : Bool) → Out → ActTree
after_call true out = on_normal nothing out
after_call false out = Ret out

-- a call, once its actual parameters are known
abbrev pub call_begun : ProgramRows → Home → (procedure : Bool) → (routine levels line : ℕ) → Passed → ActTree
call_begun p home procedure routine levels line passed = with_frame_size (routine_at p routine) (λ cells.
    doing line (frame_out levels home.base) (λ frame.
    Enter (entering routine cells frame passed) (after_call procedure)))

-- the call of a routine parameter, once its actual parameters are known
abbrev pub called_formal : ProgramRows → Home → (procedure : Bool) → (formal levels line : ℕ) → Passed → ActTree
called_formal p home procedure formal levels line passed = with_formal (row_at p formal) (λ place heading.
    doing line (routine_out p heading levels home.base place) (λ (routine, frame).
    enter p routine frame passed (after_call procedure)))

-- what a task does with how the part before it ended
abbrev pub after_part : ProgramRows → Home → Task → List Value → Lists → Out → ActTree
after_part p home (Task.Operand t) vs ls = on_scalar (after_operand p home t (top vs))
after_part p home (Task.Located (Located.Value of' line)) vs ls = value_wanted p line of' (is_conformant p of')
after_part p home (Task.Located t) vs ls = on_address (located p home t (top_passed ls))
after_part p home (Task.Actual of' next line) vs ls = on_actual p (here home line) (type_at p of') (λ ws.
    pass home next line (and_cells (top_passed ls) ws))
after_part p home (Task.BoundedIndex index array of' line) vs ls =
    on_bounded (conformant_indexed p home index array of' line)
after_part p home (Task.BoundedComponent array of' addr frame line) vs ls = on_scalar (λ v.
    doing line (conformant_component p array addr frame v) (component_found (is_conformant p of') frame))
after_part p home (Task.ArrayPlace first of' t next line) vs ls =
    place_found p home first of' t next line (top_passed ls) (is_conformant p t)
after_part p home (Task.ArrayValue first of' t next line) vs ls =
    array_found p home first of' t next line (top_passed ls) (is_conformant p t)
after_part p home (Task.TextValue first of' next line) vs ls = on_cells (λ ws.
    doing line (text_actual p first of' ws) (array_passed home next line (top_passed ls)))
after_part p home (Task.Call procedure routine levels line) vs ls =
    on_actuals (call_begun p home procedure routine levels line)
after_part p home (Task.CallFormal procedure formal levels line) vs ls =
    on_actuals (called_formal p home procedure formal levels line)
after_part p home (Task.Range next line) vs ls = on_scalar (λ w.
    gather (here home line) next (members_added (top (below_top vs)) (top vs) w))
after_part p home (Task.TextRight order right line) vs ls = on_cells (λ xs.
    eval_cells right (here home line) (λ ys. operation_result (here home line) (texts_compared order xs ys)))
after_part p home (Task.Texts order line) vs ls = on_cells (λ ys.
    operation_result (here home line) (texts_compared order (top_list ls) ys))
after_part p home (Task.Choice t) vs ls = on_scalar (after_choice p home t (top vs))
after_part p home (Task.Target target of' line) vs ls = on_value p (here home line) target of'
after_part p home (Task.Put target of' line) vs ls = on_address (λ addr.
    finally (here home line) (assign_to p (tag_accessed p (row_at p target)) (type_at p of') addr (top vs)))
after_part p home (Task.PutCells line) vs ls = on_address (λ addr.
    finally (here home line) (writes addr (top_list ls)))
after_part p home (Task.Record next body line) vs ls = on_address (λ addr.
    Sub (parts.Establish next body (inside (here home line) addr)) Ret)
after_part p home (Task.Point line) vs ls = on_address (λ addr. finally (here home line) (write addr (top vs)))
after_part p home (Task.Dispose of' line) vs ls = on_scalar (λ v.
    with_size (type_at p of') (λ cells. finally (here home line) (dispose cells v)))
after_part p home (Task.Next t) vs ls = after_statement p home t vs
after_part p home Task.Leave vs ls = Ret
after_part p home (Task.Transfer t) vs ls = after_transfer p home t vs ls
after_part p home (Task.PackFirst packing rows) vs ls = on_address (first_located p home packing rows)
after_part p home (Task.PackSecond packing rows first) vs ls = on_address (λ second.
    both_located p home packing rows.index (places packing rows first second))
after_part p home (Task.PackIndex packing a) vs ls = on_scalar (arrays_moved p home packing a)

-- the values that wait below those that a task holds
abbrev pub values_below : Task → List Value → List Value
values_below (Task.Operand (OperandTask.Both dyadic line)) vs = below_top vs
values_below (Task.Operand (OperandTask.Member next line)) vs = below_top vs
values_below (Task.Operand (OperandTask.First last next line)) vs = below_top vs
values_below (Task.Range next line) vs = below_top (below_top vs)
values_below (Task.Choice (ChoiceTask.Last turns line)) vs = below_top vs
values_below (Task.Put target of' line) vs = below_top vs
values_below (Task.Point line) vs = below_top vs
values_below (Task.Next (Next.Counted row line)) vs = below_top (below_top vs)
values_below (Task.Transfer (TransferTask.Into a)) vs = below_top vs
values_below (Task.Transfer (TransferTask.Width host next line)) vs = below_top vs
values_below t vs = vs

-- the lists that wait below those that a task holds
abbrev pub lists_below : Task → Lists → Lists
lists_below (Task.Located (Located.Passed next line)) ls = below_passed ls
lists_below (Task.Actual of' next line) ls = below_passed ls
lists_below (Task.ArrayPlace first of' t next line) ls = below_passed ls
lists_below (Task.ArrayValue first of' t next line) ls = below_passed ls
lists_below (Task.TextValue first of' next line) ls = below_passed ls
lists_below (Task.PutCells line) ls = below_list ls
lists_below (Task.Texts order line) ls = below_list ls
lists_below (Task.Transfer (TransferTask.TextWidth next line)) ls = below_list ls
lists_below t ls = ls

-- without the innermost record that a with statement has established, and without any
abbrev pub with_left : Home → Home
with_left home = record home { records = without_last home.records }

abbrev pub bare : Home → Home
bare home = record home { records = [] }

-- where what is below a task is at work
abbrev pub home_below : Task → Home → Home
home_below Task.Leave home = with_left home
home_below t home = home

-- how the body's routine returns, once its statement part has ended
abbrev pub returns : ProgramRows → Home → Option Routine → ActTree
returns p home None = no_row
returns p home (Some r) = return_of p home.base r r.result

-- how the tasks that wait, the last of them first, go on after a part
abbrev pub resume : ProgramRows → Home → List Task → List Value → Lists → Out → ActTree
resume p home [] vs ls out = on_normal (returns p home (routine_at p home.routine)) out
resume p home (t ∷ ts) vs ls out =
    bind (after_part p home t vs ls out) (resume p (home_below t home) ts (values_below t vs) (lists_below t ls))

-- ---- what is at work

abbrev pub carry_with : ProgramRows → Home → (row : ℕ) → StatementRow → Option ℕ → ActTree
carry_with p home row s (Some line) = of_statement p row (here home line) s
carry_with p home row s None = no_row

-- a statement whose line is told
abbrev pub carried : ProgramRows → Home → (row : ℕ) → Row → ActTree
carried p home row (Row.Statement s) = carry_with p home row s (line_of s)
carried p home row r = no_row

-- a part has ended
abbrev pub came : ProgramRows → Home → Way → List Task → List Value → Lists → ActTree
came p home Way.Nothing ts vs ls = resume p home ts vs ls Nothing
came p home (Way.Scalar v) ts vs ls = resume p home ts vs ls (Scalar v)
came p home Way.Cells ts vs ls = resume p home ts vs (below_list ls) (Cells (top_list ls))
came p home Way.Actuals ts vs ls = resume p home ts vs (below_passed ls) (Actuals (top_passed ls))
came p home (Way.Address addr) ts vs ls = resume p home ts vs ls (Address addr)
came p home (Way.Bounded addr frame) ts vs ls = resume p home ts vs ls (Bounded addr frame)
came p home (Way.Jump label base) ts vs ls = resume p home ts vs ls (Jump label base)

-- a part begins
abbrev pub begun : ProgramRows → Home → Part → List Task → List Value → Lists → ActTree
begun p home (Part.Eval row line) ts vs ls = Sub (parts.Eval row (here home line)) (resume p home ts vs ls)
begun p home (Part.Locate row target line) ts vs ls =
    Sub (parts.Locate row target (here home line)) (resume p home ts vs ls)
begun p home (Part.Pass at line) ts vs ls =
    Sub (parts.Pass at (top_passed ls) (here home line)) (resume p home ts vs (below_passed ls))
begun p home (Part.Gather at line) ts vs ls =
    Sub (parts.Gather at (top vs) (here home line)) (resume p home ts (below_top vs) ls)
begun p home (Part.Establish at body line) ts vs ls =
    Sub (parts.Establish at body (here home line)) (resume p home ts vs ls)
begun p home (Part.Exec row line) ts vs ls = Sub (parts.Exec row (here home line)) (resume p home ts vs ls)
begun p home (Part.Sequence first at line) ts vs ls =
    Sub (parts.Sequence first at (here home line)) (resume p home ts vs ls)
begun p home (Part.Turn row line) ts vs ls = Sub (parts.Turn row (here home line)) (resume p home ts vs ls)
begun p home Part.Block ts vs ls = Sub (parts.Body home.routine home.base) (resume p (bare home) ts vs ls)
begun p home (Part.Receive at line) ts vs ls = Sub (parts.Receive at (here home line)) (resume p home ts vs ls)
begun p home (Part.Scanning scan line) ts vs ls = Sub (parts.Scanning scan (here home line)) (resume p home ts vs ls)
begun p home (Part.RestOfLine line) ts vs ls = Sub (parts.RestOfLine (here home line)) (resume p home ts vs ls)
begun p home (Part.Print at line) ts vs ls = Sub (parts.Print at (here home line)) (resume p home ts vs ls)

abbrev pub left_now : ProgramRows → Home → Now → List Task → List Value → Lists → ActTree
left_now p home (Begin part) ts vs ls = begun p home part ts vs ls
left_now p home (Carry row) ts vs ls = bind (carried p home row (row_at p row)) (resume p home ts vs ls)
left_now p home (Came way) ts vs ls = came p home way ts vs ls

-- ---- bodies

-- what waits in a body, the last first
abbrev pub tasks_of : Body → List Task
tasks_of a = reverse a.tasks.items

abbrev pub values_of : Body → List Value
values_of a = reverse a.values.items

abbrev pub copy_of : Copied → ArrayCopy
copy_of c = record { at = c.at; cells = c.cells }

abbrev pub copies_in : Vec Copied → List ArrayCopy
copies_in cs = map copy_of cs.items

abbrev pub lists_of : Body → Lists
lists_of a = record { cells = reverse a.lists.items; copies = reverse (map copies_in a.copies.items) }

-- what a body had to do with another state of work
abbrev pub from : ProgramRows → Body → Now → ActTree
from p a now = left_now p a.home now (tasks_of a) (values_of a) (lists_of a)

-- what a body has still to do
abbrev pub rest_of : ProgramRows → Body → ActTree
rest_of p a = from p a a.now

-- how a body goes on after a part, or after a call that it stopped at
abbrev pub waiting : ProgramRows → Body → Out → ActTree
waiting p a = resume p a.home (tasks_of a) (values_of a) (lists_of a)

-- how it goes on once the last list that waits is taken, or what was passed of the innermost call
abbrev pub under_list : ProgramRows → Body → Out → ActTree
under_list p a = resume p a.home (tasks_of a) (values_of a) (below_list (lists_of a))

abbrev pub under_passed : ProgramRows → Body → Out → ActTree
under_passed p a = resume p a.home (tasks_of a) (values_of a) (below_passed (lists_of a))

-- what a body had to do with another state of work, and one task more that waits
abbrev pub from_under : ProgramRows → Body → Now → Task → ActTree
from_under p a now t = left_now p a.home now (t ∷ tasks_of a) (values_of a) (lists_of a)
