-- What each statement does (6.8).
use Rattle.std.specs.Prelude.{if◌then◌else◌, ◌&&◌, ◌++◌, ◌+ℤ◌, ◌-ℤ◌, ◌==◌, ◌∷◌, [], ℕ, ℤ, Bool, None, Option, Some}
use Rattle.std.specs.Prelude.{false, int_le, length, nat_lt, pos}
use Rattle.std.specs.Ordering.{int_eq}
use Rattle.cell_value.specs.declared.values.Value.{Value}
use Rattle.cell_value.specs.declared.values.Value.TheVariants as value
use Rattle.cell_value.specs.declared.ways_out.Kind.TheVariants as kind
use Rattle.core_program.specs.{Actions.◌>>=◌, Actions.Action, Acts.Fault, State.moved, Values.is_true, Values.tested}
use Rattle.core_program.specs.Cells.{frame_out, write, writes}
use Rattle.core_program.specs.ProgramRows.{ProgramRows, row_at, type_at}
use Rattle.core_program.specs.Tree.{ActTree, Cells, Count, Establish, Eval, Exec, Halt, Here, Jump, Line, Nothing, Out}
use Rattle.core_program.specs.Tree.{Print, Receive, RestOfLine, Ret, Scalar, Sequence, Sub, Turn, doing}
use Rattle.core_program.specs.declared.rows.{Row.Row, StatementRow.StatementRow, TypeRow.TypeRow}
use Rattle.core_program.specs.declared.rows.Direction.{Direction, TheVariants.Down, TheVariants.Up}
use Rattle.core_program.specs.declared.rows.ItemRow.TheVariants as item
use Rattle.core_program.specs.declared.rows.Row.TheVariants as rows
use Rattle.core_program.specs.declared.rows.StatementRow.TheVariants.{Assign, Call, CallFormal, Case, Compound, Dispose}
use Rattle.core_program.specs.declared.rows.StatementRow.TheVariants.{Empty, For, Goto, If, IfElse, Labelled, New, Pack}
use Rattle.core_program.specs.declared.rows.StatementRow.TheVariants.{Page, Read, Repeat, Turns, While, With, Write}
pub use Rattle.core_program.specs.Choices.{Sought, unless_end, along, on_to, choose_at, choice_along, choice_of}
use Rattle.core_program.specs.{Heap.dispose, Heap.made_variable, Output.end_line, Output.end_page, Packing.pack}
use Rattle.core_program.specs.Accesses.{eval, locate, locate_target, no_row, spend, with_size}
use Rattle.core_program.specs.Expressions.{call, call_formal}
use Rattle.core_program.specs.Variants.{assign_to, tag_accessed}

-- goes on after a statement that ended normally; a jump goes on outward
abbrev pub on_normal : ActTree → Out → ActTree
on_normal next (Jump label base) = Ret (Jump label base)
on_normal next out = next

abbrev pub nothing : ActTree
nothing = Ret Nothing

-- an action, after which a statement has ended
abbrev pub finally : Here → Action (Unit {0}) → ActTree
finally here a = doing here.line a (λ _. nothing)

-- A target is located and gets a value of a scalar type, which is tested for the target's type then (6.8.2.2).
abbrev pub put_into : ProgramRows → Here → (target of' : ℕ) → Value → ActTree
put_into p here target of' v = locate_target target here (λ addr.
    finally here (assign_to p (tag_accessed p (row_at p target)) (type_at p of') addr v))

-- Puts the value of an assignment into its target, which is located after the value is known.
abbrev pub on_value : ProgramRows → Here → (target of' : ℕ) → Out → ActTree
on_value p here target of' (Scalar v) = put_into p here target of' v
on_value p here target of' (Cells vs) = locate_target target here (λ addr. finally here (writes addr vs))
on_value p here target of' (Jump label base) = Ret (Jump label base)
on_value p here target of' out = no_row

abbrev pub choose : Here → Sought → ActTree
choose here (Some (Some s)) = Sub (Exec s here) Ret
choose here (Some None) = Halt here.line (Fault kind.NoCase)
choose here None = no_row

abbrev pub chosen_by : ProgramRows → Here → (choices : ℕ) → Value → ActTree
chosen_by p here choices (value.Number i) = choose here (choice_of p (length p.rows) choices i)
chosen_by p here choices _ = Halt here.line (Fault kind.Undefined)

-- whether a for statement has a turn with this value, where it counts to the last one (6.8.3.9)
abbrev pub has_turn : Direction → (i last : ℤ) → Bool
has_turn Up i last = int_le i last
has_turn Down i last = int_le last i

-- the value of the control variable in the turn after one
abbrev pub value_after : Direction → ℤ → ℤ
value_after Up i = i +ℤ pos 1
value_after Down i = i -ℤ pos 1

-- The control variable of a for statement that ended normally is undefined.
abbrev pub undefine : Here → (place : ℕ) → ActTree
undefine here place = finally here (write (moved here.base place) value.Undefined)

-- both bounds of a for statement that has a turn are within the control variable's type
abbrev pub bounds_tested : ProgramRows → Option TypeRow → (i last : ℤ) → Action Value
bounds_tested p t i last = tested p t (value.Number i) >>= λ _. tested p t (value.Number last)

-- a for statement, once its bounds are known
abbrev pub first_turn : ProgramRows → Here → (turns : ℕ) → Row → Value → Value → ActTree
first_turn p here turns (rows.Statement (Turns direction last' place of' body)) (value.Number i) (value.Number last) =
    if has_turn direction i last then doing here.line (bounds_tested p (type_at p of') i last) (λ _.
    Sub (Count turns i last here) Ret) else undefine here place
first_turn p here turns (rows.Statement (Turns direction last' place of' body)) _ _ =
    Halt here.line (Fault kind.Undefined)
first_turn p here turns r _ _ = no_row

-- the bounds of a for statement, both evaluated before the first turn
abbrev pub bounds : ProgramRows → Here → (initial turns : ℕ) → Row → ActTree
bounds p here initial turns (rows.Statement (Turns direction last place of' body)) =
    eval initial here (λ i. eval last here (λ j. first_turn p here turns (row_at p turns) i j))
bounds p here initial turns r = no_row

-- A pointer gets a value that needs no test; it is a target, and is located after the value is known.
abbrev pub point : Here → (target : ℕ) → Value → ActTree
point here target v = locate_target target here (λ addr. finally here (write addr v))

-- a statement, once its step is taken and its line is told
abbrev pub of_statement : ProgramRows → (row : ℕ) → Here → StatementRow → ActTree
of_statement p row here (Assign line target e of') = Sub (Eval e here) (on_value p here target of')
of_statement p row here (Call line routine levels actuals) = call p here routine levels actuals (on_normal nothing)
of_statement p row here (If line condition then') = eval condition here (λ v.
    if is_true v then Sub (Exec then' here) Ret else nothing)
of_statement p row here (IfElse line condition then' otherwise) = eval condition here (λ v.
    if is_true v then Sub (Exec then' here) Ret else Sub (Exec otherwise here) Ret)
of_statement p row here (Case line selector choices) = eval selector here (chosen_by p here choices)
of_statement p row here (Repeat line statements condition) = Sub (Turn row here) Ret
of_statement p row here (While line condition body) = Sub (Turn row here) Ret
of_statement p row here (For line initial turns) = bounds p here initial turns (row_at p turns)
of_statement p row here (CallFormal line formal levels actuals) =
    call_formal p here formal levels actuals (on_normal nothing)
of_statement p row here (Goto line label levels) = doing here.line (frame_out levels here.base) (λ base.
    Ret (Jump label base))
of_statement p row here (With line records body) = Sub (Establish records body here) Ret
of_statement p row here (Read ends_line line actuals) =
    Sub (Receive actuals here) (on_normal (if ends_line then Sub (RestOfLine here) Ret else nothing))
of_statement p row here (Write ends_line line actuals) =
    Sub (Print actuals here) (on_normal (if ends_line then finally here end_line else nothing))
of_statement p row here (Page line) = finally here end_page
of_statement p row here (Pack packing line unpacked index packed) =
    pack p here packing unpacked index packed (finally here)
of_statement p row here (New line access of') =
    with_size (type_at p of') (λ cells. doing here.line (made_variable cells of') (point here access))
of_statement p row here (Dispose line e of') =
    eval e here (λ v. with_size (type_at p of') (λ cells. finally here (dispose cells v)))
of_statement p row here s = no_row

-- the line of a statement that is neither compound nor empty
abbrev pub line_of : StatementRow → Option ℕ
line_of (Assign line target e of') = Some line
line_of (Call line routine levels actuals) = Some line
line_of (If line condition then') = Some line
line_of (IfElse line condition then' otherwise) = Some line
line_of (Case line selector choices) = Some line
line_of (Repeat line statements condition) = Some line
line_of (While line condition body) = Some line
line_of (For line initial turns) = Some line
line_of (CallFormal line formal levels actuals) = Some line
line_of (Goto line label levels) = Some line
line_of (With line records body) = Some line
line_of (Read ends_line line actuals) = Some line
line_of (Write ends_line line actuals) = Some line
line_of (Page line) = Some line
line_of (Pack packing line unpacked index packed) = Some line
line_of (New line access of') = Some line
line_of (Dispose line e of') = Some line
line_of s = None

-- A statement begins: it takes a step, and then its line is told.
abbrev pub begins : ProgramRows → (row : ℕ) → Here → StatementRow → Option ℕ → ActTree
begins p row here s (Some line) = Line line (of_statement p row (record here { line = line }) s)
begins p row here s None = no_row

-- A jump out of a labelled statement to its label, in the same frame, begins it again (6.8.1); its statement stands
-- after it.
abbrev pub on_labelled : (row label : ℕ) → Here → Out → ActTree
on_labelled row label here (Jump goal base) =
    if (goal == label) && (base == here.base) then Sub (Exec row here) Ret else Ret (Jump goal base)
on_labelled row label here out = nothing

abbrev pub statement : ProgramRows → (row : ℕ) → Here → StatementRow → ActTree
statement p row here Empty = spend here nothing
statement p row here (Compound statements) = spend here (Sub (Sequence statements statements here) Ret)
statement p row here (Labelled label inner) =
    if nat_lt row inner then Sub (Exec inner here) (on_labelled row label here) else no_row
statement p row here s = begins p row here s (line_of s)

abbrev pub statement_in : ProgramRows → (row : ℕ) → Here → Row → ActTree
statement_in p row here (rows.Statement s) = statement p row here s
statement_in p row here r = no_row

-- whether a statement has this label
abbrev pub has_label : Row → (label : ℕ) → Bool
has_label (rows.Statement (Labelled goal inner)) label = goal == label
has_label r label = false

-- the item of the statement that has a label, among those from an item on
abbrev pub item_labelled : ProgramRows → Row → (at label : ℕ) → (ℕ → Sought) → Sought
item_labelled p (rows.Item (item.Element s next)) at label go =
    if has_label (row_at p s) label then Some (Some at) else on_to at next go
item_labelled p r at label go = None

abbrev pub label_along : ProgramRows → (n at label : ℕ) → Sought
label_along p n at label = along (λ at go. item_labelled p (row_at p at) at label go) n at

abbrev pub labelled_in : ProgramRows → (n at label : ℕ) → Sought
labelled_in p n at label = unless_end at (label_along p n at label)

abbrev pub jumped : Here → (first label base : ℕ) → Sought → ActTree
jumped here first label base (Some (Some at)) = Sub (Sequence first at here) Ret
jumped here first label base (Some None) = Ret (Jump label base)
jumped here first label base None = no_row

-- After a statement of a sequence comes the next one. A jump to the label of a statement of the sequence, in the same
-- frame, goes on from that statement (6.8.1).
abbrev pub on_statement : ProgramRows → Here → (first next : ℕ) → Out → ActTree
on_statement p here first next (Jump label base) = jumped here first label base
    (if base == here.base then labelled_in p (length p.rows) first label else Some None)
on_statement p here first next out = Sub (Sequence first next here) Ret

-- The statements from an item on, in order (6.8.3.2), of the sequence that begins with the first item.
abbrev pub of_sequence : ProgramRows → Here → (first : ℕ) → Row → ActTree
of_sequence p here first (rows.Item (item.Element s next)) = Sub (Exec s here) (on_statement p here first next)
of_sequence p here first r = no_row

-- a turn of a while or repeat statement, and those after it (6.8.3.7, 6.8.3.8)
abbrev pub of_turn : (row : ℕ) → Here → Row → ActTree
of_turn row here (rows.Statement (While line condition body)) = eval condition here (λ v.
    if is_true v then Sub (Exec body here) (on_normal (Sub (Turn row here) Ret)) else nothing)
of_turn row here (rows.Statement (Repeat line statements condition)) =
    Sub (Sequence statements statements here) (on_normal (eval condition here (λ v.
    if is_true v then nothing else Sub (Turn row here) Ret)))
of_turn row here r = no_row

-- after a turn of a for statement with this value: the next one, or the end
abbrev pub turn_after : (row : ℕ) → Here → Direction → (place : ℕ) → (i last : ℤ) → ActTree
turn_after row here direction place i last =
    if int_eq i last then undefine here place else Sub (Count row (value_after direction i) last here) Ret

-- A turn of a for statement, and those after it: the control variable gets its value, and then the body is done.
abbrev pub of_count : (row : ℕ) → Here → (i last : ℤ) → Row → ActTree
of_count row here i last (rows.Statement (Turns direction last' place of' body)) =
    doing here.line (write (moved here.base place) (value.Number i)) (λ _.
    Sub (Exec body here) (on_normal (turn_after row here direction place i last)))
of_count row here i last r = no_row

-- inside of a with statement that has established the record at an address
abbrev pub inside : Here → (addr : ℕ) → Here
inside here addr = record here { records = here.records ++ addr ∷ [] }

-- The records of a with statement from an item on, each established before the next one and inside of those before it,
-- and then the body (6.8.3.10).
abbrev pub of_records : Here → (body : ℕ) → Row → ActTree
of_records here body (rows.Item (item.Element access next)) =
    locate access here (λ addr. Sub (Establish next body (inside here addr)) Ret)
of_records here body r = no_row
