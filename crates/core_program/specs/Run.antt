-- The meaning of a tree, of a call and of a run.
use Rattle.std.specs.Prelude.{if◌then◌else◌, ◌&&◌, ◌*◌, ◌++◌, ◌+◌, ◌-◌, ◌==◌, ◌∷◌, [], ℕ, ℤ, Err, List, None, Ok}
use Rattle.std.specs.Prelude.{Option, Result as Outcome_of, Some, drop, length, map, nat_lt, replicate, suc, take, zero}
use Rattle.std.specs.FinMap.{empty}
use Rattle.cell_value.specs.{Arithmetic.in_range_of, declared.entries.Touch.Touch, declared.faults.OpFault.OpFault}
use Rattle.cell_value.specs.declared.values.Value.{Value, TheVariants.Nil, TheVariants.Undefined}
use Rattle.cell_value.specs.declared.ways_out.{Kind.Kind, WayOut.WayOut, Which.Which, Which.TheVariants.Stack}
use Rattle.core_program.specs.{Accesses.scalar, Accesses.with_bounds, Acts.spent, Blocks.cleared, Blocks.filled}
use Rattle.core_program.specs.{Cells.read_value, Heap.pointer_result_at, Layer.layer, State.State, State.moved}
use Rattle.core_program.specs.{State.stack_end, Statements.nothing, Statements.on_normal, Tree.Sub, Tree.doing}
use Rattle.core_program.specs.{Tree.way_of, declared.program.Routine.Routine}
use Rattle.core_program.specs.Actions.{◌>>=◌, Action, Fail, Give}
use Rattle.core_program.specs.Acts.{ActResult, Fault, Limited, OutOfSteps, Spend, Stops, Went, limit_passed, perform}
use Rattle.core_program.specs.Passed.{args_at, cells_entered, nothing_passed}
use Rattle.core_program.specs.ProgramRows.{ProgramRows, routine_at, row_at, type_at}
use Rattle.core_program.specs.Tree.{ActTree, Body, Do, Enter, Halt, Jump, Line, Meaningless, Out, Part, Ret, Scalar}
use Rattle.core_program.specs.declared.rows.{PartRow.PartRow, Row.Row, TypeRow.TypeRow, TypeRow.TheVariants.Pointer}

-- ---- trees

-- how a tree or a call ended
pub data End : Type 0 where
  Ended : (out : Out) → End
  Halted : (way : WayOut) → End

-- an event, and how many entries of the log were made before it
pub record Marked (E : Type 0) : Type 0 where
  pub mark : ℕ
  pub event : E

-- what a run of a tree gave: its end, the state after it, the log, and the events in order
pub record Result (S E : Type 0) : Type 0 where
  pub end : End
  pub after : S
  pub log : List Touch
  pub events : List (Marked E)

-- events, this many entries of the log later
abbrev pub later_by : {E : Type 0} → ℕ → List (Marked E) → List (Marked E)
later_by n es = map (λ e. record { mark = n + e.mark; event = e.event }) es

module _ {S E : Type 0} where
  abbrev pub in_front : List Touch → List (Marked E) → Option (Result S E) → Option (Result S E)
  in_front log events None = None
  in_front log events (Some r) = Some (record {
    end = r.end;
    after = r.after;
    log = log ++ r.log;
    events = events ++ later_by (length log) r.events;
  })

  abbrev pub ends : End → S → Option (Result S E)
  ends e σ = Some (record { end = e; after = σ; log = []; events = [] })

  -- goes on from where a part or a call ended, if nothing stopped it
  abbrev pub on_end : End → Result S E → (Out → S → Option (Result S E)) → Option (Result S E)
  on_end (Ended out) r go = in_front r.log r.events (go out r.after)
  on_end (Halted way) r go = Some r

  abbrev pub joined : Option (Result S E) → (Out → S → Option (Result S E)) → Option (Result S E)
  joined None go = None
  joined (Some r) go = on_end r.end r go

-- What meanings differ in: the state that the acts work on, the events of a line, and what a call does, which may run
-- trees.
pub record Rules (S E : Type 0) : Type 0 where
  pub state_of : S → State
  pub with_state : S → State → S
  pub line : ℕ → List (Marked E)
  pub call : (ActTree → S → Option (Result S E)) → ℕ → List Value → S → Option (Result S E)

module _ {S E : Type 0} where
  abbrev pub on_done : {A : Type 0} → Rules S E → (line : ℕ) → S → ActResult A → (A → S → Option (Result S E))
      → Option (Result S E)
  on_done rules line σ (Went x log τ) go = in_front log [] (go x (rules.with_state σ τ))
  on_done rules line σ (Stops why log τ) go =
      in_front log [] (ends (Halted (way_of line why)) (rules.with_state σ τ))

  -- a limit that would be passed stops the run, and no step is taken for that
  abbrev pub if_allowed : Option Which → S → Option (Result S E) → Option (Result S E)
  if_allowed None σ goes = goes
  if_allowed (Some which) σ goes = ends (Halted (WayOut.Limited which)) σ

  -- A tree from a state, with its parts and its calls left open. Where the tables are not whole there is no result.
  abbrev pub walk : Rules S E → (Part → S → Option (Result S E)) → (ℕ → List Value → S → Option (Result S E)) → ActTree
      → S
      → Option (Result S E)
  walk rules sub call (Ret out) σ = ends (Ended out) σ
  walk rules sub call (Halt line why) σ = ends (Halted (way_of line why)) σ
  walk rules sub call Meaningless σ = None
  walk rules sub call (Do line act next) σ = on_done rules line σ (perform act (rules.state_of σ))
      (λ x τ. walk rules sub call (next x) τ)
  walk rules sub call (Sub part next) σ = joined (sub part σ) (λ out τ. walk rules sub call (next out) τ)
  walk rules sub call (Enter entering next) σ =
      if_allowed (limit_passed (rules.state_of σ) (cells_entered entering)) σ
      (joined (call entering.routine (args_at entering (rules.state_of σ).top) σ)
      (λ out τ. walk rules sub call (next out) τ))
  walk rules sub call (Line line next) σ = on_done rules line σ (perform (Spend 1) (rules.state_of σ))
      (λ _ τ. in_front [] (rules.line line) (walk rules sub call next τ))

  -- a tree from a state, where parts and calls stand at most n deep in one another
  abbrev pub within : Rules S E → ProgramRows → ℕ → ActTree → S → Option (Result S E)
  within rules p zero t σ = None
  within rules p (suc n) t σ = walk rules (λ part τ. within rules p n (layer p part) τ)
      (rules.call (λ u τ. within rules p n u τ)) t σ

-- ---- calls

-- the way out of a call
abbrev pub way_out : End → WayOut
way_out (Ended (Jump label base)) = WayOut.Jumped label base
way_out (Ended out) = WayOut.Returned
way_out (Halted way) = way

-- the value of a function that returned
abbrev pub result_in : End → Option Value
result_in (Ended (Scalar v)) = Some v
result_in e = None

-- The arguments of a call are the cells of the link and of the parameters, and after them the copies of arrays that
-- were passed by value.
abbrev pub copies_in : Routine → List Value → List Value
copies_in r args = drop r.parameters args

-- how many cells a frame has, with the copies
abbrev pub frame_size : Routine → List Value → ℕ
frame_size r args = r.cells + length (copies_in r args)

-- the cells of a frame: the link and the parameters, then cells of which none has a value, and then the copies
abbrev pub frame_cells : Routine → List Value → List Value
frame_cells r args =
    take r.cells (take r.parameters args ++ replicate r.cells Undefined) ++ copies_in r args

-- a call is entered
abbrev pub opened : State → State
opened σ = record σ { calls = σ.calls + 1; depth = σ.depth + 1 }

-- a call is left, at the depth before it
abbrev pub call_closed : ℕ → State → State
call_closed depth σ = record σ { depth = depth }

-- a frame of a routine is made at the top, with a step for each cell
abbrev pub with_frame : Routine → List Value → State → State
with_frame r args σ = record σ {
  cells = filled σ.top (frame_cells r args) σ.cells;
  top = σ.top + frame_size r args;
  steps = σ.steps - frame_size r args;
}

-- the frame of n cells at a base is removed
abbrev pub without_frame : ℕ → ℕ → State → State
without_frame base n σ = record σ { cells = cleared base n σ.cells; top = base }

-- a call; the calls below it come after it, in order of entry
pub record Call : Type 0 where
  pub routine : ℕ
  -- the link and the cells of the parameters, and then those of the copies
  pub args : List Value
  -- where its frame begins
  pub base : ℕ
  -- the open calls above it
  pub depth : ℕ
  -- before the call is entered
  pub entry : State
  -- after its frame is removed
  pub exit : State
  pub way : WayOut
  -- the value of a function that returned
  pub result : Option Value
  pub log : List Touch
  -- how many calls are below it
  pub below : ℕ

abbrev pub Outcome : Type 0
Outcome = Option (Result State Call)

-- the record of a call that went so
abbrev pub record_of : ℕ → List Value → State → Result State Call → Call
record_of routine args σ r = record {
  routine = routine;
  args = args;
  base = σ.top;
  depth = σ.depth;
  entry = σ;
  exit = r.after;
  way = way_out r.end;
  result = result_in r.end;
  log = r.log;
  below = length r.events;
}

-- changes what a run left
abbrev pub after_all : {S E : Type 0} → (S → S) → Option (Result S E) → Option (Result S E)
after_all change None = None
after_all change (Some r) = Some (record r { after = change r.after })

abbrev pub recorded : ℕ → List Value → State → Outcome → Outcome
recorded routine args σ None = None
recorded routine args σ (Some r) = Some (record r {
  events = (record { mark = 0; event = record_of routine args σ r }) ∷ r.events;
})

-- the type of a function's result, by its heading
abbrev pub type_in_heading : ProgramRows → Row → Option TypeRow
type_in_heading p (Row.Part (PartRow.Heading name sections (Some t))) = type_at p t
type_in_heading p r = None

-- a function whose result has no value of its type does not return
abbrev pub or_no_result : Outcome_of Value OpFault → Action Value
or_no_result (Ok v) = Give v
or_no_result (Err e) = Fail (Fault Kind.UndefinedResult)

abbrev pub result_read : (least greatest : ℤ) → (addr : ℕ) → Action Value
result_read least greatest addr = read_value addr >>= λ v. or_no_result (in_range_of v least greatest)

-- the result of a function of a type, which is the cell at an address
abbrev pub result_of_type : (line addr : ℕ) → Option TypeRow → ActTree
result_of_type line addr (Some (Pointer domain)) = doing line (pointer_result_at addr) scalar
result_of_type line addr t = with_bounds t (λ least greatest. doing line (result_read least greatest addr) scalar)

-- how a routine returns: a function by reading its result
abbrev pub return_of : ProgramRows → (base : ℕ) → Routine → Option ℕ → ActTree
return_of p base r None = nothing
return_of p base r (Some place) = result_of_type r.line (moved base place) (type_in_heading p (row_at p r.heading))

-- a routine's statement part in the frame at a base, and its return
abbrev pub whole : ProgramRows → (routine base : ℕ) → Routine → ActTree
whole p routine base r = Sub (Body routine base) (on_normal (return_of p base r r.result))

-- something that has a state in it: the state, and the same with a changed state
pub record Holder (S : Type 0) : Type 0 where
  pub state : S → State
  pub change : (State → State) → S → S

-- a routine at work in the frame at a base
abbrev pub at_work : {S E : Type 0} → ProgramRows → (ActTree → S → Option (Result S E)) → (routine : ℕ) → Routine
    → (base : ℕ) → S → Option (Result S E)
at_work p run routine r base = run (whole p routine base r)

-- A routine at work in a new frame, which is then removed however it ended. A frame that ends above the stack is not
-- made, nor one that needs more steps than are left. Where the tables lack the routine there is no result.
abbrev pub framed_run : {S E : Type 0} → Holder S → (work : Routine → ℕ → S → Option (Result S E)) → List Value → S
    → Option Routine → Option (Result S E)
framed_run holder work args s None = None
framed_run holder work args s (Some r) =
    if nat_lt stack_end ((holder.state s).top + frame_size r args) then ends (Halted (way_of 0 (Limited Stack))) s
    else if nat_lt (holder.state s).steps (frame_size r args) then
    ends (Halted (way_of 0 OutOfSteps)) (holder.change spent s)
    else after_all (holder.change (without_frame (holder.state s).top (frame_size r args)))
    (work r (holder.state s).top (holder.change (with_frame r args) s))

-- the same where it works on the state itself
abbrev pub in_frame : (work : Routine → ℕ → State → Outcome) → List Value → State → Option Routine → Outcome
in_frame work args σ r = framed_run (record { state = λ σ. σ; change = λ f σ. f σ }) work args σ r

-- a call of a routine
abbrev pub call_of : ProgramRows → (ActTree → State → Outcome) → ℕ → List Value → State → Outcome
call_of p run routine args σ =
    recorded routine args σ (after_all (call_closed σ.depth)
    (in_frame (at_work p run routine) args (opened σ) (routine_at p routine)))

-- ---- runs

-- a plain run: a call runs the routine, and a line is no event
abbrev pub plain : ProgramRows → Rules State Call
plain p = record { state_of = λ σ. σ; with_state = λ _ τ. τ; line = λ _. []; call = call_of p }

abbrev pub run_of : ProgramRows → ℕ → ActTree → State → Outcome
run_of p = within (plain p) p

-- The items of an input. A line ends with LF, and with a CR directly before it; the end of the last line is added
-- where it is missing.
abbrev pub input_items : List ℕ → List ℕ
input_items [] = []
input_items (b ∷ []) = if b == 10 then 256 ∷ [] else b ∷ 256 ∷ []
input_items (b ∷ c ∷ bs) =
    if b == 10 then 256 ∷ input_items (c ∷ bs)
    else if (b == 13) && (c == 10) then input_items (c ∷ bs)
    else b ∷ input_items (c ∷ bs)

-- no cells, an input and a budget of steps
abbrev pub start : (input : List ℕ) → (budget : ℕ) → State
start input budget = record {
  cells = empty;
  top = 0;
  fresh = stack_end;
  items = input_items input;
  place = 0;
  output = [];
  steps = budget;
  calls = 0;
  depth = 0;
}

-- The program block is a call whose link leads nowhere. It is entered also where its frame is too large for the stack.
abbrev pub block : ActTree
block = Enter (record { routine = 0; cells = 0; link = Nil; passed = nothing_passed }) Ret

-- So deep can parts and calls stand in one another: each takes a step, or is an access before another, or a labelled
-- statement, or one of a few that lead to one of these.
abbrev pub depth_enough : ProgramRows → (budget : ℕ) → ℕ
depth_enough p budget = (length p.rows + 4) * (budget + 1)

-- The run of a program with an input and a budget of steps: the call of routine 0.
abbrev pub run : ProgramRows → (input : List ℕ) → (budget : ℕ) → Outcome
run p input budget = run_of p (depth_enough p budget) block (start input budget)
