-- What a construct does, as a tree: acts, whose answers decide how it goes on, parts, and calls.
use Rattle.std.specs.Prelude.{ℕ, ℤ, Bool, List}
use Rattle.cell_value.specs.declared.{values.Value.Value, ways_out.WayOut.WayOut}
use Rattle.core_program.specs.{Passed.Entering, Passed.Passed, declared.scan.Scan.Scan}
use Rattle.core_program.specs.Actions.{Action, Fail, Give, NoMeaning, Perform}
use Rattle.core_program.specs.Acts.{Act, Answer, Fault, Limited, OutOfSteps, Trouble}

-- how a part ends, if nothing stops the run
pub data Out : Type 0 where
  -- a statement
  Nothing : Out
  -- the value of an expression of a type of one cell
  Scalar : (value : Value) → Out
  -- the values of the cells of an array, a record or a string
  Cells : (values : List Value) → Out
  -- what is passed to a routine
  Actuals : (passed : Passed) → Out
  -- the variable that an access denotes, by the address of its first cell
  Address : (address : ℕ) → Out
  -- the same of a conformant array, and where the frame begins that has its bounds
  Bounded : (address frame : ℕ) → Out
  -- a goto to a label, in the frame at a base
  Jump : (label base : ℕ) → Out

-- where a construct is at work
pub record Here : Type 0 where
  -- the line of the first token of the innermost statement at work
  pub line : ℕ
  -- where the frame of the block begins
  pub base : ℕ
  -- the addresses of the records that the with statements around have established, the outermost first
  pub records : List ℕ

-- a part of a program at work, by the number of its row
pub data Part : Type 0 where
  -- the value of an expression
  Eval : (row : ℕ) (here : Here) → Part
  -- the variable that an access denotes; a target access activates variants that have no tag field
  Locate : (row : ℕ) (target : Bool) (here : Here) → Part
  -- the actual parameters from a position of a list on, where those before it were passed so
  Pass : (at : ℕ) (passed : Passed) (here : Here) → Part
  -- the members of a set constructor from an item on, where those before it made this set
  Gather : (at : ℕ) (set : Value) (here : Here) → Part
  -- a statement
  Exec : (row : ℕ) (here : Here) → Part
  -- the records of a with statement from an item on, and then its body
  Establish : (at body : ℕ) (here : Here) → Part
  -- the statements from an item on, of the sequence that begins with the first item
  Sequence : (first at : ℕ) (here : Here) → Part
  -- a further turn of a while or repeat statement
  Turn : (row : ℕ) (here : Here) → Part
  -- the turns of a for statement from this value of its control variable on, up or down to the last
  Count : (row : ℕ) (value last : ℤ) (here : Here) → Part
  -- the actuals of a read statement from an item on
  Receive : (at : ℕ) (here : Here) → Part
  -- the rest of an integer that is read, of which this much was met
  Scanning : (scan : Scan) (here : Here) → Part
  -- the rest of a line of the input, with its end
  RestOfLine : (here : Here) → Part
  -- the actuals of a write statement from an item on
  Print : (at : ℕ) (here : Here) → Part
  -- the statement part of a routine whose frame is at a base
  Body : (routine base : ℕ) → Part

pub data ActTree : Type 0 where
  Ret : (out : Out) → ActTree
  -- the run stops at a statement on this line
  Halt : (line : ℕ) (why : Trouble) → ActTree
  -- The program's tables are not whole: a row is missing that is needed here, or it is of another kind than its place
  -- takes, or a list does not end where it says. That is no fault of a program, and no way out of a call.
  Meaningless : ActTree
  -- an act of a statement on this line
  Do : (line : ℕ) (act : Act) (next : Answer act → ActTree) → ActTree
  -- a part, and how it goes on after it
  Sub : (part : Part) (next : Out → ActTree) → ActTree
  -- a call of a routine, unless a limit would be passed, and how it goes on after it
  Enter : (entering : Entering) (next : Out → ActTree) → ActTree
  -- a statement that is neither compound nor empty begins on this line, which takes a step
  Line : (line : ℕ) (next : ActTree) → ActTree

-- how the open calls end where a statement on this line stops the run
abbrev pub way_of : (line : ℕ) → Trouble → WayOut
way_of line (Fault kind) = WayOut.Faulted kind line
way_of line OutOfSteps = WayOut.OutOfSteps
way_of line (Limited which) = WayOut.Limited which

-- goes on after a tree
abbrev pub bind : ActTree → (Out → ActTree) → ActTree
bind (Ret out) f = f out
bind (Halt line why) f = Halt line why
bind Meaningless f = Meaningless
bind (Do line act next) f = Do line act (λ x. bind (next x) f)
bind (Sub part next) f = Sub part (λ x. bind (next x) f)
bind (Enter entering next) f = Enter entering (λ x. bind (next x) f)
bind (Line line next) f = Line line (bind next f)

-- goes on after an action of a statement on this line
abbrev pub doing : {A : Type 0} → (line : ℕ) → Action A → (A → ActTree) → ActTree
doing line (Give x) k = k x
doing line (Fail why) k = Halt line why
doing line NoMeaning k = Meaningless
doing line (Perform act next) k = Do line act (λ x. doing line (next x) k)
