-- What a machine stands for, and what the code's acts and actions do to it.
use Rattle.std.specs.Prelude.{◌++◌, ◌+◌, ◌<◌, ◌≡◌, ◌≤◌, Err, List, Ok, Result, length}
use Rattle.cell_value.specs.declared.entries.Touch.{Touch}
use Rattle.core_program.specs.Actions.{Action, Fail, Finished, Give, Performed, Stopped}
use Rattle.core_program.specs.Acts.{ActResult, Stops, Trouble, Went}
use Rattle.core_program.specs.Acts as trouble
use Rattle.core_program.specs.State.{State, most_calls, most_depth, stack_end}
use Rattle.eval_ops.specs.declared.{halt.Halt.Halt, machine.Machine.Machine}
use Rattle.eval_ops.specs.declared.halt.Halt.TheVariants.{Fault, Limited, Memory, OutOfSteps}

-- a state, and the log so far
pub record Moment : Type 0 where
  pub state : State
  pub log : List Touch

abbrev pub machine_state : Machine → State
machine_state m = record {
  cells = m.store;
  top = m.top;
  fresh = m.fresh;
  items = m.items;
  place = m.place;
  output = m.output;
  steps = m.steps;
  calls = m.calls;
  depth = m.depth;
}

abbrev pub moment_of : Machine → Moment
moment_of m = record { state = machine_state m; log = m.log }

-- the state changes, and nothing is put into the log
abbrev pub changed : (State → State) → Moment → Moment
changed f m = record { state = f m.state; log = m.log }

-- what each action needs of a machine, and leaves
pub record IsReady (m : Machine) : Type 0 where
  -- the stack lies below the heap
  pub stack : m.top ≤ stack_end
  -- the log has room for an entry of each step that is left
  pub room : length m.log + m.steps ≤ 8000000

-- a machine on which one call more may be entered
pub record AllowsCall (m : Machine) : Type 0 where
  pub calls : m.calls < most_calls
  pub depth : m.depth ≤ most_depth

-- the act was done, with this answer
abbrev pub ActDone : {A : Type 0} → ActResult A → A → Moment → Moment → Type 0
ActDone {A} did x old new = (w : List Touch) × (did ≡ Went x w new.state) × (new.log ≡ old.log ++ w)

-- the act was not done, or not whole, for this reason
abbrev pub ActRefused : {A : Type 0} → ActResult A → Trouble → Moment → Moment → Type 0
ActRefused did why old new = (w : List Touch) × (did ≡ Stops why w new.state) × (new.log ≡ old.log ++ w)

-- a call on the machine is the act, unless memory runs out
abbrev pub DoesAct : {A X : Type 0} → (X → A) → ActResult A → Result X Halt → Moment → Moment → Type 0
DoesAct seen did (Ok x) old new = ActDone did (seen x) old new
DoesAct seen did (Err (Fault kind)) old new = ActRefused did (trouble.Fault kind) old new
DoesAct seen did (Err OutOfSteps) old new = ActRefused did trouble.OutOfSteps old new
DoesAct seen did (Err (Limited which)) old new = ActRefused did (trouble.Limited which) old new
DoesAct seen did (Err Memory) old new = Unit {0}

-- the action was done, with this answer
abbrev pub ActionFinished : {A : Type 0} → Performed A → A → Moment → Moment → Type 0
ActionFinished {A} did x old new = (w : List Touch) × (did ≡ Finished x w new.state) × (new.log ≡ old.log ++ w)

-- the action stopped, for this reason
abbrev pub ActionStopped : {A : Type 0} → Performed A → Trouble → Moment → Moment → Type 0
ActionStopped {A} did why old new = (w : List Touch) × (did ≡ Stopped why w new.state) × (new.log ≡ old.log ++ w)

-- a call on the machine is the action, unless memory runs out
abbrev pub DoesAll : {A X : Type 0} → (X → A) → Performed A → Result X Halt → Moment → Moment → Type 0
DoesAll seen did (Ok x) old new = ActionFinished did (seen x) old new
DoesAll seen did (Err (Fault kind)) old new = ActionStopped did (trouble.Fault kind) old new
DoesAll seen did (Err OutOfSteps) old new = ActionStopped did trouble.OutOfSteps old new
DoesAll seen did (Err (Limited which)) old new = ActionStopped did (trouble.Limited which) old new
DoesAll seen did (Err Memory) old new = Unit {0}

-- A call that needs no machine is the action, which has no acts. Where none is meant, memory counts as run out.
abbrev pub Gives : {A X : Type 0} → (X → A) → Action A → Result X Halt → Type 0
Gives seen does (Ok x) = does ≡ Give (seen x)
Gives seen does (Err (Fault kind)) = does ≡ Fail (trouble.Fault kind)
Gives seen does (Err Memory) = Unit {0}
Gives seen does (Err e) = ⊥
