-- What a turn of a body does.
use Rattle.std.specs.Prelude.{◌+◌, ◌≡◌, ℕ, Err, None, Ok, Option, Result, Some}
use Rattle.cell_value.specs.declared.ways_out.WayOut.{WayOut}
use Rattle.core_program.specs.{Acts.limit_passed, ProgramRows.ProgramRows, ProgramRows.routine_at, Replay.end_of}
use Rattle.core_program.specs.{Run.Ended, Run.Halted, State.State, declared.program.Routine.Routine}
use Rattle.core_program.specs.Tree.{ActTree, Jump, Nothing, Out, Scalar}
use Rattle.eval_ops.specs.{Machines.Moment, declared.halt.Halt.Halt}
use Rattle.evaluator.specs.{Records.SameFrame, Rest.waiting, declared.body.Body.Body}
use Rattle.evaluator.specs.Rest.{below_list, from, from_under, lists_of, rest_of, resume, tasks_of, top_list, values_of}
use Rattle.evaluator.specs.Stops.{AtCall, AtEnd, AtLine, Comes, NextStopIs, Stop}
use Rattle.evaluator.specs.Weight.{Falls, body_weight, come, left_with, part_weight, task_weight, tasks_weight}
use Rattle.evaluator.specs.declared.tasks.{Home.Home, Part.Part, Pause.Pause, Task.Task, Way.Way}
use Rattle.evaluator.specs.declared.tasks.Now.{Now, TheVariants.Begin, TheVariants.Came}
use Rattle.evaluator.specs.declared.tasks.Stop as stop
use Rattle.evaluator.specs.declared.tasks.Stop.TheVariants as stops

-- the stop of the definitions
abbrev pub stop_of : ProgramRows → Body → stop.Stop → Stop
stop_of p a (stops.Line line) = AtLine line (rest_of p a)
stop_of p a (stops.Enter f args) = AtCall f args (waiting p a)
stop_of p a (stops.Ended way answer) = AtEnd (end_of way answer)

-- how a body ended whose tasks are done, by what came last
abbrev pub ended_by : Now → Out
ended_by (Came (Way.Jump label base)) = Jump label base
ended_by (Came (Way.Scalar v)) = Scalar v
ended_by now = Nothing

-- the stop of the definitions at which a turn pauses: the arguments of a call are the last list that waits, and what
-- came tells how a body ended
abbrev pub pause_of : ProgramRows → Body → Pause → Stop
pause_of p a (Pause.Line line) = AtLine line (rest_of p a)
pause_of p a (Pause.Enter f) =
    AtCall f (top_list (lists_of a)) (resume p a.home (tasks_of a) (values_of a) (below_list (lists_of a)))
pause_of p a Pause.Ended = AtEnd (Ended (ended_by a.now))

-- a point of a run, as a configuration of structural operational semantics: what is still to be done, and the moment
pub record Configuration : Type 0 where
  pub tree : ActTree
  pub moment : Moment

abbrev pub configuration : ActTree → Moment → Configuration
configuration t m = record { tree = t; moment = m }

-- it stops for good there, unless memory ran out
abbrev pub StopsForGood : ProgramRows → Configuration → (line : ℕ) → Halt → Moment → Type 0
StopsForGood p c line (Halt.Fault kind) m = NextStopIs p c.tree c.moment (AtEnd (Halted (WayOut.Faulted kind line))) m
StopsForGood p c line Halt.OutOfSteps m = NextStopIs p c.tree c.moment (AtEnd (Halted WayOut.OutOfSteps)) m
StopsForGood p c line (Halt.Limited which) m = NextStopIs p c.tree c.moment (AtEnd (Halted (WayOut.Limited which))) m
StopsForGood p c line Halt.Memory m = Unit {0}

-- the routine is one of the program, and no limit forbids a call with a frame of some size
abbrev pub MayEnter : ProgramRows → (routine : ℕ) → State → Type 0
MayEnter p f σ = (r : Routine) × (routine_at p f ≡ Some r) × (cells : ℕ) × (limit_passed σ cells ≡ None)

-- a call at which a body stops may be entered
abbrev pub MayGoOn : ProgramRows → stop.Stop → State → Type 0
MayGoOn p (stops.Enter f args) σ = MayEnter p f σ
MayGoOn p s σ = Unit {0}

-- a call at which a turn pauses may be entered
abbrev pub PausesInRoom : ProgramRows → Pause → State → Type 0
PausesInRoom p (Pause.Enter f) σ = MayEnter p f σ
PausesInRoom p pause σ = Unit {0}

-- it comes from there to a stop, or to what the body has now to do
abbrev pub Turns : ProgramRows → Configuration → Result (Option Pause) Halt → Body → Moment → Type 0
Turns p c (Ok None) a m = Comes p c.tree c.moment (rest_of p a) m
Turns p c (Ok (Some pause)) a m = NextStopIs p c.tree c.moment (pause_of p a pause) m × PausesInRoom p pause m.state
Turns p c (Err e) a m = StopsForGood p c a.line e m

-- a call of a routine is to be entered there, unless memory ran out
abbrev pub EntersRoutine : ProgramRows → Configuration → (routine : ℕ) → Result (Option Pause) Halt → Body → Type 0
EntersRoutine p c routine (Ok (Some (Pause.Enter f))) a =
    NextStopIs p c.tree c.moment (pause_of p a (Pause.Enter f)) c.moment × (f ≡ routine)
EntersRoutine p c routine (Err Halt.Memory) a = Unit {0}
EntersRoutine p c routine r a = ⊥

-- where a turn begins: what is to be done, at which moment, how much is left, and where the body is at work
pub record Before : Type 0 where
  pub tree : ActTree
  pub moment : Moment
  pub left : ℕ
  pub home : Home

-- a body at a moment, with something to do that weighs so much besides the tasks that wait
abbrev pub before : Body → Moment → ActTree → (weight : ℕ) → Before
before a m t weight = record {
  tree = t;
  moment = m;
  left = left_with m.state.steps (weight + tasks_weight a);
  home = a.home;
}

-- a part begins
abbrev pub beginning : ProgramRows → Body → Moment → Part → Before
beginning p a m part = before a m (from p a (Begin part)) (part_weight part)

-- a task goes on after a part
abbrev pub continuing : ProgramRows → Body → Moment → Way → Task → Before
continuing p a m way task = before a m (from_under p a (Came way) task) (come + task_weight task)

-- a turn: the run comes to a stop, or to what the body has now to do, of which less is left
pub record Moves (p : ProgramRows) (b : Before) (r : Result (Option Pause) Halt) (a : Body) (m : Moment) : Type 0 where
  pub turns : Turns p (configuration b.tree b.moment) r a m
  pub falls : Falls r (left_with m.state.steps (body_weight a)) b.left
  pub frame : SameFrame a.home b.home

-- a turn at any moment that takes no machine, from what is to be done
abbrev pub Leads : ProgramRows → ActTree → Result (Option Pause) Halt → Body → Type 0
Leads p t r a = (m : Moment) (u : ActTree) → u ≡ t → Turns p (configuration u m) r a m
