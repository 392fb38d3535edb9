-- What a runner stands for, and what its steps do.
use Rattle.std.specs.Prelude.{◌*◌, ◌+◌, ◌-◌, ◌<◌, ◌∷◌, ◌≡◌, [], ℕ, List, None, Option, Some, length, map, reverse}
use Rattle.cell_value.specs.declared.{values.Value.Value, ways_out.WayOut.WayOut}
use Rattle.core_program.specs.{ProgramRows.ProgramRows, Tree.ActTree, Tree.Out, Tree.Ret}
use Rattle.core_program.specs.Run.{End, Halted, result_in, way_out, whole}
use Rattle.core_program.specs.declared.program.Routine.{Routine}
use Rattle.eval_ops.specs.Machines.{IsReady, Moment, moment_of}
use Rattle.evaluator.specs.{Rest.rest_of, Rest.waiting, declared.body.Body.Body}
use Rattle.program_run.specs.Tower.{CallBegins, Ends, First, IsOver, Open, Rests, Stage, TowerAt, View, activation}
use Rattle.program_run.specs.declared.{open_call.OpenCall.OpenCall, runner.Runner.Runner}
use Rattle.program_run.specs.declared.runner.Begun.{Begun, TheVariants.Ended, TheVariants.Framed}

-- what is done after a call, by its caller
abbrev pub rest_in : ProgramRows → Option Body → Out → ActTree
rest_in p None = Ret
rest_in p (Some body) = waiting p body

abbrev pub open_in : ProgramRows → OpenCall → Open
open_in p o = record { base = o.base; cells = o.cells; rest = rest_in p o.caller }

-- the open calls, the innermost first
abbrev pub opens_in : Runner → List OpenCall
opens_in r = reverse r.opens.items

abbrev pub view_of : ProgramRows → Runner → View
view_of p r = record {
  opens = map (open_in p) (opens_in r);
  moment = moment_of r.machine;
  recording = r.calls;
}

abbrev pub At : ProgramRows → First → Stage → Runner → Type 0
At p first stage r = TowerAt p first stage (view_of p r)

-- the outermost open call alone has no caller: where no call is open, there is no body
abbrev pub Chain : Option Body → List OpenCall → Type 0
Chain None [] = Unit {0}
Chain None (o ∷ os) = ⊥
Chain (Some body) [] = ⊥
Chain (Some body) (o ∷ os) = Chain o.caller os

-- a body has this still to do, or the run is over
abbrev pub AtRest : ProgramRows → First → Option Body → Runner → Type 0
AtRest p first (Some body) r = At p first (Rests (rest_of p body)) r
AtRest p first None r = IsOver p first (moment_of r.machine) r.calls

-- a runner whose steps can be taken
pub record IsWell (r : Runner) : Type 0 where
  pub ready : IsReady r.machine
  -- the bytes of the output can be counted, with those that the steps that are left can give
  pub few : length r.machine.output + r.machine.steps < 4294967296
  -- the table of calls has the same open calls
  pub counted : length r.calls.open_calls ≡ length r.opens.items

-- A measure of what a run may still do: each of its turns takes a step, enters a call or ends one.
abbrev pub work_left : Runner → ℕ
work_left r = r.machine.steps + 2 * (500000 - r.machine.calls) + length r.opens.items

-- a call of a routine that has this row, with its link and arguments
pub record Invocation : Type 0 where
  pub routine : ℕ
  pub row : Routine
  pub args : List Value

abbrev pub invocation : (routine : ℕ) → Routine → List Value → Invocation
invocation f r args = record { routine = f; row = r; args = args }

-- the frame of a call was made with so many cells, and else the call ends in this way
abbrev pub CallBegun : ProgramRows → Invocation → Begun → Moment → Moment → Type 0
CallBegun p i (Framed cells) m m' =
    CallBegins p (activation i.routine i.args cells (Rests (whole p i.routine m.state.top i.row))) m m'
CallBegun p i (Ended way) m m' = CallBegins p (activation i.routine i.args 0 (Ends (Halted way))) m m'

-- the cells of its frame, and 0 where none was made
abbrev pub cells_begun : Begun → ℕ
cells_begun (Framed cells) = cells
cells_begun (Ended way) = 0

-- an open call is innermost, and ends so, by this way out and with this result
pub record InnermostEnds (p : ProgramRows) (first : First) (e : End) (r : Runner) (out : WayOut × Option Value) : Type
    0 where
  pub ends : At p first (Ends e) r
  pub goes_out : way_out e ≡ out.0
  pub gives : result_in e ≡ out.1
