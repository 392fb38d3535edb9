-- A tree's stops: what a body does between two stops.
use Rattle.std.specs.Prelude.{◌++◌, ◌≡◌, ℕ, List, None, Option, Some, suc, zero}
use Rattle.cell_value.specs.declared.{entries.Touch.Touch, values.Value.Value}
use Rattle.cell_value.specs.declared.ways_out.{WayOut.WayOut, Which.Which}
use Rattle.core_program.specs.{Layer.layer, ProgramRows.ProgramRows, Run.End, Run.Ended, Run.Halted}
use Rattle.core_program.specs.Acts.{ActResult, Spend, Stops, Went, limit_passed, perform}
use Rattle.core_program.specs.Passed.{Entering, args_at, cells_entered}
use Rattle.core_program.specs.Tree.{ActTree, Do, Enter, Halt, Line, Meaningless, Out, Ret, Sub, bind, way_of}
use Rattle.eval_ops.specs.Machines.{Moment}

-- what a body stops at, and what it has still to do then
pub data Stop : Type 0 where
  -- a statement that is neither compound nor empty has begun on this line
  AtLine : (line : ℕ) (rest : ActTree) → Stop
  -- a call that has passed its limits is to be entered
  AtCall : (routine : ℕ) (args : List Value) (rest : Out → ActTree) → Stop
  AtEnd : (end : End) → Stop

abbrev pub on_act : {A : Type 0} → (line : ℕ) → List Touch → ActResult A → (A → Moment → Option (Stop × Moment))
    → Option (Stop × Moment)
on_act line log (Went x touches σ) go = go x (record { state = σ; log = log ++ touches })
on_act line log (Stops why touches σ) go =
    Some (AtEnd (Halted (way_of line why)), record { state = σ; log = log ++ touches })

-- a call whose frame would begin at a base; one that would pass a limit ends the body
abbrev pub at_call : Option Which → Entering → (base : ℕ) → (Out → ActTree) → Stop
at_call None e base rest = AtCall e.routine (args_at e base) rest
at_call (Some which) e base rest = AtEnd (Halted (WayOut.Limited which))

-- the next stop of a tree, in at most n moves
abbrev pub next_stop : ProgramRows → ℕ → ActTree → Moment → Option (Stop × Moment)
next_stop p zero t m = None
next_stop p (suc n) (Ret out) m = Some (AtEnd (Ended out), m)
next_stop p (suc n) (Halt line why) m = Some (AtEnd (Halted (way_of line why)), m)
next_stop p (suc n) Meaningless m = None
next_stop p (suc n) (Do line act next) m = on_act line m.log (perform act m.state) (λ x m'. next_stop p n (next x) m')
next_stop p (suc n) (Sub part next) m = next_stop p n (bind (layer p part) next) m
next_stop p (suc n) (Enter entering next) m =
    Some (at_call (limit_passed m.state (cells_entered entering)) entering m.state.top next, m)
next_stop p (suc n) (Line line next) m =
    on_act line m.log (perform (Spend 1) m.state) (λ _ m'. Some (AtLine line next, m'))

-- from a tree and a moment a run comes to another tree at another moment, with no stop between
pub record Comes (p : ProgramRows) (t : ActTree) (m : Moment) (t' : ActTree) (m' : Moment) : Type 0 where
  pub each : (n : ℕ) → (k : ℕ) × (next_stop p k t m ≡ next_stop p n t' m')

-- its next stop is this one
pub record NextStopIs (p : ProgramRows) (t : ActTree) (m : Moment) (stop : Stop) (m' : Moment) : Type 0 where
  pub moves : ℕ
  pub is : next_stop p moves t m ≡ Some (stop, m')
