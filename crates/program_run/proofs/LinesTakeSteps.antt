-- A body gives no step back, and takes one before it tells a line.
use Rattle.std.proofs.Common.{◌++◌, ◌+◌, ◌<◌, ◌≡◌, ◌≤◌, ℕ, List, None, Option, Some, arith, subst, suc, zero}
use Rattle.cell_value.specs.declared.{entries.Touch.Touch, values.Value.Value, ways_out.Which.Which}
use Rattle.core_program.proofs.{ActsTakeSteps.Acted, ActsTakeSteps.acted, ActsTakeSteps.cost, OutcomesCompose.none_some, OutcomesCompose.some_same}
use Rattle.core_program.specs.{Layer.layer, Passed.Entering, Passed.cells_entered, ProgramRows.ProgramRows, Run.Ended, Run.Halted, State.State}
use Rattle.core_program.specs.Acts.{ActResult, Spend, Stops, Went, limit_passed, perform}
use Rattle.core_program.specs.Tree.{ActTree, Do, Enter, Halt, Line, Meaningless, Out, Ret, Sub, bind, way_of}
use Rattle.eval_ops.specs.Machines.{Moment}
use Rattle.evaluator.specs.Stops.{AtCall, AtEnd, AtLine, Stop, at_call, next_stop, on_act}

-- the steps that are left at a stop, where there were this many before
abbrev pub LeftAt : (before : ℕ) → Stop → (steps : ℕ) → Type 0
LeftAt before (AtLine line rest) steps = steps < before
LeftAt before (AtCall routine args rest) steps = steps ≤ before
LeftAt before (AtEnd end) steps = steps ≤ before

at_once : (before : ℕ) (first stop : Stop) (m m' : Moment) → ◌≡◌ {A = Option (Stop × Moment)} (Some (first, m)) (Some (stop, m'))
    → LeftAt before first m.state.steps → LeftAt before stop m'.state.steps
at_once before first stop m m' e h = subst (λ (x : Stop × Moment). LeftAt before x.0 x.1.state.steps) (some_same e) h

after_act : {A : Type 0} (before n line : ℕ) (σ : State) (log : List Touch) (d : ActResult A) (go : A → Moment → Option (Stop × Moment)) (stop : Stop)
    (m' : Moment)
    → σ.steps ≤ before → Acted n σ d → ((x : A) (m : Moment) → m.state.steps + n ≤ before → go x m ≡ Some (stop, m') → LeftAt before stop m'.state.steps)
    → on_act line log d go ≡ Some (stop, m') → LeftAt before stop m'.state.steps
after_act before n line σ log (Went x w τ) go stop m' u h k e = k x (record { state = τ; log = log ++ w }) (omega (arith, u, h)) e
after_act before n line σ log (Stops why w τ) go stop m' u h k e =
    at_once before (AtEnd (Halted (way_of line why))) stop (record { state = τ; log = log ++ w }) m' e (omega (arith, u, h))

at_a_call : (before : ℕ) (o : Option Which) (e : Entering) (base : ℕ) (next : Out → ActTree) (steps : ℕ) → steps ≤ before
    → LeftAt before (at_call o e base next) steps
at_a_call before None e base next steps u = u
at_a_call before (Some which) e base next steps u = u

pub left_at_stop : (p : ProgramRows) (before k : ℕ) (t : ActTree) (m : Moment) (stop : Stop) (m' : Moment) → m.state.steps ≤ before
    → next_stop p k t m ≡ Some (stop, m') → LeftAt before stop m'.state.steps
left_at_stop p before zero t m stop m' u e = absurd (none_some e)
left_at_stop p before (suc k) (Ret out) m stop m' u e = at_once before (AtEnd (Ended out)) stop m m' e u
left_at_stop p before (suc k) (Halt line why) m stop m' u e = at_once before (AtEnd (Halted (way_of line why))) stop m m' e u
left_at_stop p before (suc k) Meaningless m stop m' u e = absurd (none_some e)
left_at_stop p before (suc k) (Do line act next) m stop m' u e = after_act before (cost act) line m.state m.log (perform act m.state) _ stop m' u
    (acted act m.state) (λ x m1 v q. left_at_stop p before k (next x) m1 stop m' (omega (arith, v)) q) e
left_at_stop p before (suc k) (Sub part next) m stop m' u e = left_at_stop p before k (bind (layer p part) next) m stop m' u e
left_at_stop p before (suc k) (Enter entering next) m stop m' u e =
    let o = limit_passed m.state (cells_entered entering) in
    at_once before (at_call o entering m.state.top next) stop m m' e (at_a_call before o entering m.state.top next m.state.steps u)
left_at_stop p before (suc k) (Line line next) m stop m' u e = after_act before 1 line m.state m.log (perform (Spend 1) m.state) _ stop m' u
    (acted (Spend 1) m.state) (λ x m1 v q. at_once before (AtLine line next) stop m1 m' q (omega (arith, v))) e
