use Rattle.std.proofs.Common.{if◌then◌else◌, ◌∙◌, ap, arith, sum_by, sym}
use Rattle.core_program.specs.{ProgramRows.row_at, Tree.Exec, Tree.Sub, Tree.bind, Values.is_true}
use Rattle.core_program.specs.Statements as meaning
use Rattle.evaluator.proofs.{Moves.bind_if, Turning.moves_by, Turning.moves_from}
use Rattle.evaluator.proofs.after_parts.continue_statement.Goals as goal
use Rattle.evaluator.specs.Rest.{exec, from, from_under, here, top, turn, values_of, waiting}
use Rattle.evaluator.specs.Weight.{task_weight}
use Rattle.evaluator.specs.declared.tasks.{Next.Next, Now.TheVariants.Begin, Now.TheVariants.Came, Part.Part, Task.Task, Way.Way}

pub returns-in-If-clause-moves : goal.returns-in-If-clause-moves
returns-in-If-clause-moves c =
    let p = c.args.program.now in
    let rest = waiting p c.args.body.now in
    moves_by (c.either.ensures.turns p) c.either.ensures.falls c.either.ensures.home (ap (λ t. from_under p c.args.body.now (Came (Way.Scalar c.args.value))
    (Task.Choice t)) c.in-If.is ∙ bind_if (is_true c.args.value) (exec c.args.body.now.home c.in-If.then c.in-If.line) (meaning.nothing) rest ∙ ap (λ b. if b
    then from p c.args.body.now (Begin (Part.Exec c.in-If.then c.in-If.line)) else from p c.args.body.now (Came Way.Nothing)) (sym c.is_true.ensures))
    (omega (arith, ap (λ t. task_weight (Task.Choice t)) c.in-If.is))

pub returns-in-IfElse-clause-moves : goal.returns-in-IfElse-clause-moves
returns-in-IfElse-clause-moves c =
    let p = c.args.program.now in
    let rest = waiting p c.args.body.now in
    moves_by (c.either-in-IfElse.ensures.turns p) c.either-in-IfElse.ensures.falls c.either-in-IfElse.ensures.home (ap (λ t. from_under p c.args.body.now (Came
    (Way.Scalar c.args.value)) (Task.Choice t)) c.in-IfElse.is ∙ bind_if (is_true c.args.value) (exec c.args.body.now.home c.in-IfElse.then c.in-IfElse.line)
    (exec c.args.body.now.home c.in-IfElse.otherwise c.in-IfElse.line) rest ∙ ap (λ b. if b then from p c.args.body.now (Begin (Part.Exec c.in-IfElse.then
    c.in-IfElse.line)) else from p c.args.body.now (Begin (Part.Exec c.in-IfElse.otherwise c.in-IfElse.line))) (sym c.is_true-in-IfElse.ensures))
    (omega (arith, ap (λ t. task_weight (Task.Choice t)) c.in-IfElse.is))

pub returns-in-Case-clause-moves : goal.returns-in-Case-clause-moves
returns-in-Case-clause-moves c = moves_by c.choose_case.ensures.turns c.choose_case.ensures.falls c.choose_case.ensures.home (rw c.in-Case.is)
    (omega (arith, ap (λ t. task_weight (Task.Choice t)) c.in-Case.is))

pub returns-in-While-clause-moves : goal.returns-in-While-clause-moves
returns-in-While-clause-moves c =
    let p = c.args.program.now in
    let rest = waiting p c.args.body.now in
    moves_by (c.again.ensures.turns p) c.again.ensures.falls c.again.ensures.home (ap (λ t. from_under p c.args.body.now (Came (Way.Scalar c.args.value))
    (Task.Choice t)) c.in-While.is ∙ bind_if (is_true c.args.value) (Sub (Exec c.in-While.inner (here c.args.body.now.home c.in-While.line)) (meaning.on_normal
    (turn c.args.body.now.home c.in-While.row c.in-While.line))) meaning.nothing rest ∙ ap (λ b. if b then from_under p c.args.body.now (Begin (Part.Exec
    c.in-While.inner c.in-While.line)) (Task.Next (Next.Again c.in-While.row c.in-While.line)) else from p c.args.body.now (Came Way.Nothing)) (sym
    c.is_true-in-While.ensures)) (omega (arith, ap (λ t. task_weight (Task.Choice t)) c.in-While.is))

pub returns-in-Until-clause-moves : goal.returns-in-Until-clause-moves
returns-in-Until-clause-moves c =
    let p = c.args.program.now in
    let rest = waiting p c.args.body.now in
    moves_by (c.either-in-Until.ensures.turns p) c.either-in-Until.ensures.falls c.either-in-Until.ensures.home (ap (λ t. from_under p c.args.body.now (Came
    (Way.Scalar c.args.value)) (Task.Choice t)) c.in-Until.is ∙ bind_if (is_true c.args.value) (meaning.nothing) (turn c.args.body.now.home c.in-Until.row
    c.in-Until.line) rest ∙ ap (λ b. if b then from p c.args.body.now (Came Way.Nothing) else from p c.args.body.now (Begin (Part.Turn c.in-Until.row
    c.in-Until.line))) (sym c.is_true-in-Until.ensures)) (omega (arith, ap (λ t. task_weight (Task.Choice t)) c.in-Until.is))

pub returns-in-First-clause-moves : goal.returns-in-First-clause-moves
returns-in-First-clause-moves c =
    let p = c.args.program.now in
    moves_by (c.hold.ensures.turns p) c.hold.ensures.falls c.hold.ensures.home (rw c.in-First.is)
    (omega (arith, ap (λ t. task_weight (Task.Choice t)) c.in-First.is))

pub returns-in-Last-clause-moves : goal.returns-in-Last-clause-moves
returns-in-Last-clause-moves c =
    let p = c.args.program.now in
    moves_from c.first_turn.ensures.moves (ap (λ t. from_under p c.args.body.now (Came (Way.Scalar c.args.value)) (Task.Choice t)) c.in-Last.is ∙ ap (λ k. bind
    (meaning.first_turn p (here c.args.body.now.home c.in-Last.line) c.in-Last.turns (row_at p c.in-Last.turns) (top (values_of c.args.body.now)) c.args.value)
    k) (sym (c.take_value-first.ensures.waits p)) ∙ ap (λ x. bind (meaning.first_turn p (here c.args.body.now.home c.in-Last.line) c.in-Last.turns (row_at p
    c.in-Last.turns) x c.args.value) (waiting p c.take_value-first.new.self)) (sym c.take_value-first.ensures.result) ∙ ap (λ hm. bind (meaning.first_turn p
    (here hm c.in-Last.line) c.in-Last.turns (row_at p c.in-Last.turns) c.take_value-first.result c.args.value) (waiting p c.take_value-first.new.self)) (sym
    c.take_value-first.ensures.home)) (omega (
      arith,
      ap (λ t. task_weight (Task.Choice t)) c.in-Last.is,
      ap (sum_by task_weight)
          c.take_value-first.ensures.tasks,
    )) c.take_value-first.ensures.home
