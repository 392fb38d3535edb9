use Rattle.std.proofs.Common.{◌∙◌, ap, arith}
use Rattle.core_program.specs.Tree.{bind}
use Rattle.evaluator.proofs.{AfterStatements.statement_ended, Turning.moves_by, Turning.moves_on}
use Rattle.evaluator.proofs.turns.after_scalar.Goals as goal
use Rattle.evaluator.specs.{Weight.task_weight, declared.tasks.Now.TheVariants.Came, declared.tasks.Task.Task, declared.tasks.Way.Way}
use Rattle.evaluator.specs.Rest.{from_under, lists_below, lists_of, resume, tasks_of, values_below, values_of}

pub returns-in-Target-clause-moves : goal.returns-in-Target-clause-moves
returns-in-Target-clause-moves c =
    moves_by c.locate_target.ensures.turns c.locate_target.ensures.falls c.locate_target.ensures.home (ap (from_under c.args.program.now c.args.body.now (Came
    (Way.Scalar c.args.value))) c.in-Target.is) (omega (arith, ap task_weight c.in-Target.is))

pub returns-in-Next-clause-moves : goal.returns-in-Next-clause-moves
returns-in-Next-clause-moves c =
    let p = c.args.program.now in
    let a = c.args.body.now in
    let t = Task.Next c.in-Next.next in
    moves_on c.follow_statement.ensures.moves (ap (from_under p a (Came (Way.Scalar c.args.value))) c.in-Next.is ∙ ap (λ x. bind x (resume p a.home (tasks_of a)
    (values_below t (values_of a)) (lists_below t (lists_of a)))) ((statement_ended p a.home c.in-Next.next (values_of a)).scalar c.args.value))
    (omega (arith, ap task_weight c.in-Next.is))

pub returns-in-Range-clause-moves : goal.returns-in-Range-clause-moves
returns-in-Range-clause-moves c =
    moves_by (c.gather_range.ensures.turns c.args.program.now) c.gather_range.ensures.falls c.gather_range.ensures.home (ap (from_under c.args.program.now
    c.args.body.now (Came (Way.Scalar c.args.value))) c.in-Range.is) (omega (arith, ap task_weight c.in-Range.is))

pub returns-in-Transfer-clause-moves : goal.returns-in-Transfer-clause-moves
returns-in-Transfer-clause-moves c =
    moves_on c.continue_transfer.ensures.moves (ap (from_under c.args.program.now c.args.body.now (Came (Way.Scalar c.args.value))) c.in-Transfer.is)
    (omega (arith, ap task_weight c.in-Transfer.is))

pub returns-in-PackIndex-clause-moves : goal.returns-in-PackIndex-clause-moves
returns-in-PackIndex-clause-moves c =
    moves_on c.move_arrays.ensures.moves (ap (from_under c.args.program.now c.args.body.now (Came (Way.Scalar c.args.value))) c.in-PackIndex.is)
    (omega (arith, ap task_weight c.in-PackIndex.is))

pub returns-in-BoundedComponent-clause-moves : goal.returns-in-BoundedComponent-clause-moves
returns-in-BoundedComponent-clause-moves c =
    moves_on c.bounded_component.ensures.moves (ap (from_under c.args.program.now c.args.body.now (Came (Way.Scalar c.args.value))) c.in-BoundedComponent.is)
    (omega (arith, ap task_weight c.in-BoundedComponent.is))
