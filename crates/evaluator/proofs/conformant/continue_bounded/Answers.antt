use Rattle.std.proofs.Common.{◌∷◌, ap, arith}
use Rattle.core_program.specs.Tree.{Bounded, bind}
use Rattle.evaluator.proofs.{ConformantTrees.located_alike, Turning.moves_on}
use Rattle.evaluator.proofs.conformant.continue_bounded.Goals as goal
use Rattle.evaluator.specs.{Weight.task_weight, declared.tasks.Task.Task}
use Rattle.evaluator.specs.Rest.{lists_below, lists_of, resume, tasks_of, values_below, values_of}

pub returns-in-Value-clause-moves : goal.returns-in-Value-clause-moves
returns-in-Value-clause-moves c =
    let p = c.args.program.now in
    let a = c.args.body.now in
    moves_on c.bounded_value.ensures.moves (ap (λ l. resume p a.home (Task.Located l ∷ tasks_of a) (values_of a) (lists_of a)
    (Bounded c.args.addr c.args.frame)) c.in-Value.is) (omega (arith, ap (λ l. task_weight (Task.Located l)) c.in-Value.is))

pub returns-in_default-clause-moves : goal.returns-in_default-clause-moves
returns-in_default-clause-moves c =
    let p = c.args.program.now in
    let a = c.args.body.now in
    let t = Task.Located c.args.located in
    moves_on c.continue_access.ensures.moves (ap (λ x. bind x (resume p a.home (tasks_of a) (values_below t (values_of a)) (lists_below t (lists_of a))))
    (located_alike p a.home c.args.located (values_of a) (lists_of a) c.args.addr c.args.frame c.in_default.not-Value)) (omega arith)
