use Rattle.std.proofs.Common.{ap, arith}
use Rattle.core_program.specs.Tree.{bind}
use Rattle.evaluator.proofs.{AfterStatements.address_enough, Turning.moves_on}
use Rattle.evaluator.proofs.turns.after_bounded.Goals as goal
use Rattle.evaluator.specs.{Weight.task_weight, declared.tasks.Now.TheVariants.Came, declared.tasks.Way.Way}
use Rattle.evaluator.specs.Rest.{from_under, home_below, lists_below, lists_of, resume, tasks_of, values_below, values_of}

pub returns-in-Located-clause-moves : goal.returns-in-Located-clause-moves
returns-in-Located-clause-moves c =
    moves_on c.continue_bounded.ensures.moves (ap (from_under c.args.program.now c.args.body.now (Came (Way.Bounded c.args.addr c.args.frame)))
    c.in-Located.is) (omega (arith, ap task_weight c.in-Located.is))

pub returns-in-BoundedIndex-clause-moves : goal.returns-in-BoundedIndex-clause-moves
returns-in-BoundedIndex-clause-moves c =
    moves_on (c.bounded_index.ensures.moves c.args.program.now) (ap (from_under c.args.program.now c.args.body.now
    (Came (Way.Bounded c.args.addr c.args.frame))) c.in-BoundedIndex.is) (omega (arith, ap task_weight c.in-BoundedIndex.is))

pub returns-in-ArrayPlace-clause-moves : goal.returns-in-ArrayPlace-clause-moves
returns-in-ArrayPlace-clause-moves c =
    moves_on c.bounded_place.ensures.moves (ap (from_under c.args.program.now c.args.body.now (Came (Way.Bounded c.args.addr c.args.frame)))
    c.in-ArrayPlace.is) (omega (arith, ap task_weight c.in-ArrayPlace.is))

pub returns-in-ArrayValue-clause-moves : goal.returns-in-ArrayValue-clause-moves
returns-in-ArrayValue-clause-moves c =
    moves_on c.bounded_array.ensures.moves (ap (from_under c.args.program.now c.args.body.now (Came (Way.Bounded c.args.addr c.args.frame)))
    c.in-ArrayValue.is) (omega (arith, ap task_weight c.in-ArrayValue.is))

pub returns-in_default-clause-moves : goal.returns-in_default-clause-moves
returns-in_default-clause-moves c =
    let p = c.args.program.now in
    let a = c.args.body.now in
    let t = c.args.task in
    let d = c.in_default in
    moves_on c.after_address.ensures.moves (ap (λ x. bind x (resume p (home_below t a.home) (tasks_of a) (values_below t (values_of a))
    (lists_below t (lists_of a)))) (address_enough p a.home t (values_of a) (lists_of a) c.args.addr c.args.frame d.not-Located d.not-BoundedIndex
    d.not-ArrayPlace d.not-ArrayValue d.not-Leave)) (omega arith)
