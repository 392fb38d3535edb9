use Rattle.std.proofs.Common.{ap, arith}
use Rattle.eval_ops.specs.Machines.{moment_of}
use Rattle.evaluator.proofs.Turning.{moves_on}
use Rattle.evaluator.proofs.turns.array_located.Goals as goal
use Rattle.evaluator.specs.{Rest.from_under, Weight.task_weight, declared.tasks.Now.TheVariants.Came, declared.tasks.Way.Way}

pub returns-in-ArrayPlace-clause-moves : goal.returns-in-ArrayPlace-clause-moves
returns-in-ArrayPlace-clause-moves c =
    moves_on (c.place_at.ensures.moves (moment_of c.args.machine.now)) (ap (from_under c.args.program.now c.args.body.now (Came (Way.Address c.args.addr)))
    c.in-ArrayPlace.is) (omega (arith, ap task_weight c.in-ArrayPlace.is))

pub returns-in-ArrayValue-clause-moves : goal.returns-in-ArrayValue-clause-moves
returns-in-ArrayValue-clause-moves c =
    moves_on c.array_at.ensures.moves (ap (from_under c.args.program.now c.args.body.now (Came (Way.Address c.args.addr))) c.in-ArrayValue.is)
    (omega (arith, ap task_weight c.in-ArrayValue.is))
