use Rattle.std.proofs.Common.{ap, arith}
use Rattle.evaluator.proofs.Turning.{moves_on}
use Rattle.evaluator.proofs.turns.after_actuals.Goals as goal
use Rattle.evaluator.specs.{Rest.from_under, Weight.task_weight, declared.tasks.Now.TheVariants.Came, declared.tasks.Way.Way}

pub returns-in-Call-clause-moves : goal.returns-in-Call-clause-moves
returns-in-Call-clause-moves c =
    moves_on c.call.ensures.moves (ap (from_under c.args.program.now c.args.body.now (Came Way.Actuals)) c.in-Call.is)
    (omega (arith, ap task_weight c.in-Call.is))

pub returns-in-CallFormal-clause-moves : goal.returns-in-CallFormal-clause-moves
returns-in-CallFormal-clause-moves c =
    moves_on c.call_formal.ensures.moves (ap (from_under c.args.program.now c.args.body.now (Came Way.Actuals)) c.in-CallFormal.is)
    (omega (arith, ap task_weight c.in-CallFormal.is))
