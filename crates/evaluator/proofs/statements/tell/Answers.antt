use Rattle.eval_ops.specs.Machines.{moment_of}
use Rattle.evaluator.proofs.{Moves.line_here, Turning.line_fails, Turning.turns_failed}
use Rattle.evaluator.proofs.statements.tell.Goals as goal
use Rattle.evaluator.specs.{Rest.from, declared.tasks.Now.TheVariants.Carry}

pub returns-in-Ok-clause-turns : goal.returns-in-Ok-clause-turns
returns-in-Ok-clause-turns c p = (line_here c.args.line (from p c.args.body.now (Carry c.args.row)) _ _ c.in-Ok.ensures.act, tt)

pub returns-in-Err-clause-turns : goal.returns-in-Err-clause-turns
returns-in-Err-clause-turns c p =
    turns_failed p _ (moment_of c.args.machine.now) (moment_of c.spend.new.machine) c.args.line c.in-Err.halt c.fail.new.self c.fail.result
    c.fail.ensures.line c.fail.ensures.fails
    (line_fails p c.args.line (from p c.args.body.now (Carry c.args.row)) c.in-Err.halt _ _ c.in-Err.ensures.act)
