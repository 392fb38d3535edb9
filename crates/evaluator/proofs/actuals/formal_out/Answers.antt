use Rattle.std.proofs.{Common.Err, Common.Ok, lemmas.Result.err_from_is_err_and}
use Rattle.core_program.specs.Cells.{routine_out}
use Rattle.eval_ops.specs.Machines.{moment_of}
use Rattle.evaluator.proofs.Turning.{not_paid, paid_for}
use Rattle.evaluator.proofs.actuals.formal_out.Goals as goal

pub returns-in_err-spend-clause-action : goal.returns-in_err-spend-clause-action
returns-in_err-spend-clause-action c =
    let e = err_from_is_err_and c.from_residual.result c.from_residual.ensures.1 in
    rw (e.1, e.2) (not_paid (λ x. x) (routine_out c.args.program.now c.args.heading c.args.levels c.args.base c.args.place) _ _ _ c.in_err-spend.ensures.act)

pub returns-in_err-found-clause-action : goal.returns-in_err-found-clause-action
returns-in_err-found-clause-action c =
    let e = err_from_is_err_and c.from_residual-in_err-found.result c.from_residual-in_err-found.ensures.1 in
    rw (e.1, e.2) (paid_for (λ x. x) (routine_out c.args.program.now c.args.heading c.args.levels c.args.base c.args.place) (moment_of c.args.machine.now)
    (moment_of c.spend.new.machine) (moment_of c.routine_out.new.machine) (Err _)
    c.in_ok-spend.ensures.act c.in_err-found.ensures.action)

pub returns-clause-action : goal.returns-clause-action
returns-clause-action c =
    paid_for (λ x. x) (routine_out c.args.program.now c.args.heading c.args.levels c.args.base c.args.place) (moment_of c.args.machine.now)
    (moment_of c.spend.new.machine) (moment_of c.routine_out.new.machine) (Ok c.in_ok-found.found) c.in_ok-spend.ensures.act c.in_ok-found.ensures.action
