use Rattle.std.proofs.{Common.Err, Common.Ok, lemmas.Result.err_from_is_err_and}
use Rattle.core_program.specs.Cells.{cell_out, routine_held}
use Rattle.eval_ops.proofs.ActionsCompose.{does_bind, does_stop}
use Rattle.eval_ops.proofs.frames.routine_out.Goals as goal
use Rattle.eval_ops.specs.Machines.{moment_of}

pub returns-in_err-cell-clause-action : goal.returns-in_err-cell-clause-action
returns-in_err-cell-clause-action c =
    let p = err_from_is_err_and c.from_residual.result c.from_residual.ensures.1 in
    rw (p.1, p.2) (does_stop (λ b. b) (λ x. x) (cell_out c.args.levels c.args.base c.args.place) (routine_held c.args.program.now c.args.heading)
    (moment_of c.args.machine.now)
    (moment_of c.cell_out.new.machine) _ c.in_err-cell.ensures.action)

pub returns-in_err-found-clause-action : goal.returns-in_err-found-clause-action
returns-in_err-found-clause-action c =
    let p = err_from_is_err_and c.from_residual-in_err-found.result c.from_residual-in_err-found.ensures.1 in
    rw (p.1, p.2) (does_bind (λ x. x) (cell_out c.args.levels c.args.base c.args.place) (routine_held c.args.program.now c.args.heading) c.in_ok-cell.cell
    (moment_of c.args.machine.now)
    (moment_of c.cell_out.new.machine) (moment_of c.routine_held.new.machine) (Err _) c.in_ok-cell.ensures.action c.in_err-found.ensures.action)

pub returns-clause-action : goal.returns-clause-action
returns-clause-action c = does_bind (λ x. x) (cell_out c.args.levels c.args.base c.args.place) (routine_held c.args.program.now c.args.heading)
    c.in_ok-cell.cell (moment_of c.args.machine.now)
    (moment_of c.cell_out.new.machine) (moment_of c.routine_held.new.machine) (Ok c.in_ok-found.found) c.in_ok-cell.ensures.action c.in_ok-found.ensures.action
