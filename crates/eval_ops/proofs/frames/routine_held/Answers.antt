use Rattle.std.proofs.{Common.Err, Common.Ok, lemmas.Result.err_from_is_err_and}
use Rattle.core_program.specs.Cells.{read_value, routine_meant}
use Rattle.eval_ops.proofs.ActionsCompose.{does_bind, does_given}
use Rattle.eval_ops.proofs.frames.routine_held.Goals as goal
use Rattle.eval_ops.specs.Machines.{moment_of}

pub returns-in_err-found-clause-action : goal.returns-in_err-found-clause-action
returns-in_err-found-clause-action c =
    let p = err_from_is_err_and c.from_residual-in_err-found.result c.from_residual-in_err-found.ensures.1 in
    rw (p.1, p.2) (does_bind (λ x. x) (read_value c.args.cell) (routine_meant c.args.program.now c.args.heading) c.in_ok-held.held
    (moment_of c.args.machine.now)
    (moment_of c.read_cell.new.machine) (moment_of c.read_cell.new.machine) (Err _) c.in_ok-held.ensures.action
    (does_given (λ x. x) (routine_meant c.args.program.now c.args.heading c.in_ok-held.held) (Err _) (moment_of c.read_cell.new.machine)
    c.in_err-found.ensures))

pub returns-clause-action : goal.returns-clause-action
returns-clause-action c = does_bind (λ x. x) (read_value c.args.cell) (routine_meant c.args.program.now c.args.heading) c.in_ok-held.held
    (moment_of c.args.machine.now)
    (moment_of c.read_cell.new.machine) (moment_of c.read_cell.new.machine) (Ok c.in_ok-found.found) c.in_ok-held.ensures.action
    (does_given (λ x. x) (routine_meant c.args.program.now c.args.heading c.in_ok-held.held) (Ok c.in_ok-found.found) (moment_of c.read_cell.new.machine)
    c.in_ok-found.ensures)
