use Rattle.std.proofs.{Common.Err, Common.Ok, lemmas.Result.err_from_is_err_and}
use Rattle.core_program.specs.Cells.{cell_out, referred}
use Rattle.eval_ops.proofs.ActionsCompose.{does_bind, does_stop}
use Rattle.eval_ops.proofs.frames.reference_out.Goals as goal
use Rattle.eval_ops.specs.Machines.{moment_of}

pub returns-in_err-cell-clause-action : goal.returns-in_err-cell-clause-action
returns-in_err-cell-clause-action c =
    let p = err_from_is_err_and c.from_residual.result c.from_residual.ensures.1 in
    rw (p.1, p.2) (does_stop (λ b. b) (λ b. b) (cell_out c.args.levels c.args.base c.args.place) referred (moment_of c.args.machine.now)
    (moment_of c.cell_out.new.machine) _ c.in_err-cell.ensures.action)

pub returns-in_err-addr-clause-action : goal.returns-in_err-addr-clause-action
returns-in_err-addr-clause-action c =
    let p = err_from_is_err_and c.from_residual-in_err-addr.result c.from_residual-in_err-addr.ensures.1 in
    rw (p.1, p.2) (does_bind (λ b. b) (cell_out c.args.levels c.args.base c.args.place) referred c.in_ok-cell.cell (moment_of c.args.machine.now)
    (moment_of c.cell_out.new.machine) (moment_of c.referred.new.machine) (Err _) c.in_ok-cell.ensures.action c.in_err-addr.ensures.action)

pub returns-clause-action : goal.returns-clause-action
returns-clause-action c = does_bind (λ b. b) (cell_out c.args.levels c.args.base c.args.place) referred c.in_ok-cell.cell (moment_of c.args.machine.now)
    (moment_of c.cell_out.new.machine) (moment_of c.referred.new.machine) (Ok c.in_ok-addr.addr) c.in_ok-cell.ensures.action c.in_ok-addr.ensures.action
