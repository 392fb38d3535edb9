use Rattle.std.proofs.{Common.[], Common.Err, Common.Ok, lemmas.Result.err_from_is_err_and}
use Rattle.core_program.specs.Cells.{read_values, writes}
use Rattle.eval_ops.proofs.ActionsCompose.{does_bind, does_stop}
use Rattle.eval_ops.proofs.packing.copy_cells.Goals as goal
use Rattle.eval_ops.specs.Machines.{moment_of}

pub returns-in_err-values-clause-action : goal.returns-in_err-values-clause-action
returns-in_err-values-clause-action c =
    let p = err_from_is_err_and c.from_residual.result c.from_residual.ensures.1 in
    rw (p.1, p.2) (does_stop {Y = Unit {0}} (λ vs. vs) (λ _. tt) (read_values [] c.args.from c.args.cells) (writes c.args.to) (moment_of c.args.machine.now)
    (moment_of c.read_cells.new.machine) _ c.in_err-values.ensures.action)

pub returns-in_err-write_cells-clause-action : goal.returns-in_err-write_cells-clause-action
returns-in_err-write_cells-clause-action c =
    let p = err_from_is_err_and c.from_residual-in_err-write_cells.result c.from_residual-in_err-write_cells.ensures.1 in
    rw (p.1, p.2) (does_bind {Y = Unit {0}} (λ _. tt) (read_values [] c.args.from c.args.cells) (writes c.args.to) c.in_ok-values.values
    (moment_of c.args.machine.now)
    (moment_of c.read_cells.new.machine) (moment_of c.write_cells.new.machine) (Err _) c.in_ok-values.ensures.action c.in_err-write_cells.ensures.action)

pub returns-clause-action : goal.returns-clause-action
returns-clause-action c = does_bind {Y = Unit {0}} (λ _. tt) (read_values [] c.args.from c.args.cells) (writes c.args.to) c.in_ok-values.values
    (moment_of c.args.machine.now)
    (moment_of c.read_cells.new.machine) (moment_of c.write_cells.new.machine) (Ok c.in_ok-write_cells.field-0) c.in_ok-values.ensures.action
    c.in_ok-write_cells.ensures.action
