use Rattle.std.proofs.{Common.Err, Common.Ok, lemmas.Result.err_from_is_err_and}
use Rattle.core_program.specs.{Cells.read_value, Values.defined}
use Rattle.eval_ops.proofs.{ActionsCompose.does_bind, ActionsCompose.does_given, Bounds.within_bounds}
use Rattle.eval_ops.proofs.cells.ordinal_at.Goals as goal
use Rattle.eval_ops.specs.Machines.{moment_of}

pub returns-in_err-value-clause-action : goal.returns-in_err-value-clause-action
returns-in_err-value-clause-action c =
    let p = err_from_is_err_and c.from_residual-in_err-value.result c.from_residual-in_err-value.ensures.1 in
    rw (p.1, p.2) (does_bind (λ v. v) (read_value c.args.addr) (defined c.args.least c.args.greatest) c.in_ok-held.held (moment_of c.args.machine.now)
    (moment_of c.read_cell.new.machine) (moment_of c.read_cell.new.machine) (Err _) c.in_ok-held.ensures.action
    (does_given (λ v. v) (defined c.args.least c.args.greatest c.in_ok-held.held) (Err _) (moment_of c.read_cell.new.machine)
    (within_bounds (λ a b. defined a b c.in_ok-held.held) c.args.least c.args.greatest (Err _) c.ranges.least c.ranges.greatest c.in_err-value.ensures)))

pub returns-clause-action : goal.returns-clause-action
returns-clause-action c = does_bind (λ v. v) (read_value c.args.addr) (defined c.args.least c.args.greatest) c.in_ok-held.held (moment_of c.args.machine.now)
    (moment_of c.read_cell.new.machine) (moment_of c.read_cell.new.machine) (Ok c.in_ok-value.value) c.in_ok-held.ensures.action
    (does_given (λ v. v) (defined c.args.least c.args.greatest c.in_ok-held.held) (Ok c.in_ok-value.value) (moment_of c.read_cell.new.machine)
    (within_bounds (λ a b. defined a b c.in_ok-held.held) c.args.least c.args.greatest (Ok c.in_ok-value.value) c.ranges.least c.ranges.greatest
    c.in_ok-value.ensures))
