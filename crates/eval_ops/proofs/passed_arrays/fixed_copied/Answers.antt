use Rattle.std.proofs.{Common.[], Common.Ok, Common.ap, Common.sym, lemmas.Result.err_from_is_err_and}
use Rattle.core_program.specs.{Actions.Give, Cells.read_values, Conformant.WholeArray, Conformant.fixed_extents, ProgramRows.type_at}
use Rattle.eval_ops.proofs.ActionsCompose.{does_both, does_given, stops_second}
use Rattle.eval_ops.proofs.passed_arrays.fixed_copied.Goals as goal
use Rattle.eval_ops.specs.{Arrays.size_in, Conformant.or_not_meant, Conformant.whole, Machines.moment_of}

pub returns-in_err-cells-clause-action : goal.returns-in_err-cells-clause-action
returns-in_err-cells-clause-action c =
    let p = err_from_is_err_and c.from_residual-in_err-cells.result c.from_residual-in_err-cells.ensures.1 in
    let m = moment_of c.args.machine.now in
    let t = type_at c.args.program.now c.args.of in
    rw (p.1, p.2) (stops_second (λ vs. vs) whole (or_not_meant (size_in t)) (λ n. read_values [] c.args.addr n)
    (λ n vs. Give (record { extents = fixed_extents c.args.program.now c.args.schema.now t; cells = vs })) c.in_ok-size.size _ m m
    (moment_of c.read_cells.new.machine) (does_given (λ n. n) (or_not_meant (size_in t)) (Ok c.in_ok-size.size) m c.in_ok-size.ensures)
    c.in_err-cells.ensures.action)

pub returns-clause-action : goal.returns-clause-action
returns-clause-action c =
    let m = moment_of c.args.machine.now in
    let t = type_at c.args.program.now c.args.of in
    does_both whole (or_not_meant (size_in t)) (λ n. read_values [] c.args.addr n)
    (λ n vs. record { extents = fixed_extents c.args.program.now c.args.schema.now t; cells = vs }) c.in_ok-size.size c.in_ok-cells.cells
    (record { extents = c.in_ok-extents.extents; cells = c.in_ok-cells.cells }) m m (moment_of c.read_cells.new.machine)
    (does_given (λ n. n) (or_not_meant (size_in t)) (Ok c.in_ok-size.size) m c.in_ok-size.ensures) c.in_ok-cells.ensures.action
    (sym (ap (λ l. record { extents = l; cells = c.in_ok-cells.cells }) c.in_ok-extents.ensures))
