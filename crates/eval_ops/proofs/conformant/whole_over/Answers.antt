use Rattle.std.proofs.Common.{◌∙◌, [], Err, Ok, ap, min, refl}
use Rattle.std.proofs.lemmas.Result.{err_from_is_err_and}
use Rattle.core_program.specs.{Actions.Give, Cells.read_values, Conformant.cells_over}
use Rattle.eval_ops.proofs.ActionsCompose.{does_bind, does_given, does_stop, same_does}
use Rattle.eval_ops.proofs.conformant.whole_over.Goals as goal
use Rattle.eval_ops.specs.{Conformant.whole, Machines.moment_of, declared.conformant.ArrayWhole.ArrayWhole}

pub returns-in_err-cells-clause-action : goal.returns-in_err-cells-clause-action
returns-in_err-cells-clause-action c =
    let p = err_from_is_err_and c.from_residual.result c.from_residual.ensures.1 in
    let n = min (cells_over c.args.extents.items c.args.size) 1048577 in
    let m = moment_of c.read_cells.new.machine in
    rw (p.1, p.2) (does_stop (λ vs. vs) whole (read_values [] c.args.addr n) (λ vs. Give (record { extents = c.args.extents.items; cells = vs }))
    (moment_of c.args.machine.now) m _ (same_does (λ vs. vs) (read_values [] c.args.addr c.cells_over.result) (read_values [] c.args.addr n) (Err _)
    (moment_of c.args.machine.now) m (ap (read_values [] c.args.addr) (c.cells_over.ensures
    ∙ ap (λ l. min (cells_over l c.args.size) 1048577) c.deref.ensures.value)) c.in_err-cells.ensures.action))

pub returns-clause-action : goal.returns-clause-action
returns-clause-action c =
    let n = min (cells_over c.args.extents.items c.args.size) 1048577 in
    let m = moment_of c.read_cells.new.machine in
    let w : ArrayWhole = record { extents = c.args.extents; cells = c.in_ok-cells.cells } in
    does_bind whole (read_values [] c.args.addr n) (λ vs. Give (record { extents = c.args.extents.items; cells = vs })) c.in_ok-cells.cells
    (moment_of c.args.machine.now) m m (Ok w) (same_does (λ vs. vs) (read_values [] c.args.addr c.cells_over.result) (read_values [] c.args.addr n)
    (Ok c.in_ok-cells.cells) (moment_of c.args.machine.now) m (ap (read_values [] c.args.addr) (c.cells_over.ensures
    ∙ ap (λ l. min (cells_over l c.args.size) 1048577) c.deref.ensures.value)) c.in_ok-cells.ensures.action)
    (does_given whole (Give (whole w)) (Ok w) m refl)
