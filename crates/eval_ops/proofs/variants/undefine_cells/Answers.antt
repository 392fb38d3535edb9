use Rattle.std.proofs.{Common.◌+◌, Common.◌-◌, lemmas.Result.err_from_is_err_and}
use Rattle.cell_value.specs.declared.values.Value.TheVariants.{Undefined}
use Rattle.core_program.specs.{Cells.write, State.moved, Variants.undefine_cells}
use Rattle.eval_ops.proofs.{ActionsCompose.came_next, ActionsCompose.came_stop, NextUndefined.at_undefined}
use Rattle.eval_ops.proofs.variants.undefine_cells.Goals as goal
use Rattle.eval_ops.specs.Machines.{moment_of}

pub returns-in_err-write_cell-clause-action : goal.returns-in_err-write_cell-clause-action
returns-in_err-write_cell-clause-action c =
    let p = err_from_is_err_and c.from_residual.result c.from_residual.ensures.1 in
    rw (p.1, p.2) (came_stop {X = Unit {0}} {Y = Unit {0}} (λ _. tt) (λ _. tt) (write c.cells.at Undefined)
    (λ _. undefine_cells (moved c.cells.at 1) (c.args.cells - (c.cells.counter + 1))) _ (moment_of c.cells.machine) (moment_of c.write_cell.new.machine)
    (at_undefined c.cells.at c.args.cells c.cells.counter c.cells-test.true c.cells.invariant.came) c.in_err-write_cell.ensures.action)

pub cells-preserved : goal.cells-preserved
cells-preserved c = record {
  ready = c.in_ok-write_cell.ensures.ready;
  came = rw c.moved-at.ensures (came_next (write c.cells.at Undefined) (λ _. undefine_cells (moved c.cells.at 1) (c.args.cells - (c.cells.counter + 1))) tt
      (moment_of c.cells.machine) (moment_of c.write_cell.new.machine)
      (at_undefined c.cells.at c.args.cells c.cells.counter c.cells-test.true c.cells.invariant.came) c.in_ok-write_cell.ensures.action);
}
