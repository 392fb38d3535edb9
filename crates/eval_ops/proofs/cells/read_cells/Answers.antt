use Rattle.std.proofs.Common.{◌++◌, ◌+◌, ◌-◌, ◌∙◌, ◌∷◌, [], ap, length}
use Rattle.std.proofs.lemmas.Result.{err_from_is_err_and}
use Rattle.core_program.specs.{Cells.read_value, Cells.read_values, State.moved}
use Rattle.eval_ops.proofs.{ActionsCompose.came_next, ActionsCompose.came_stop, NextCells.at_read, NextCells.length_pushed}
use Rattle.eval_ops.proofs.cells.read_cells.Goals as goal
use Rattle.eval_ops.specs.Machines.{moment_of}

pub returns-in_err-value-clause-action : goal.returns-in_err-value-clause-action
returns-in_err-value-clause-action c =
    let p = err_from_is_err_and c.from_residual.result c.from_residual.ensures.1 in
    rw (p.1, p.2) (came_stop (λ v. v) (λ v. v) (read_value c.cells.at) (λ v. read_values (c.cells.values ++ v ∷ []) (moved c.cells.at 1)
    (c.args.cells - (c.cells.counter + 1))) _ (moment_of c.cells.machine) (moment_of c.read_cell.new.machine)
    (at_read c.cells.values c.cells.at c.args.cells c.cells.counter c.cells-test.true c.cells.invariant.came) c.in_err-value.ensures.action)

pub cells-preserved : goal.cells-preserved
cells-preserved c = record {
  ready = c.in_ok-value.ensures.ready;
  count = ap length c.in_ok-push.ensures.added ∙ length_pushed c.cells.values c.in_ok-value.value c.cells.counter c.cells.invariant.count;
  came = rw (c.moved-at.ensures, c.in_ok-push.ensures.added) (came_next (read_value c.cells.at)
      (λ v. read_values (c.cells.values ++ v ∷ []) (moved c.cells.at 1)
      (c.args.cells - (c.cells.counter + 1))) c.in_ok-value.value (moment_of c.cells.machine) (moment_of c.read_cell.new.machine)
      (at_read c.cells.values c.cells.at c.args.cells c.cells.counter c.cells-test.true c.cells.invariant.came) c.in_ok-value.ensures.action);
}
