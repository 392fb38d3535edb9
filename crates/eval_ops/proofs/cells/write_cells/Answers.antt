use Rattle.std.proofs.{Common.◌+◌, Common.drop, lemmas.Result.err_from_is_err_and}
use Rattle.core_program.specs.{Cells.write, Cells.writes, State.moved}
use Rattle.eval_ops.proofs.{ActionsCompose.came_next, ActionsCompose.came_stop, NextCells.at_write}
use Rattle.eval_ops.proofs.cells.write_cells.Goals as goal
use Rattle.eval_ops.specs.Machines.{moment_of}

pub returns-in_err-write_cell-clause-action : goal.returns-in_err-write_cell-clause-action
returns-in_err-write_cell-clause-action c =
    let p = err_from_is_err_and c.from_residual.result c.from_residual.ensures.1 in
    rw (p.1, p.2) (came_stop {X = Unit {0}} {Y = Unit {0}} (λ _. tt) (λ _. tt) (write c.cells.at c.at.result)
    (λ _. writes (moved c.cells.at 1) (drop (c.cells.i + 1) c.args.values.now)) _ (moment_of c.cells.machine) (moment_of c.write_cell.new.machine)
    (at_write c.args.values.now c.cells.at c.cells.i c.at.result c.at.ensures.found c.cells.invariant.came) c.in_err-write_cell.ensures.action)

pub cells-preserved : goal.cells-preserved
cells-preserved c = record {
  ready = c.in_ok-write_cell.ensures.ready;
  came = rw c.moved-at.ensures (came_next (write c.cells.at c.at.result) (λ _. writes (moved c.cells.at 1) (drop (c.cells.i + 1) c.args.values.now)) tt
      (moment_of c.cells.machine) (moment_of c.write_cell.new.machine)
      (at_write c.args.values.now c.cells.at c.cells.i c.at.result c.at.ensures.found c.cells.invariant.came) c.in_ok-write_cell.ensures.action);
}
