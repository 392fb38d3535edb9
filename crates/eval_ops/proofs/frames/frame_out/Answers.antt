use Rattle.std.proofs.{Common.◌+◌, Common.◌-◌, lemmas.Result.err_from_is_err_and}
use Rattle.core_program.specs.Cells.{frame_out, linked}
use Rattle.eval_ops.proofs.{ActionsCompose.came_next, ActionsCompose.came_stop, NextCells.at_link}
use Rattle.eval_ops.proofs.frames.frame_out.Goals as goal
use Rattle.eval_ops.specs.Machines.{moment_of}

pub returns-in_err-frame-clause-action : goal.returns-in_err-frame-clause-action
returns-in_err-frame-clause-action c =
    let p = err_from_is_err_and c.from_residual.result c.from_residual.ensures.1 in
    rw (p.1, p.2) (came_stop (λ b. b) (λ b. b) (linked c.links.frame) (frame_out (c.args.levels - (c.links.counter + 1))) _ (moment_of c.links.machine)
    (moment_of c.linked_frame.new.machine) (at_link c.links.frame c.args.levels c.links.counter c.links-test.true c.links.invariant.came)
    c.in_err-frame.ensures.action)

pub links-preserved : goal.links-preserved
links-preserved c = record {
  ready = c.in_ok-frame.ensures.ready;
  came = came_next (linked c.links.frame) (frame_out (c.args.levels - (c.links.counter + 1))) c.in_ok-frame.frame (moment_of c.links.machine)
      (moment_of c.linked_frame.new.machine) (at_link c.links.frame c.args.levels c.links.counter c.links-test.true c.links.invariant.came)
      c.in_ok-frame.ensures.action;
}
