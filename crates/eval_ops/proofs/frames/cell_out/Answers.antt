use Rattle.std.proofs.{Common.Ok, Common.refl, lemmas.Result.err_from_is_err_and}
use Rattle.core_program.specs.{Actions.Give, Cells.frame_out, State.moved}
use Rattle.eval_ops.proofs.ActionsCompose.{does_bind, does_given, does_stop}
use Rattle.eval_ops.proofs.frames.cell_out.Goals as goal
use Rattle.eval_ops.specs.Machines.{moment_of}

pub returns-in_err-frame-clause-action : goal.returns-in_err-frame-clause-action
returns-in_err-frame-clause-action c =
    let p = err_from_is_err_and c.from_residual.result c.from_residual.ensures.1 in
    rw (p.1, p.2) (does_stop (λ b. b) (λ b. b) (frame_out c.args.levels c.args.base) (λ frame. Give (moved frame c.args.place))
    (moment_of c.args.machine.now) (moment_of c.frame_out.new.machine) _ c.in_err-frame.ensures.action)

pub returns-clause-action : goal.returns-clause-action
returns-clause-action c = rw c.moved.ensures (does_bind (λ b. b) (frame_out c.args.levels c.args.base) (λ frame. Give (moved frame c.args.place))
    c.in_ok-frame.frame (moment_of c.args.machine.now) (moment_of c.frame_out.new.machine) (moment_of c.frame_out.new.machine)
    (Ok (moved c.in_ok-frame.frame c.args.place)) c.in_ok-frame.ensures.action
    (does_given (λ b. b) (Give (moved c.in_ok-frame.frame c.args.place)) (Ok (moved c.in_ok-frame.frame c.args.place))
    (moment_of c.frame_out.new.machine) refl))
