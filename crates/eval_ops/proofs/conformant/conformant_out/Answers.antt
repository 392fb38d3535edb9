use Rattle.std.proofs.{Common.Err, Common.ap, Common.refl, lemmas.Result.err_from_is_err_and}
use Rattle.core_program.specs.{Actions.◌>>=◌, Actions.Give, Cells.frame_out, Cells.referred, State.moved}
use Rattle.eval_ops.proofs.ActionsCompose.{does_both, does_stop, same_does, stops_second}
use Rattle.eval_ops.proofs.conformant.conformant_out.Goals as goal
use Rattle.eval_ops.specs.Machines.{moment_of}

pub returns-in_err-frame-clause-action : goal.returns-in_err-frame-clause-action
returns-in_err-frame-clause-action c =
    let p = err_from_is_err_and c.from_residual.result c.from_residual.ensures.1 in
    rw (p.1, p.2) (does_stop (λ b. b) (λ x. x) (frame_out c.args.levels c.args.base)
    (λ frame. referred (moved frame c.args.place) >>= λ addr. Give (addr, frame))
    (moment_of c.args.machine.now) (moment_of c.frame_out.new.machine) _ c.in_err-frame.ensures.action)

pub returns-in_err-addr-clause-action : goal.returns-in_err-addr-clause-action
returns-in_err-addr-clause-action c =
    let p = err_from_is_err_and c.from_residual-in_err-addr.result c.from_residual-in_err-addr.ensures.1 in
    rw (p.1, p.2) (stops_second (λ b. b) (λ x. x) (frame_out c.args.levels c.args.base) (λ frame. referred (moved frame c.args.place))
    (λ frame addr. Give (addr, frame)) c.in_ok-frame.frame _ (moment_of c.args.machine.now) (moment_of c.frame_out.new.machine)
    (moment_of c.referred.new.machine) c.in_ok-frame.ensures.action (same_does (λ b. b) (referred c.moved.result)
    (referred (moved c.in_ok-frame.frame c.args.place)) (Err _) (moment_of c.frame_out.new.machine) (moment_of c.referred.new.machine)
    (ap referred c.moved.ensures) c.in_err-addr.ensures.action))

pub returns-clause-action : goal.returns-clause-action
returns-clause-action c = does_both (λ x. x) (frame_out c.args.levels c.args.base) (λ frame. referred (moved frame c.args.place)) (λ frame addr. (addr, frame))
    c.in_ok-frame.frame c.in_ok-addr.addr (c.in_ok-addr.addr, c.in_ok-frame.frame) (moment_of c.args.machine.now) (moment_of c.frame_out.new.machine)
    (moment_of c.referred.new.machine) c.in_ok-frame.ensures.action (rw c.moved.ensures at c.in_ok-addr.ensures.action) refl
