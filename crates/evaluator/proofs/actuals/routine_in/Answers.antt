use Rattle.std.proofs.{Common.ℕ, Common.Err, Common.Ok, Common.refl, lemmas.Result.err_from_is_err_and}
use Rattle.core_program.specs.{Actions.Give, Cells.frame_out}
use Rattle.eval_ops.{proofs.ActionsCompose.does_bind, proofs.ActionsCompose.does_given, proofs.ActionsCompose.does_stop, specs.Machines.moment_of}
use Rattle.evaluator.proofs.Turning.{not_paid, paid_for}
use Rattle.evaluator.proofs.actuals.routine_in.Goals as goal
use Rattle.evaluator.specs.Rest.{declared}

pub returns-in_err-spend-clause-action : goal.returns-in_err-spend-clause-action
returns-in_err-spend-clause-action c =
    let p = err_from_is_err_and c.from_residual.result c.from_residual.ensures.1 in
    rw (p.1, p.2) (not_paid (λ x. x) (declared c.args.routine c.args.levels c.args.base) _ _ _ c.in_err-spend.ensures.act)

pub returns-in_err-frame-clause-action : goal.returns-in_err-frame-clause-action
returns-in_err-frame-clause-action c =
    let p = err_from_is_err_and c.from_residual-in_err-frame.result c.from_residual-in_err-frame.ensures.1 in
    rw (p.1, p.2) (paid_for (λ x. x) (declared c.args.routine c.args.levels c.args.base) (moment_of c.args.machine.now) (moment_of c.spend.new.machine)
    (moment_of c.frame_out.new.machine) (Err _)
    c.in_ok-spend.ensures.act
    (does_stop (λ b. b) (λ x. x) (frame_out c.args.levels c.args.base) (λ frame. Give (c.args.routine, frame))
    (moment_of c.spend.new.machine) (moment_of c.frame_out.new.machine) _ c.in_err-frame.ensures.action))

pub returns-clause-action : goal.returns-clause-action
returns-clause-action c =
    let frame = c.in_ok-frame.frame in
    let m' = moment_of c.frame_out.new.machine in
    paid_for (λ x. x) (declared c.args.routine c.args.levels c.args.base) (moment_of c.args.machine.now) (moment_of c.spend.new.machine) m'
    (Ok (c.args.routine, frame))
    c.in_ok-spend.ensures.act
    (does_bind {B = ℕ × ℕ} (λ x. x) (frame_out c.args.levels c.args.base) (λ frame. Give (c.args.routine, frame)) frame (moment_of c.spend.new.machine) m' m'
    (Ok (c.args.routine, frame)) c.in_ok-frame.ensures.action
    (does_given (λ x. x) (Give (c.args.routine, frame)) (Ok (c.args.routine, frame)) m' refl))
