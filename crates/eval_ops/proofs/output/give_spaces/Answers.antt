use Rattle.std.proofs.{Common.◌+◌, Common.◌-◌, lemmas.Result.err_from_is_err_and}
use Rattle.core_program.specs.{Input.space, Output.give_byte, Output.gives, Output.spaces}
use Rattle.eval_ops.proofs.{ActionsCompose.came_next, ActionsCompose.came_stop, Texts.at_space}
use Rattle.eval_ops.proofs.output.give_spaces.Goals as goal
use Rattle.eval_ops.specs.Machines.{moment_of}

pub returns-in_err-give-clause-action : goal.returns-in_err-give-clause-action
returns-in_err-give-clause-action c =
    let p = err_from_is_err_and c.from_residual.result c.from_residual.ensures.1 in
    rw (p.1, p.2) (came_stop {X = Unit {0}} {Y = Unit {0}} (λ _. tt) (λ _. tt) (give_byte space) (λ _. gives (spaces (c.args.number - (c.spaces.counter + 1))))
    _
    (moment_of c.spaces.machine) (moment_of c.give.new.machine) (at_space c.args.number c.spaces.counter c.spaces-test.true c.spaces.invariant.came)
    c.in_err-give.ensures.action)

pub spaces-preserved : goal.spaces-preserved
spaces-preserved c = record {
  ready = c.in_ok-give.ensures.ready;
  came = came_next (give_byte space) (λ _. gives (spaces (c.args.number - (c.spaces.counter + 1)))) tt (moment_of c.spaces.machine)
      (moment_of c.give.new.machine) (at_space c.args.number c.spaces.counter c.spaces-test.true c.spaces.invariant.came) c.in_ok-give.ensures.action;
}
