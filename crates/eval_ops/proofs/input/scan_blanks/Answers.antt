use Rattle.std.proofs.Common.{Some}
use Rattle.core_program.specs.{Actions.act, Acts.TakeIf, Input.leading, Input.leads_on}
use Rattle.eval_ops.proofs.ActionsCompose.{does_bind}
use Rattle.eval_ops.proofs.input.scan_blanks.Goals as goal
use Rattle.eval_ops.specs.Machines.{moment_of}

pub returns-in-Some-clause-action : goal.returns-in-Some-clause-action
returns-in-Some-clause-action c = does_bind (λ s. s) (act (TakeIf leads_on)) leading (Some c.in-Some.item) (moment_of c.args.machine.now)
    (moment_of c.take_if.new.machine) (moment_of c.leading.new.machine) c.leading.result (rw c.in-Some.is at c.in_ok-item.ensures.action)
    c.leading.ensures.action
