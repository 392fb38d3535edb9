use Rattle.std.proofs.Common.{◌-◌}
use Rattle.core_program.specs.Output.{gives, spaces}
use Rattle.eval_ops.proofs.ActionsCompose.{CameTo}
use Rattle.eval_ops.proofs.output.give_spaces.Given as goal
use Rattle.eval_ops.specs.Machines.{IsReady, moment_of}

abbrev pub invariant-spaces : goal.invariant-spaces
invariant-spaces l = record {
  ready : IsReady l.machine;
  came : CameTo (gives (spaces l.number)) (moment_of l.fn.machine) (gives (spaces (l.number - l.counter))) (moment_of l.machine);
}
