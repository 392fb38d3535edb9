use Rattle.std.proofs.Common.{drop, map}
use Rattle.core_program.specs.Output.{gives}
use Rattle.eval_ops.proofs.ActionsCompose.{CameTo}
use Rattle.eval_ops.proofs.output.give_chars.Given as goal
use Rattle.eval_ops.specs.Machines.{IsReady, moment_of}

abbrev pub invariant-chars : goal.invariant-chars
invariant-chars g l = record {
  ready : IsReady l.machine;
  came : CameTo (gives (map g.C.Char.byte l.chars)) (moment_of l.fn.machine) (gives (map g.C.Char.byte (drop l.char-index l.chars))) (moment_of l.machine);
}
