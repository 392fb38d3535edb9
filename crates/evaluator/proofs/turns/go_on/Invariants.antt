use Rattle.eval_ops.specs.Machines.{IsReady, moment_of}
use Rattle.evaluator.proofs.turns.go_on.Given as goal
use Rattle.evaluator.specs.{Records.SameFrame, Rest.rest_of, Stops.Comes, Weight.measure_of}

abbrev pub invariant-turns : goal.invariant-turns
invariant-turns l = record {
  came : Comes l.program (rest_of l.program l.fn.body) (moment_of l.fn.machine) (rest_of l.program l.body) (moment_of l.machine);
  frame : SameFrame l.body.home l.fn.body.home;
  ready : IsReady l.machine;
}

abbrev pub decreases-turns : goal.decreases-turns
decreases-turns l = measure_of l.body l.machine
