use Rattle.std.proofs.Common.{◌∙◌, refl, subst, sym}
use Rattle.eval_ops.specs.Machines.{machine_state, moment_of}
use Rattle.evaluator.proofs.Moves.{comes_same, comes_then, stops_then}
use Rattle.evaluator.proofs.turns.go_on.Goals as goal
use Rattle.evaluator.specs.{Rest.rest_of, Stops.NextStopIs}

pub turns-init : goal.turns-init
turns-init c = record { came = comes_same refl; frame = record { routine = refl; base = refl }; ready = c.requires.ready }

pub turns-preserved : goal.turns-preserved
turns-preserved c = record {
  came = comes_then c.turns.invariant.came (rw c.in-Ok-None.field-0-is at c.in-Ok-None.ensures.moves.turns);
  frame = record {
    routine = c.in-Ok-None.ensures.moves.frame.routine ∙ c.turns.invariant.frame.routine;
    base = c.in-Ok-None.ensures.moves.frame.base ∙ c.turns.invariant.frame.base;
  };
  ready = c.in-Ok-None.ensures.ready;
}

pub turns-smaller : goal.turns-smaller
turns-smaller c = (rw c.in-Ok-None.field-0-is at c.in-Ok-None.ensures.moves.falls) refl

pub returns-in-Ok-Some-clause-stops : goal.returns-in-Ok-Some-clause-stops
returns-in-Ok-Some-clause-stops c =
    let p = c.args.program.now in
    subst (λ s. NextStopIs p (rest_of p c.args.body.now) (moment_of c.args.machine.now) s (moment_of c.turn.new.machine)) (sym (c.stop_at.ensures.stop p))
    (stops_then c.turns.invariant.came (rw c.in-Ok-Some.field-0-is at c.in-Ok-Some.ensures.moves.turns).0)

pub returns-in-Ok-Some-clause-room : goal.returns-in-Ok-Some-clause-room
returns-in-Ok-Some-clause-room c =
    c.stop_at.ensures.room c.args.program.now (machine_state c.turn.new.machine) (rw c.in-Ok-Some.field-0-is at c.in-Ok-Some.ensures.moves.turns).1

pub returns-in-Err-Fault-clause-stops : goal.returns-in-Err-Fault-clause-stops
returns-in-Err-Fault-clause-stops c = rw c.in-Err-Fault.field-0-is (stops_then c.turns.invariant.came
    (rw c.in-Err-Fault.field-0-is at c.in-Err-Fault.ensures.moves.turns))

pub returns-in-Err-OutOfSteps-clause-stops : goal.returns-in-Err-OutOfSteps-clause-stops
returns-in-Err-OutOfSteps-clause-stops c = stops_then c.turns.invariant.came (rw c.in-Err-OutOfSteps.field-0-is at c.in-Err-OutOfSteps.ensures.moves.turns)

pub returns-in-Err-Limited-clause-stops : goal.returns-in-Err-Limited-clause-stops
returns-in-Err-Limited-clause-stops c = rw c.in-Err-Limited.field-0-is (stops_then c.turns.invariant.came
    (rw c.in-Err-Limited.field-0-is at c.in-Err-Limited.ensures.moves.turns))
