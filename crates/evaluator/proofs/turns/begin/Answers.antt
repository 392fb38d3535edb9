use Rattle.std.proofs.Common.{ap, arith}
use Rattle.evaluator.proofs.Turning.{moves_by, moves_on}
use Rattle.evaluator.proofs.turns.begin.Goals as goal
use Rattle.evaluator.specs.Weight.{part_weight}

pub returns-in-Pass-clause-moves : goal.returns-in-Pass-clause-moves
returns-in-Pass-clause-moves c = moves_on c.pass_actuals.ensures.moves (rw c.in-Pass.is) (omega (arith, ap part_weight c.in-Pass.is))

pub returns-in-Sequence-clause-moves : goal.returns-in-Sequence-clause-moves
returns-in-Sequence-clause-moves c = moves_by c.sequence.ensures.turns c.sequence.ensures.falls c.sequence.ensures.home (rw c.in-Sequence.is)
    (omega (arith, ap part_weight c.in-Sequence.is))

pub returns-in-Turn-clause-moves : goal.returns-in-Turn-clause-moves
returns-in-Turn-clause-moves c = moves_by c.turn_again.ensures.turns c.turn_again.ensures.falls c.turn_again.ensures.home (rw c.in-Turn.is)
    (omega (arith, ap part_weight c.in-Turn.is))

pub returns-in-Gather-clause-moves : goal.returns-in-Gather-clause-moves
returns-in-Gather-clause-moves c = moves_by c.gather.ensures.turns c.gather.ensures.falls c.gather.ensures.home (rw c.in-Gather.is)
    (omega (arith, ap part_weight c.in-Gather.is))

pub returns-in-Establish-clause-moves : goal.returns-in-Establish-clause-moves
returns-in-Establish-clause-moves c =
    moves_by c.begin_record.ensures.turns c.begin_record.ensures.falls c.begin_record.ensures.home (rw c.in-Establish.is)
    (omega (arith, ap part_weight c.in-Establish.is))

pub returns-in-Receive-clause-moves : goal.returns-in-Receive-clause-moves
returns-in-Receive-clause-moves c = moves_on c.receive.ensures.moves (rw c.in-Receive.is) (omega (arith, ap part_weight c.in-Receive.is))

pub returns-in-Scanning-clause-moves : goal.returns-in-Scanning-clause-moves
returns-in-Scanning-clause-moves c = moves_on (c.scan.ensures.moves c.args.program.now) (rw c.in-Scanning.is) (omega (arith, ap part_weight c.in-Scanning.is))

pub returns-in-RestOfLine-clause-moves : goal.returns-in-RestOfLine-clause-moves
returns-in-RestOfLine-clause-moves c = moves_on (c.pass_line.ensures.moves c.args.program.now) (rw c.in-RestOfLine.is)
    (omega (arith, ap part_weight c.in-RestOfLine.is))

pub returns-in-Print-clause-moves : goal.returns-in-Print-clause-moves
returns-in-Print-clause-moves c = moves_by c.print.ensures.turns c.print.ensures.falls c.print.ensures.home (rw c.in-Print.is)
    (omega (arith, ap part_weight c.in-Print.is))
