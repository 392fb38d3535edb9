use Rattle.std.proofs.Common.{arith}
use Rattle.evaluator.proofs.Turning.{moves_by, moves_on}
use Rattle.evaluator.proofs.writing.continue_transfer.Goals as goal

pub returns-in-Integer-clause-moves : goal.returns-in-Integer-clause-moves
returns-in-Integer-clause-moves c =
    moves_by (c.locate_read.ensures.turns c.args.program.now) c.locate_read.ensures.falls c.locate_read.ensures.home (rw c.in-Integer.is) (omega arith)

pub returns-in-Wide-clause-moves : goal.returns-in-Wide-clause-moves
returns-in-Wide-clause-moves c = moves_by c.begin_width.ensures.turns c.begin_width.ensures.falls c.begin_width.ensures.home (rw c.in-Wide.is) (omega arith)

pub returns-in-Written-clause-moves : goal.returns-in-Written-clause-moves
returns-in-Written-clause-moves c = moves_on c.write_plain.ensures.moves (rw c.in-Written.is) (omega arith)

pub returns-in-Width-clause-moves : goal.returns-in-Width-clause-moves
returns-in-Width-clause-moves c = moves_on (c.write_waiting.ensures.moves c.args.program.now) (rw c.in-Width.is) (omega arith)

pub returns-in-TextWidth-clause-moves : goal.returns-in-TextWidth-clause-moves
returns-in-TextWidth-clause-moves c = moves_on (c.write_text.ensures.moves c.args.program.now) (rw c.in-TextWidth.is) (omega arith)
