use Rattle.std.proofs.Common.{arith}
use Rattle.evaluator.proofs.Turning.{moves_by, moves_on}
use Rattle.evaluator.proofs.writing.continue_with_text.Goals as goal

pub returns-in-Written-clause-moves : goal.returns-in-Written-clause-moves
returns-in-Written-clause-moves c p = moves_on (c.write_text.ensures.moves p) (rw c.in-Written.is) (omega arith)

pub returns-in-Wide-clause-moves : goal.returns-in-Wide-clause-moves
returns-in-Wide-clause-moves c p = moves_by (c.evaluate.ensures.turns p) c.evaluate.ensures.falls c.evaluate.ensures.home (rw c.in-Wide.is) (omega arith)
