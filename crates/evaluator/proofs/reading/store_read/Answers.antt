use Rattle.std.proofs.Common.{arith}
use Rattle.evaluator.proofs.Turning.{moves_on}
use Rattle.evaluator.proofs.reading.store_read.Goals as goal

pub returns-in-Into-clause-moves : goal.returns-in-Into-clause-moves
returns-in-Into-clause-moves c = moves_on c.store.ensures.moves (rw c.in-Into.is) (omega arith)
