use Rattle.std.proofs.Common.{arith}
use Rattle.evaluator.proofs.Turning.{moves_by, moves_on}
use Rattle.evaluator.proofs.heap.heap_statement.Goals as goal

pub returns-in-New-clause-moves : goal.returns-in-New-clause-moves
returns-in-New-clause-moves c row = moves_on c.make.ensures.moves (rw c.in-New.is) (omega arith)

pub returns-in-Dispose-clause-moves : goal.returns-in-Dispose-clause-moves
returns-in-Dispose-clause-moves c row =
    moves_by (c.wait.ensures.turns c.args.program.now) c.wait.ensures.falls c.wait.ensures.home (rw c.in-Dispose.is) (omega arith)
