use Rattle.std.proofs.Common.{◌-◌, ◌≤◌, length, take}
use Rattle.edge_ports.proofs.pieces.PiecesPrinter.print.Given as goal
use Rattle.edge_ports.specs.Printouts.{Prints}

abbrev pub invariant-pieces : goal.invariant-pieces
invariant-pieces g l = (l.at ≤ length l.piece) × Prints l.fn.self.printout l.self.printout (take l.at l.piece)

abbrev pub decreases-pieces : goal.decreases-pieces
decreases-pieces g l = length l.piece - l.at
