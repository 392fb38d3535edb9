use Rattle.std.proofs.{Common.ℕ, Common.arith, lemmas.List.length-drop, lemmas.List.length-take, lemmas.List.take_rest}
use Rattle.edge_ports.proofs.PrintedInTurn.{prints_piece}
use Rattle.edge_ports.proofs.pieces.PiecesPrinter.print.Goals as goal

pub pieces-preserved : goal.pieces-preserved
pieces-preserved g c = (
  omega (arith, length-take {A = ℕ}, length-drop {A = ℕ}, c.put-at.ensures.count),
  prints_piece c.args.self.now.printout c.pieces.self.printout c.put-at.new.self.printout c.args.piece.now c.pieces.at c.put-at.result c.pieces.invariant.1
      (rw take_rest at c.put-at.ensures.put),
)
