use Rattle.std.proofs.{Common.arith, lemmas.List.take_rest}
use Rattle.edge_ports.proofs.RoomFills.{fills}
use Rattle.edge_ports.proofs.room.RoomPrinter.print.Goals as goal

pub returns : goal.returns
returns c =
    fills c.args.self.now.from c.args.self.now.len c.copy_behind-count.result c.args.self.now.before _ c.args.self.now.whole c.args.self.now.room.now
    c.copy_behind-count.new.room c.args.self.now.lost c.add.new.self c.args.piece.now c.args.self.now.begun c.args.self.now.within
    (omega (arith, c.copy_behind-count.ensures.count)) c.copy_behind-count.ensures.front (rw take_rest at c.add.ensures) c.args.self.now.all
    c.args.self.now.part
