use Rattle.std.proofs.Common.{Some, ap}
use Rattle.edge_ports.proofs.RoomFills.{all_fits, part_fits}
use Rattle.edge_ports.proofs.room.RoomPrinter.finish.Goals as goal

pub returns-then-self-clause-ok : goal.returns-then-self-clause-ok
returns-then-self-clause-ok c =
    ap Some (all_fits c.args.self.now.from c.args.self.now.len c.args.self.now.room.now _ c.args.self.now.begun (c.args.self.now.all c.if-self.true))

pub returns-else-self-clause-fits : goal.returns-else-self-clause-fits
returns-else-self-clause-fits c =
    part_fits c.args.self.now.from c.args.self.now.len c.args.self.now.room.now _ c.args.self.now.begun (c.args.self.now.part c.if-self.false)
