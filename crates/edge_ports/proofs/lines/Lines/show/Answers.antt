use Rattle.std.proofs.lemmas.List.{drop-take}
use Rattle.edge_ports.proofs.lines.Lines.show.Goals as goal

pub returns : goal.returns
returns c = rw (← c.self.view_is, drop-take c.self.inside.handed c.args.count c.self.inside.taken.items)
