use Rattle.std.proofs.Common.{◌+◌, ◌-◌, cond, length}
use Rattle.edge_ports.proofs.SameBytesCome.{Filled}
use Rattle.edge_ports.proofs.lines.Lines.fill.Given as goal
use Rattle.edge_ports.specs.Limits.{console_bytes}

abbrev pub invariant-filling : goal.invariant-filling
invariant-filling g l = Filled g.I.Source.left g.I.Source.faults l.fn.self l.self l.fn.source l.source l.looked

abbrev pub decreases-filling : goal.decreases-filling
decreases-filling g l = console_bytes - length l.self.taken + cond l.self.ended 0 1
