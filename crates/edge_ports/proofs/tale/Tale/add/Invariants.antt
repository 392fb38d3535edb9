use Rattle.std.proofs.Common.{◌++◌, ◌≡◌, drop}
use Rattle.edge_ports.proofs.tale.Tale.add.Given as goal

abbrev pub invariant-bytes : goal.invariant-bytes
invariant-bytes l = l.self ++ drop l.byte-index l.bytes ≡ l.fn.self ++ l.bytes
