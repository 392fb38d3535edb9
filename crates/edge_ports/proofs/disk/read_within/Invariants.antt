use Rattle.std.{proofs.Common.◌+◌, proofs.Common.◌-◌, proofs.Common.◌≤◌, proofs.Common.length, specs.Io.KnownBytes.Consumes}
use Rattle.edge_ports.proofs.disk.read_within.Given as goal

abbrev pub invariant-chunks : goal.invariant-chunks
invariant-chunks g l = (length l.bytes ≤ l.limit) × Consumes (g.R.Read.remaining l.fn.reader) (g.R.Read.remaining l.reader) l.bytes

abbrev pub decreases-chunks : goal.decreases-chunks
decreases-chunks g l = l.limit + 1 - length l.bytes
