use Rattle.std.{proofs.Common.◌≡◌, proofs.Common.length, specs.Io.KnownBytes.Keeps}
use Rattle.edge_ports.proofs.retries.read_uninterrupted.Given as goal

abbrev pub invariant-tries : goal.invariant-tries
invariant-tries g l = (length l.room ≡ length l.fn.room) × Keeps (g.R.Read.remaining l.fn.reader) (g.R.Read.remaining l.reader)
