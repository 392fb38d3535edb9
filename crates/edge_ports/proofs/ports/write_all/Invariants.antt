use Rattle.std.proofs.Common.{◌-◌, ◌≡◌, ◌≤◌, length, take}
use Rattle.edge_ports.proofs.ports.write_all.Given as goal
use Rattle.edge_ports.specs.Told.{GaveAll}

abbrev pub invariant-loop-at : goal.invariant-loop-at
invariant-loop-at g l =
    (l.at ≤ length l.bytes)
    × (g.O.Sink.faults l.sink ≡ g.O.Sink.faults l.fn.sink)
    × (g.O.Sink.loan l.sink ≡ g.O.Sink.loan l.fn.sink)
    × GaveAll (g.O.Sink.given l.fn.sink) (g.O.Sink.given l.sink) (take l.at l.bytes)

abbrev pub decreases-loop-at : goal.decreases-loop-at
decreases-loop-at g l = length l.bytes - l.at
