use Rattle.std.proofs.Common.{drop, flat_map}
use Rattle.edge_ports.specs.Printouts.{PrintsAllBut}
use Rattle.question_text.proofs.traces.write_events.Given as goal
use Rattle.question_text.specs.{Cards.recorded_in, Traces.event_line}

abbrev pub invariant-events : goal.invariant-events
invariant-events g l =
    let printout = g.P.Printer.printout in
    PrintsAllBut (printout l.fn.out) (flat_map (event_line (recorded_in l.from)) l.events)
    (printout l.out) (flat_map (event_line (recorded_in l.from)) (drop l.i l.events))
