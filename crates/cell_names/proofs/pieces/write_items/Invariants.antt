use Rattle.std.proofs.Common.{flat_map, slice_range}
use Rattle.edge_ports.specs.Printouts.{PrintsAllBut}
use Rattle.cell_names.proofs.pieces.write_items.Given as goal
use Rattle.cell_names.specs.Pieces.{escaped}

abbrev pub invariant-items : goal.invariant-items
invariant-items g l =
    let printout = g.P.Printer.printout in
    PrintsAllBut (printout l.fn.out) (flat_map escaped (slice_range l.items l.from l.to))
    (printout l.out) (flat_map escaped (slice_range l.items l.place l.to))
