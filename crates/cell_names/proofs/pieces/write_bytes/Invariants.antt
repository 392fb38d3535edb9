use Rattle.std.proofs.Common.{drop, flat_map}
use Rattle.edge_ports.specs.Printouts.{PrintsAllBut}
use Rattle.cell_names.proofs.pieces.write_bytes.Given as goal
use Rattle.cell_names.specs.Pieces.{escaped}

abbrev pub invariant-bytes : goal.invariant-bytes
invariant-bytes g l =
    let printout = g.P.Printer.printout in
    PrintsAllBut (printout l.fn.out) (flat_map escaped l.bytes) (printout l.out) (flat_map escaped (drop l.byte-index l.bytes))
