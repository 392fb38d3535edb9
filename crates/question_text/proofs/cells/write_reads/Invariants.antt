use Rattle.std.proofs.Common.{drop, flat_map}
use Rattle.edge_ports.specs.Printouts.{PrintsAllBut}
use Rattle.cell_names.specs.Names.{scene_in}
use Rattle.question_text.proofs.cells.write_reads.Given as goal
use Rattle.question_text.specs.Cells.{seen_line}

abbrev pub invariant-reads : goal.invariant-reads
invariant-reads g l =
    let printout = g.P.Printer.printout in
    PrintsAllBut (printout l.fn.out) (flat_map (seen_line (scene_in l.scene)) l.reads)
    (printout l.out) (flat_map (seen_line (scene_in l.scene)) (drop l.i l.reads))
