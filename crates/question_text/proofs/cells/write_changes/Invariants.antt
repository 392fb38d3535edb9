use Rattle.std.proofs.Common.{drop, flat_map}
use Rattle.edge_ports.specs.Printouts.{PrintsAllBut}
use Rattle.cell_names.specs.Names.{scene_in}
use Rattle.question_text.proofs.cells.write_changes.Given as goal
use Rattle.question_text.specs.Cells.{change_line}

abbrev pub invariant-changes : goal.invariant-changes
invariant-changes g l =
    let printout = g.P.Printer.printout in
    PrintsAllBut (printout l.fn.out) (flat_map (change_line (scene_in l.scene)) l.changes)
    (printout l.out) (flat_map (change_line (scene_in l.scene)) (drop l.i l.changes))
