use Rattle.std.proofs.Common.{slice_range}
use Rattle.edge_ports.specs.Printouts.{PrintsAllBut}
use Rattle.cell_names.specs.Names.{scene_in}
use Rattle.question_text.proofs.cells.write_cells.Given as goal
use Rattle.question_text.specs.Cells.{cells_text}

abbrev pub invariant-cells : goal.invariant-cells
invariant-cells g l =
    let printout = g.P.Printer.printout in
    PrintsAllBut (printout l.fn.out) (cells_text (scene_in l.scene) l.frame l.place (slice_range l.args l.from l.to))
    (printout l.out) (cells_text (scene_in l.scene) l.frame l.at (slice_range l.args l.number l.to))
