use Rattle.std.proofs.Common.{slice_range}
use Rattle.edge_ports.specs.Printouts.{PrintsAllBut}
use Rattle.cell_names.specs.Names.{scene_in}
use Rattle.question_text.proofs.cells.write_arguments.Given as goal
use Rattle.question_text.specs.Cells.{parameters_text}

abbrev pub invariant-places : goal.invariant-places
invariant-places g l =
    let printout = g.P.Printer.printout in
    PrintsAllBut (printout l.fn.out)
    (parameters_text (scene_in l.scene) l.frame l.routine l.args 1 (slice_range l.args 1 l.routine.parameters))
    (printout l.out)
    (parameters_text (scene_in l.scene) l.frame l.routine l.args l.place (slice_range l.args l.place l.routine.parameters))
