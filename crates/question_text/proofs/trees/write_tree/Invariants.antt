use Rattle.std.proofs.Common.{drop}
use Rattle.edge_ports.specs.Printouts.{PrintsAllBut}
use Rattle.question_text.proofs.trees.write_tree.Given as goal
use Rattle.question_text.specs.Trees.{tree_from}

abbrev pub invariant-calls : goal.invariant-calls
invariant-calls g l =
    let printout = g.P.Printer.printout in
    PrintsAllBut (printout l.fn.out) (tree_from l.program 0 l.calls.calls l.marks)
    (printout l.out) (tree_from l.program l.number (drop l.number l.calls.calls) (drop l.number l.marks))
