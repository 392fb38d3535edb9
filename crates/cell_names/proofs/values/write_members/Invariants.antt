use Rattle.std.proofs.Common.{true}
use Rattle.edge_ports.specs.Printouts.{PrintsAllBut}
use Rattle.cell_names.proofs.values.write_members.Given as goal
use Rattle.cell_names.specs.Values.{members_from, members_text}

abbrev pub invariant-members : goal.invariant-members
invariant-members g l =
    let printout = g.P.Printer.printout in
    PrintsAllBut (printout l.fn.out) (members_text l.program l.base true (members_from l.set 0))
    (printout l.out) (members_text l.program l.base l.first (members_from l.set l.ordinal))
