use Rattle.std.proofs.Common.{◌≡◌}
use Rattle.cell_names.proofs.WaysDown.{IsOnWay}
use Rattle.cell_names.proofs.names.write_way.Given as goal
use Rattle.cell_names.specs.Names.{scene_in}

abbrev pub invariant-steps : goal.invariant-steps
invariant-steps g l =
    let printout = g.P.Printer.printout in
    IsOnWay (scene_in l.scene) l.wanted l.fn.from (printout l.fn.out).text (printout l.out).text l.at l.counter
    × ((printout l.out).began ≡ (printout l.fn.out).began)
