use Rattle.std.proofs.Common.{◌-◌, ◌||◌, ◌≡◌}
use Rattle.edge_ports.specs.Printouts.{PrintsAllBut}
use Rattle.cell_names.specs.Names.{scene_in}
use Rattle.question_text.proofs.states.write_between.Given as goal
use Rattle.question_text.specs.States.{is_between, lines_between}

abbrev pub decreases-addresses : goal.decreases-addresses
decreases-addresses g l = l.to - l.address

abbrev pub invariant-addresses : goal.invariant-addresses
invariant-addresses g l = let printout = g.P.Printer.printout in record {
  lines : PrintsAllBut (printout l.fn.out) (lines_between (scene_in l.scene) l.call l.name l.from l.to)
      (printout l.out) (lines_between (scene_in l.scene) l.call l.name l.address l.to);
  cells : (l.some || is_between (scene_in l.scene) l.call l.name l.address l.to) ≡ is_between (scene_in l.scene) l.call l.name l.from l.to;
}
