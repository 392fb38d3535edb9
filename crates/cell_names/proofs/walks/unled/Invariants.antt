use Rattle.cell_names.proofs.NamesPassed.{IsLedAlike}
use Rattle.cell_names.proofs.walks.unled.Given as goal
use Rattle.cell_names.specs.Names.{scene_in}

abbrev pub invariant-steps : goal.invariant-steps
invariant-steps l = IsLedAlike (scene_in l.scene) l.counter l.fn.from l.at l.fn.name l.left l.alike
