use Rattle.cell_names.proofs.CopiesBefore.{AlikeSoFar}
use Rattle.cell_names.proofs.walks.alike_copies.Given as goal
use Rattle.cell_names.specs.Names.{scene_in}

abbrev pub invariant-parameters : goal.invariant-parameters
invariant-parameters l = AlikeSoFar (scene_in l.scene) l.frame l.place l.most l.fn.from l.counter l.from l.more
