use Rattle.std.proofs.Common.{◌-◌, ◌≡◌}
use Rattle.cell_names.proofs.names.copy_before.Given as goal
use Rattle.cell_names.specs.Names.{copy_before, scene_in}

abbrev pub invariant-parameters : goal.invariant-parameters
invariant-parameters l =
    copy_before (scene_in l.scene) l.frame l.place (l.most - l.counter) l.from
    ≡ copy_before (scene_in l.scene) l.frame l.place l.most l.fn.from
