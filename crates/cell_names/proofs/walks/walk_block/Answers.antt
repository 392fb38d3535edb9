use Rattle.std.proofs.Common.{◌∙◌, sym}
use Rattle.cell_names.proofs.RootsPassed.{block_passed}
use Rattle.cell_names.proofs.walks.walk_block.Goals as goal
use Rattle.cell_names.specs.Names.{scene_in}

pub returns-in-Some : goal.returns-in-Some
returns-in-Some c =
    block_passed (scene_in c.args.scene.now) c.args.name.now c.args.address c.args.part c.in-Some.root c.walk_root.result c.requires
    (sym c.heap_root.ensures ∙ c.in-Some.is) c.walk_root.ensures
