use Rattle.std.proofs.Common.{◌∙◌, sym}
use Rattle.cell_names.proofs.RootsPassed.{other_block}
use Rattle.cell_names.proofs.walks.walk_near_block.Goals as goal
use Rattle.cell_names.specs.Names.{scene_in}

pub returns-else-is_of_block : goal.returns-else-is_of_block
returns-else-is_of_block c =
    other_block (scene_in c.args.scene.now) c.args.name.now c.args.address c.args.limit c.args.part (sym c.is_of_block.ensures ∙ c.if-is_of_block.false)
