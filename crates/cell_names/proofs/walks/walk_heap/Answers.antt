use Rattle.std.proofs.Common.{◌∙◌, sym}
use Rattle.cell_names.proofs.RootsPassed.{heap_passed}
use Rattle.cell_names.proofs.walks.walk_heap.Goals as goal
use Rattle.cell_names.specs.Names.{scene_in}

pub returns-else-is_of_heap : goal.returns-else-is_of_heap
returns-else-is_of_heap c =
    heap_passed (scene_in c.args.scene.now) c.args.name.now c.args.address c.args.limit (sym c.is_of_heap.ensures ∙ c.if-is_of_heap.false)
