use Rattle.std.proofs.Common.{arith, subst, sym}
use Rattle.cell_names.proofs.RootsPassed.{heap_walked, stack_walked}
use Rattle.cell_names.proofs.walks.walk.Goals as goal
use Rattle.cell_names.specs.{Names.scene_in, Walks.Walks}

pub returns-then-address-ge524288 : goal.returns-then-address-ge524288
returns-then-address-ge524288 c =
    heap_walked (scene_in c.args.scene.now) c.args.name.now c.args.address c.walk_heap.result.0 c.if-address-ge524288.true c.walk_heap.ensures

pub returns-else-address-ge524288 : goal.returns-else-address-ge524288
returns-else-address-ge524288 c =
    let under = c.if-address-ge524288.false in
    subst (Walks (scene_in c.args.scene.now) c.args.name.now c.args.address) (sym c.limited.ensures)
    (stack_walked (scene_in c.args.scene.now) c.args.name.now c.args.address c.walk_stack-walked.result.0 (omega (arith, under)) c.walk_stack-walked.ensures)
