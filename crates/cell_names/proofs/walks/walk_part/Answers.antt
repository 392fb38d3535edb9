use Rattle.std.proofs.Common.{◌+◌, ◌-◌, subst}
use Rattle.cell_names.proofs.RootsPassed.{frame_there}
use Rattle.cell_names.proofs.walks.walk_part.Goals as goal
use Rattle.cell_names.specs.{Names.root_in, Names.scene_in, Walks.WalksOver}

pub returns-in-Some : goal.returns-in-Some
returns-in-Some c =
    let s = scene_in c.args.scene.now in
    let part = c.in-Some.part in
    let placed = subst (λ p. WalksOver s c.args.name.now (λ k. root_in s part.number part.place (p + k) c.routine_of-routine.result) c.walk_call.result)
    c.saturating_sub-place.ensures
    c.walk_call.ensures in
    let walked = subst (λ o. WalksOver s c.args.name.now (λ k. root_in s part.number part.place ((c.args.address - part.place) + k) o)
    c.walk_call.result) c.routine_of-routine.ensures placed in
    rw c.in-Some.is (frame_there s c.args.name.now c.args.address part c.walk_call.result (rw c.in-Some.is at c.requires) walked)
