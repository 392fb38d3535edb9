use Rattle.std.proofs.Common.{◌+◌, ◌<◌, ◌∙◌, ◌≡◌, ◌≤◌, ℕ, Option, length, slice_index_or, subst, sym}
use Rattle.cell_names.proofs.{PartsPassed.passed_from, RootsPassed.frames_passed}
use Rattle.cell_names.proofs.walks.walk_stack.Goals as goal
use Rattle.cell_names.specs.{Names.SceneLists, Names.scene_in, Places.finds, Walks.is_of_frame, declared.places.PlacedPart.PlacedPart}

pub returns-else-is_of_frame : goal.returns-else-is_of_frame
returns-else-is_of_frame c =
    let s = scene_in c.args.scene.now in
    let name = c.args.name.now in
    let found = c.find_near-found.result in
    let opened = c.args.scene.now.opened in
    let is = subst (λ (v : SceneLists). c.parts-frames.result.now ≡ v.opened) c.scene.view_is c.parts-frames.ensures.is in
    let alike = subst (λ (v : SceneLists). (k : ℕ) → k ≤ found.more → finds v.opened (c.args.address + k) ≡ found.part) c.scene.view_is
    c.find_near-found.ensures.alike in
    let next = subst (λ (v : SceneLists). (d : PlacedPart) → found.begun < length v.opened
    → (slice_index_or v.opened found.begun d).place ≤ c.args.address + found.more + 1) c.scene.view_is c.find_near-found.ensures.next in
    frames_passed s name c.args.address found.more c.places_up_to-more.result found.part alike (sym c.is_of_frame.ensures ∙ c.if-is_of_frame.false)
    (passed_from (λ (o : Option PlacedPart). is_of_frame s o name) c.parts-frames.result.now opened c.args.address found.more found.begun
    c.first_frame-last.result c.places_up_to-more.result (record { place = 0; number = 0 }) is c.parts-frames.ensures.rising
    c.first_frame-last.ensures.inside c.first_frame-last.ensures.none (next (record { place = 0; number = 0 })) c.places_up_to-more.ensures)
