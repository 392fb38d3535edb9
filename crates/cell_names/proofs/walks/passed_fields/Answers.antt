use Rattle.std.proofs.Common.{◌+◌, ◌<◌, ◌∙◌, ◌≡◌, ◌≤◌, ℕ, Option, ap, arith, length, slice_index_or, subst, sym}
use Rattle.cell_names.proofs.PartsPassed.{none_up_to, passed_from}
use Rattle.cell_names.proofs.walks.passed_fields.Goals as goal
use Rattle.cell_names.specs.{Finding.list_at, Names.SceneLists, Names.scene_in, Places.finds, declared.places.PlacedPart.PlacedPart}
use Rattle.cell_names.specs.Walks.{NoneFrom, is_selected, is_selected_at}

pub returns : goal.returns
returns c =
    let s = scene_in c.args.scene.now in
    let of' = c.args.of in
    let place = c.args.place in
    let name = c.args.name.now in
    let such = λ (o : Option PlacedPart). is_selected s.program o name in
    let found = c.component_near-found.result in
    let parts = c.components-fields.result.now in
    let last = c.first_selected-last.result in
    let is = subst (λ (v : SceneLists). parts ≡ list_at v.names.records of') c.scene.view_is c.components-fields.ensures.is in
    let alike = subst (λ (v : SceneLists). (k : ℕ) → k ≤ found.more → finds (list_at v.names.records of') (place + k) ≡ found.part) c.scene.view_is
    c.component_near-found.ensures.alike in
    let next = subst (λ (v : SceneLists). (d : PlacedPart) → found.begun < length (list_at v.names.records of')
    → (slice_index_or (list_at v.names.records of') found.begun d).place ≤ place + found.more + 1) c.scene.view_is c.component_near-found.ensures.next in
    let none = subst (λ (v : SceneLists). NoneFrom (λ part. is_selected v.program part name) parts found.begun last) c.scene.view_is
    c.first_selected-last.ensures.none in
    let same : place + 0 ≡ place = omega arith in
    let here = ap such (sym (alike 0 (omega arith)) ∙ ap (finds (list_at c.args.scene.now.names.records of')) same) ∙ c.requires in
    none_up_to (λ j. is_selected_at s of' (place + j) name) found.more c.places_up_to.result (λ j within. ap such (alike j within) ∙ here)
    (passed_from such parts (list_at c.args.scene.now.names.records of') place found.more found.begun last c.places_up_to.result
    (record { place = 0; number = 0 }) is c.components-fields.ensures.rising c.first_selected-last.ensures.inside none
    (next (record { place = 0; number = 0 })) c.places_up_to.ensures)
