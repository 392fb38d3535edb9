use Rattle.std.proofs.Common.{◌+◌, ◌∙◌, ◌≡◌, ◌≤◌, ℕ, Some, false, subst, sym}
use Rattle.cell_names.proofs.{FieldsPassed.no_field, FieldsPassed.not_here, IndicesPassed.no_component, IndicesPassed.no_index, NamesPassed.none_alike}
use Rattle.cell_names.proofs.walks.passed_over.Goals as goal
use Rattle.cell_names.specs.{Names.SceneLists, Names.scene_in, Walks.is_indexed, Walks.record_of}

pub passed_components-requires : goal.passed_components-requires
passed_components-requires c =
    let s = scene_in c.args.scene.now in
    let array = sym c.components_of.ensures ∙ c.in-Some.is in
    subst (λ (v : SceneLists). (k : ℕ) → k ≤ c.alike_below-first.result
    → is_indexed v.program c.in-Some.array (c.args.at.place + k) c.args.name.now ≡ false) (sym c.scene.view_is)
    (no_index s c.args.at c.args.name.now c.in-Some.array array c.alike_below-first.result
    (none_alike s c.args.at c.args.name.now c.alike_below-first.result c.alike_below-first.ensures c.requires))

pub returns-in-Some : goal.returns-in-Some
returns-in-Some c =
    let array = sym c.components_of.ensures ∙ c.in-Some.is in
    no_component (scene_in c.args.scene.now) c.args.at c.args.name.now c.in-Some.array array c.passed_components.result
    (subst (λ (v : SceneLists). (k : ℕ) → k ≤ c.passed_components.result
    → is_indexed v.program c.in-Some.array (c.args.at.place + k) c.args.name.now ≡ false) c.scene.view_is c.passed_components.ensures)

pub passed_fields-requires : goal.passed_fields-requires
passed_fields-requires c =
    let record' = subst (λ (v : SceneLists). record_of v.program c.args.at.held ≡ Some c.in-Some-record_of.of) c.scene.view_is
    (sym c.record_of.ensures ∙ c.in-Some-record_of.is) in
    not_here (scene_in c.args.scene.now) c.args.at c.in-Some-record_of.of c.args.name.now record' c.requires

pub returns-in-Some-record_of : goal.returns-in-Some-record_of
returns-in-Some-record_of c =
    let record' = subst (λ (v : SceneLists). record_of v.program c.args.at.held ≡ Some c.in-Some-record_of.of) c.scene.view_is
    (sym c.record_of.ensures ∙ c.in-Some-record_of.is) in
    no_field (scene_in c.args.scene.now) c.args.at c.in-Some-record_of.of c.args.name.now c.passed_fields.result record' c.passed_fields.ensures

pub returns-in-None-record_of : goal.returns-in-None-record_of
returns-in-None-record_of c =
    none_alike (scene_in c.args.scene.now) c.args.at c.args.name.now c.alike_below-first.result c.alike_below-first.ensures c.requires
