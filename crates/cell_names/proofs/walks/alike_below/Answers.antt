use Rattle.std.proofs.Common.{◌+◌, ◌∙◌, ◌≡◌, ◌≤◌, ℕ, Some, ap, subst, sym}
use Rattle.core_program.specs.ProgramRows.{size_of, type_at}
use Rattle.cell_names.proofs.CellsAlike.{array_below, conformant_below, record_below}
use Rattle.cell_names.proofs.walks.alike_below.Goals as goal
use Rattle.cell_names.specs.{Conformant.arguments_in, Conformant.cells_held, Names.SceneLists, Names.scene_in, Walks.left_of_component}

pub returns-in-Some-Array : goal.returns-in-Some-Array
returns-in-Some-Array c = λ k below.
    let is = sym (ap (λ (v : SceneLists). type_at v.program c.in-Variable.of) c.scene.view_is) ∙ sym c.type_row.ensures ∙ c.in-Some-Array.is
    ∙ ap Some c.in-Some-Array.field-0-is in
    let size = c.size_of.ensures ∙ ap (λ (v : SceneLists). size_of v.program c.in-Some-Array.component) c.scene.view_is in
    array_below (scene_in c.args.scene.now) c.args.at c.in-Variable.of k _ c.in-Some-Array.component _ _ c.in-Variable.is is
    (subst (λ n. k ≤ left_of_component c.args.at.place n) size (subst (λ n. k ≤ n) c.left_of_component.ensures below))

pub returns-in-Some-Record : goal.returns-in-Some-Record
returns-in-Some-Record c = λ k below.
    let is = sym (ap (λ (v : SceneLists). type_at v.program c.in-Variable.of) c.scene.view_is) ∙ sym c.type_row.ensures ∙ c.in-Some-Record.is
    ∙ ap Some c.in-Some-Record.field-0-is in
    let same = subst (λ (v : SceneLists). (k : ℕ) → k ≤ c.component_near.result.more
    → (scene_in v).finding.component c.in-Variable.of (c.args.at.place + k) ≡ c.component_near.result.part) c.scene.view_is c.component_near.ensures.alike in
    record_below (scene_in c.args.scene.now) c.args.at c.in-Variable.of k c.component_near.result.more _ _ _ _ c.component_near.result.part
    c.in-Variable.is is same c.component_near.ensures.begun below

pub returns-in-Some-Conformant : goal.returns-in-Some-Conformant
returns-in-Some-Conformant c = λ k below.
    let it = c.in-Some-Conformant in
    let is = sym (ap (λ (v : SceneLists). type_at v.program c.in-Conformant.of) c.scene.view_is) ∙ sym c.type_row-in-Conformant.ensures ∙ it.is
    ∙ ap Some it.field-0-is in
    let size = c.cells_held.ensures
    ∙ ap (λ (v : SceneLists). cells_held v.program (arguments_in v.args) c.in-Conformant.call it.component) c.scene.view_is in
    conformant_below (scene_in c.args.scene.now) c.args.at c.in-Conformant.call c.in-Conformant.of k _ it.component _ _ c.in-Conformant.is is
    (subst (λ n. k ≤ left_of_component c.args.at.place n) size (subst (λ n. k ≤ n) c.left_of_component-in-Some-Conformant.ensures below))
