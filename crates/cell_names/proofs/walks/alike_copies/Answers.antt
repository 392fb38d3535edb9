use Rattle.std.proofs.Common.{◌+◌, ◌∙◌, ◌≡◌, None, Option, Some, subst, sym}
use Rattle.cell_names.proofs.CopiesBefore.{AlikeSoFar, alike_begins, alike_ends, alike_found, alike_nowhere, alike_on}
use Rattle.cell_names.proofs.walks.alike_copies.Goals as goal
use Rattle.cell_names.specs.{Names.SceneLists, Names.scene_in, Walks.before_copy, declared.places.PlacedPart.PlacedPart}

pub parameters-init : goal.parameters-init
parameters-init c = alike_begins (scene_in c.args.scene.now) c.args.frame c.args.place c.args.most c.args.from _

pub returns-in-None : goal.returns-in-None
returns-in-None c =
    let is = subst (λ (v : SceneLists). ◌≡◌ {A = Option PlacedPart} None ((scene_in v).finding.frame c.args.frame.routine c.parameters.from))
    c.scene.view_is (sym c.in-None.is ∙ c.local.ensures) in
    alike_nowhere (scene_in c.args.scene.now) c.args.frame c.args.place c.args.most c.args.from c.parameters.counter c.parameters.from
    c.parameters.more c.parameters-test.true is c.parameters.invariant

pub returns-in-None-before_copy : goal.returns-in-None-before_copy
returns-in-None-before_copy c =
    let s = scene_in c.args.scene.now in
    let is = subst (λ (v : SceneLists). Some c.in-Some.part ≡ (scene_in v).finding.frame c.args.frame.routine c.parameters.from)
    c.scene.view_is (sym c.in-Some.is ∙ c.local.ensures) in
    let found = subst (λ o. before_copy c.args.place o c.parameters.more ≡ None) c.copy_of.ensures
    (sym c.before_copy.ensures ∙ c.in-None-before_copy.is) in
    alike_found s c.args.frame c.args.place c.args.most c.args.from c.parameters.counter c.parameters.from c.parameters.more c.in-Some.part
    c.parameters-test.true is found c.parameters.invariant

pub parameters-preserved : goal.parameters-preserved
parameters-preserved c =
    let s = scene_in c.args.scene.now in
    let is = subst (λ (v : SceneLists). Some c.in-Some.part ≡ (scene_in v).finding.frame c.args.frame.routine c.parameters.from)
    c.scene.view_is (sym c.in-Some.is ∙ c.local.ensures) in
    let later = subst (λ o. before_copy c.args.place o c.parameters.more ≡ Some c.in-Some-before_copy.fewer) c.copy_of.ensures
    (sym c.before_copy.ensures ∙ c.in-Some-before_copy.is) in
    subst (λ n. AlikeSoFar s c.args.frame c.args.place c.args.most c.args.from (c.parameters.counter + 1) n c.in-Some-before_copy.fewer)
    (sym c.saturating_sub-from.ensures)
    (alike_on s c.args.frame c.args.place c.args.most c.args.from c.parameters.counter c.parameters.from c.parameters.more
    c.in-Some-before_copy.fewer c.in-Some.part c.parameters-test.true is later c.parameters.invariant)

pub returns : goal.returns
returns c =
    alike_ends (scene_in c.args.scene.now) c.args.frame c.args.place c.args.most c.args.from c.parameters.counter c.parameters.from
    c.parameters.more c.parameters-test.false c.parameters.invariant
