use Rattle.std.proofs.Common.{◌+◌, ◌-◌, ◌∙◌, ◌≡◌, None, Option, Some, ap, subst, sym}
use Rattle.cell_names.proofs.CopiesBefore.{copies_begin, copies_end, copy_found, copy_on, no_copy}
use Rattle.cell_names.proofs.names.copy_before.Goals as goal
use Rattle.cell_names.specs.{Names.SceneLists, Names.copy_before, Names.scene_in, declared.places.PlacedPart.PlacedPart}

pub parameters-init : goal.parameters-init
parameters-init c = copies_begin (scene_in c.args.scene.now) c.args.frame c.args.place c.args.most c.args.from

pub returns-in-None : goal.returns-in-None
returns-in-None c =
    let is = subst (λ (v : SceneLists). ◌≡◌ {A = Option PlacedPart} None ((scene_in v).finding.frame c.args.frame.routine c.parameters.from))
    c.scene.view_is (sym c.in-None.is ∙ c.local.ensures) in
    no_copy (scene_in c.args.scene.now) c.args.frame c.args.place c.args.most c.parameters.counter c.parameters.from c.parameters-test.true is
    ∙ c.parameters.invariant

pub returns-in-Some-begun_copy : goal.returns-in-Some-begun_copy
returns-in-Some-begun_copy c =
    let is = subst (λ (v : SceneLists). Some c.in-Some.part ≡ (scene_in v).finding.frame c.args.frame.routine c.parameters.from)
    c.scene.view_is (sym c.in-Some.is ∙ c.local.ensures) in
    copy_found (scene_in c.args.scene.now) c.args.frame c.args.place c.args.most c.parameters.counter c.parameters.from c.in-Some.part
    c.in-Some-begun_copy.copy c.parameters-test.true is (sym c.begun_copy.ensures ∙ c.in-Some-begun_copy.is)
    ∙ c.parameters.invariant

pub parameters-preserved : goal.parameters-preserved
parameters-preserved c =
    let is = subst (λ (v : SceneLists). Some c.in-Some.part ≡ (scene_in v).finding.frame c.args.frame.routine c.parameters.from)
    c.scene.view_is (sym c.in-Some.is ∙ c.local.ensures) in
    ap (copy_before (scene_in c.args.scene.now) c.args.frame c.args.place (c.args.most - (c.parameters.counter + 1))) c.saturating_sub-from.ensures
    ∙ copy_on (scene_in c.args.scene.now) c.args.frame c.args.place c.args.most c.parameters.counter c.parameters.from c.in-Some.part
    c.parameters-test.true is (sym c.begun_copy.ensures ∙ c.in-None-begun_copy.is)
    ∙ c.parameters.invariant

pub returns : goal.returns
returns c =
    copies_end (scene_in c.args.scene.now) c.args.frame c.args.place c.args.most c.parameters.counter c.parameters.from c.parameters-test.false
    ∙ c.parameters.invariant
