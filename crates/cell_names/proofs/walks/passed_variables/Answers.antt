use Rattle.std.proofs.Common.{◌∙◌, ◌≡◌, Some, ap, option_copied, subst, sym}
use Rattle.core_program.specs.ProgramRows.{routine_at}
use Rattle.cell_names.proofs.VariablesPassed.{variables_passed}
use Rattle.cell_names.proofs.walks.passed_variables.Goals as goal
use Rattle.cell_names.specs.{NamedBy.after_part, Names.SceneLists, Names.scene_in, Names.whose_text}

pub returns-in-Some-then_whose : goal.returns-in-Some-then_whose
returns-in-Some-then_whose c =
    let known = subst (λ (v : SceneLists). routine_at v.program c.args.frame.routine ≡ Some c.in-Some.row) c.scene.view_is
    (sym c.routine.ensures ∙ c.in-Some.is) in
    let is = subst (λ (v : SceneLists). after_part (whose_text v.program c.args.frame.call c.args.frame.routine) c.args.name.now
    ≡ Some c.in-Some-then_whose.left.now)
    c.scene.view_is (sym c.then_whose.ensures ∙ ap option_copied c.in-Some-then_whose.is) in
    variables_passed (scene_in c.args.scene.now) c.args.frame c.args.place c.in-Some.row c.args.name.now c.in-Some-then_whose.left.now
    c.args.first c.passed_locals.result known is c.requires c.passed_locals.ensures
