use Rattle.std.proofs.Common.{◌∙◌, ◌≡◌, None, Some, ap, false, option_copied, subst, sym, true}
use Rattle.cell_names.proofs.{NamesPassed.named_part, NamesPassed.named_whole, NamesPassed.unnamed_part, NamesPassed.unnamed_whole, RootsPassed.root_named}
use Rattle.cell_names.proofs.walks.walk_root.Goals as goal
use Rattle.cell_names.specs.{NamedBy.after_part, NamedBy.is_of_all, Names.SceneLists, Names.origin_text, Names.scene_in, Walks.moved_root}

pub returns-then-is_of_all : goal.returns-then-is_of_all
returns-then-is_of_all c =
    let whole = subst (λ (v : SceneLists). is_of_all v.program c.args.root.origin c.args.name.now ≡ true) c.scene.view_is
    (sym c.is_of_all.ensures ∙ c.if-is_of_all.true) in
    root_named (scene_in c.args.scene.now) c.args.name.now c.args.root (named_whole (scene_in c.args.scene.now) c.args.root c.args.name.now whole)

pub returns-in-None : goal.returns-in-None
returns-in-None c = λ k below.
    let other = subst (λ (v : SceneLists). is_of_all v.program c.args.root.origin c.args.name.now ≡ false) c.scene.view_is
    (sym c.is_of_all.ensures ∙ c.if-is_of_all.false) in
    let none = subst (λ (v : SceneLists). after_part (origin_text v.program c.args.root.origin) c.args.name.now ≡ None) c.scene.view_is
    (sym c.then_origin.ensures ∙ ap option_copied c.in-None.is) in
    unnamed_whole (scene_in c.args.scene.now) (moved_root k c.args.root) c.args.name.now other none

pub returns-in-None-unled : goal.returns-in-None-unled
returns-in-None-unled c =
    let some = subst (λ (v : SceneLists). after_part (origin_text v.program c.args.root.origin) c.args.name.now ≡ Some c.in-Some.rest.now) c.scene.view_is
    (sym c.then_origin.ensures ∙ ap option_copied c.in-Some.is) in
    root_named (scene_in c.args.scene.now) c.args.name.now c.args.root
    (named_part (scene_in c.args.scene.now) c.args.root c.args.name.now c.in-Some.rest.now some (rw c.in-None-unled.is at c.unled.ensures))

pub returns-in-Some-unled : goal.returns-in-Some-unled
returns-in-Some-unled c = λ k below.
    let other = subst (λ (v : SceneLists). is_of_all v.program c.args.root.origin c.args.name.now ≡ false) c.scene.view_is
    (sym c.is_of_all.ensures ∙ c.if-is_of_all.false) in
    let some = subst (λ (v : SceneLists). after_part (origin_text v.program c.args.root.origin) c.args.name.now ≡ Some c.in-Some.rest.now) c.scene.view_is
    (sym c.then_origin.ensures ∙ ap option_copied c.in-Some.is) in
    let unled = rw c.in-Some-unled.is at c.unled.ensures in
    unnamed_part (scene_in c.args.scene.now) (moved_root k c.args.root) c.args.name.now c.in-Some.rest.now other some (unled k below)
