use Rattle.std.proofs.Common.{◌+◌, ◌<◌, ◌∙◌, ◌≡◌, ◌≤◌, ap, arith, length, slice_index_or, subst, sym}
use Rattle.std.proofs.lemmas.Bool.Decides.{nat_tests}
use Rattle.cell_names.proofs.{PartsPassed.passed_from, VariablesPassed.not_locals}
use Rattle.cell_names.proofs.walks.passed_locals.Goals as goal
use Rattle.cell_names.specs.{Finding.list_at, Names.SceneLists, Names.scene_in, declared.places.PlacedPart.PlacedPart}
use Rattle.cell_names.specs.Walks.{NoneAfter, NoneFrom, before_end, is_local_at, is_of_local}

pub returns : goal.returns
returns c =
    let s = scene_in c.args.scene.now in
    let number = c.args.number in
    let place = c.args.place in
    let left = c.args.left.now in
    let found = c.local_near-found.result in
    let parts = c.locals-locals.result.now in
    let last = c.first_local-last.result in
    let is = subst (λ (v : SceneLists). parts ≡ list_at v.names.frames number) c.scene.view_is c.locals-locals.ensures.is in
    let next = subst (λ (v : SceneLists). (d : PlacedPart) → found.begun < length (list_at v.names.frames number)
    → (slice_index_or (list_at v.names.frames number) found.begun d).place ≤ place + found.more + 1) c.scene.view_is c.local_near-found.ensures.next in
    let none = subst (λ (v : SceneLists). NoneFrom (λ part. is_of_local v.program left part) parts found.begun last) c.scene.view_is
    c.first_local-last.ensures.none in
    let passed = passed_from (λ o. is_of_local s.program left o) parts (list_at c.args.scene.now.names.frames number) place found.more found.begun last
    c.places_up_to-passed.result (record { place = 0; number = 0 }) is c.locals-locals.ensures.rising c.first_local-last.ensures.inside none
    (next (record { place = 0; number = 0 })) c.places_up_to-passed.ensures in
    let whole = c.if-first-found.false in let inside = c.if-place-routine.false in let r = c.args.routine in
    subst (NoneAfter (λ k. is_local_at s number r (place + k) left) c.args.first)
    (ap (before_end r.cells place) (sym c.before_result.ensures) ∙ sym c.before_end.ensures)
    (not_locals s number place r left c.args.first found.more c.places_up_to-passed.result (omega (arith, whole)) passed
    (grind (arith, nat_tests, inside)) (sym c.is_result.ensures ∙ c.if-is_result.false))
