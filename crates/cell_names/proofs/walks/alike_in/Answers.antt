use Rattle.std.proofs.Common.{◌+◌, ◌∙◌, ◌≡◌, ◌≤◌, ℕ, arith, subst, sym}
use Rattle.std.proofs.lemmas.Bool.Decides.{nat_tests}
use Rattle.cell_names.proofs.{CellsAlike.local_moves, CopiesBefore.copy_moves}
use Rattle.cell_names.proofs.walks.alike_in.Goals as goal
use Rattle.cell_names.specs.{Names.SceneLists, Names.scene_in, Walks.before_end}

pub returns-then-place-routine : goal.returns-then-place-routine
returns-then-place-routine c = λ k below.
    let first = c.if-place-eq0.false in let past = c.if-place-routine.true in let last = c.saturating_sub.ensures in
    copy_moves (scene_in c.args.scene.now) c.args.frame c.args.place k c.args.routine (grind (arith, nat_tests, first))
    (grind (arith, nat_tests, past)) (rw last at (c.alike_copies.ensures k below))

pub returns-else-is_result : goal.returns-else-is_result
returns-else-is_result c = λ k below.
    let same = subst (λ (v : SceneLists). (k : ℕ) → k ≤ c.local_near-more.result.more
    → (scene_in v).finding.frame c.args.frame.routine (c.args.place + k) ≡ c.local_near-more.result.part) c.scene.view_is c.local_near-more.ensures.alike in
    let first = c.if-place-eq0.false in let within = c.if-place-routine.false in
    local_moves (scene_in c.args.scene.now) c.args.frame c.args.place c.args.routine c.local_near-more.result.part c.local_near-more.result.more k
    (record {
      first = grind (arith, nat_tests, first);
      within = grind (arith, nat_tests, within);
      other = sym c.is_result.ensures ∙ c.if-is_result.false;
      alike = same;
      begun = c.local_near-more.ensures.begun;
    })
    (subst (λ n. k ≤ before_end c.args.routine.cells c.args.place n) c.before_result.ensures (subst (λ n. k ≤ n) c.before_end.ensures below))
