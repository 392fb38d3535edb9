use Rattle.std.proofs.Common.{◌<◌, ◌↔◌, ◌∙◌, ◌≡◌, All, false, refl, subst, sym, true}
use Rattle.core_program.specs.Agree.{Agrees}
use Rattle.body_replay.proofs.{ChangesOneByOne.below_listed, RecordsOfRuns.kept, RecordsOfRuns.row_of_run, RecordsOfRuns.run_of_history}
use Rattle.body_replay.proofs.RowsAgree.{agreed, few_rows, for_call, from_itself, last_there, nothing_found, room_of, same_of, way_of_agreed}
use Rattle.body_replay.proofs.transplants.agreed_effect.Goals as goal
use Rattle.body_replay.specs.Traces.{kept_state}

pub has_room-requires-clause-last : goal.has_room-requires-clause-last
has_room-requires-clause-last c =
    let w = c.requires.run in
    let run = run_of_history (kept c.is_whole.ensures.whole w.1 w.2 c.requires.budget) w.2 in
    last_there run (row_of_run run c.args.number c.args.row.now c.requires.row)

pub has_room-requires-clause-from_itself : goal.has_room-requires-clause-from_itself
has_room-requires-clause-from_itself c =
    let w = c.requires.run in
    let run = run_of_history (kept c.is_whole.ensures.whole w.1 w.2 c.requires.budget) w.2 in
    from_itself run (row_of_run run c.args.number c.args.row.now c.requires.row)

pub has_room-requires-clause-few : goal.has_room-requires-clause-few
has_room-requires-clause-few c =
    let w = c.requires.run in
    let run = run_of_history (kept c.is_whole.ensures.whole w.1 w.2 c.requires.budget) w.2 in
    few_rows run (row_of_run run c.args.number c.args.row.now c.requires.row)

pub effect_of-requires : goal.effect_of-requires
effect_of-requires c =
    let w = c.requires.run in
    (c.args.run.now.input, (kept c.is_whole.ensures.whole w.1 w.2 c.requires.budget).told c.args.number c.args.row.now c.requires.row)

pub meets_the_same-requires : goal.meets_the_same-requires
meets_the_same-requires c = subst (λ xs. All (λ x. x.0 < 1048576) xs) (sym c.in_ok-found.ensures.reads) (below_listed _)

pub returns-then-not-ended_by_itself-clause-agrees : goal.returns-then-not-ended_by_itself-clause-agrees
returns-then-not-ended_by_itself-clause-agrees c =
    let w = c.requires.run in
    for_call (λ d below. (false ≡ true) ↔ Agrees d below (kept_state c.args.at.now)) (kept c.is_whole.ensures.whole w.1 w.2 c.requires.budget) c.requires.row
    (λ input is g r. nothing_found (λ a.
    let z : false ≡ true = sym c.if-not-ended_by_itself.true ∙ c.ended_by_itself.ensures.1 (way_of_agreed g r c.args.at.now a) in
    let x : ⊥ = cc in
    x))

pub returns-then-not-has_room-clause-agrees : goal.returns-then-not-has_room-clause-agrees
returns-then-not-has_room-clause-agrees c =
    let w = c.requires.run in
    for_call (λ d below. (false ≡ true) ↔ Agrees d below (kept_state c.args.at.now)) (kept c.is_whole.ensures.whole w.1 w.2 c.requires.budget) c.requires.row
    (λ input is g r. nothing_found (λ a.
    let z : false ≡ true = sym c.if-not-has_room.true ∙ c.has_room.ensures.1 (room_of g r c.args.at.now a) in
    let x : ⊥ = cc in
    x))

pub returns-then-meets_the_same-clause-agrees : goal.returns-then-meets_the_same-clause-agrees
returns-then-meets_the_same-clause-agrees c =
    let w = c.requires.run in
    for_call (λ d below. (true ≡ true) ↔ Agrees d below (kept_state c.args.at.now)) (kept c.is_whole.ensures.whole w.1 w.2 c.requires.budget) c.requires.row
    (λ input is g r. (
      λ e. agreed g r c.args.at.now c.in_ok-found.ensures (c.ended_by_itself.ensures.0 c.if-not-ended_by_itself.false)
          (c.has_room.ensures.0 c.if-not-has_room.false) (c.meets_the_same.ensures.0 c.if-meets_the_same.true),
      λ a. refl,
    ))

pub returns-else-meets_the_same-clause-agrees : goal.returns-else-meets_the_same-clause-agrees
returns-else-meets_the_same-clause-agrees c =
    let w = c.requires.run in
    for_call (λ d below. (false ≡ true) ↔ Agrees d below (kept_state c.args.at.now)) (kept c.is_whole.ensures.whole w.1 w.2 c.requires.budget) c.requires.row
    (λ input is g r. nothing_found (λ a.
    let z : false ≡ true = sym c.if-meets_the_same.false ∙ c.meets_the_same.ensures.1 (same_of g r c.args.at.now c.in_ok-found.ensures a) in
    let x : ⊥ = cc in
    x))
