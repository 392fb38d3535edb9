use Rattle.std.proofs.Common.{◌<◌, ◌↔◌, ◌∙◌, ◌≡◌, All, IfSome, IsSome, arith, refl, subst, sym}
use Rattle.core_program.specs.{Agree.Agrees, State.IsSound}
use Rattle.core_program.specs.Apply as effects
use Rattle.body_replay.proofs.{ChangesOneByOne.below_listed, RecordsOfRuns.kept, RecordsOfRuns.row_of_run, RecordsOfRuns.run_of_history}
use Rattle.body_replay.proofs.RowsAgree.{applied_is, at_call, few_rows, for_call, fresh_fits, from_itself, last_there, place_fits, runs_to}
use Rattle.body_replay.proofs.transplants.transplant.Goals as goal
use Rattle.body_replay.specs.{ByRows.IsEffectOf, Carried.RunsTo, Traces.kept_state}

pub after_effect-requires-clause-addresses : goal.after_effect-requires-clause-addresses
after_effect-requires-clause-addresses c =
    let e = subst (λ o. IfSome o (λ f. IsEffectOf c.args.run.now.log c.call-row.result.now f)) c.in-Some.is c.in_ok-agreed.ensures.found in
    subst (λ xs. All (λ x. x.0 < 1048576) xs) (sym e.changes) (below_listed _)

pub after_effect-requires-clause-fresh : goal.after_effect-requires-clause-fresh
after_effect-requires-clause-fresh c =
    let w = c.requires.run in
    let k = kept c.is_whole.ensures.whole w.1 w.2 c.requires.budget in
    let run = run_of_history k w.2 in
    let r = row_of_run run c.args.call c.call-row.result.now c.call-row.ensures.found in
    let e = subst (λ o. IfSome o (λ f. IsEffectOf c.args.run.now.log c.call-row.result.now f)) c.in-Some.is c.in_ok-agreed.ensures.found in
    let a = (at_call (λ d below. IsSome c.in_ok-agreed.agreed ↔ Agrees d below (kept_state c.args.at.now)) c.in_ok-agreed.ensures.agrees w.2 run r).0
    (subst (λ o. IsSome o) (sym c.in-Some.is) refl) in
    fresh_fits run r c.args.at.now e a

pub after_effect-requires-clause-place : goal.after_effect-requires-clause-place
after_effect-requires-clause-place c =
    let w = c.requires.run in
    let k = kept c.is_whole.ensures.whole w.1 w.2 c.requires.budget in
    let run = run_of_history k w.2 in
    let r = row_of_run run c.args.call c.call-row.result.now c.call-row.ensures.found in
    let e = subst (λ o. IfSome o (λ f. IsEffectOf c.args.run.now.log c.call-row.result.now f)) c.in-Some.is c.in_ok-agreed.ensures.found in
    let a = (at_call (λ d below. IsSome c.in_ok-agreed.agreed ↔ Agrees d below (kept_state c.args.at.now)) c.in_ok-agreed.ensures.agrees w.2 run r).0
    (subst (λ o. IsSome o) (sym c.in-Some.is) refl) in
    place_fits run r c.args.at.now e a

pub after_effect-requires-clause-from_itself : goal.after_effect-requires-clause-from_itself
after_effect-requires-clause-from_itself c =
    let w = c.requires.run in
    let k = kept c.is_whole.ensures.whole w.1 w.2 c.requires.budget in
    let run = run_of_history k w.2 in
    let r = row_of_run run c.args.call c.call-row.result.now c.call-row.ensures.found in
    from_itself run r

pub after_effect-requires-clause-few : goal.after_effect-requires-clause-few
after_effect-requires-clause-few c =
    let w = c.requires.run in
    let k = kept c.is_whole.ensures.whole w.1 w.2 c.requires.budget in
    let run = run_of_history k w.2 in
    let r = row_of_run run c.args.call c.call-row.result.now c.call-row.ensures.found in
    let last = last_there run r in
    let few = few_rows run r in
    omega (arith, last, few)

pub after_effect-requires-clause-calls : goal.after_effect-requires-clause-calls
after_effect-requires-clause-calls c =
    let w = c.requires.run in
    let k = kept c.is_whole.ensures.whole w.1 w.2 c.requires.budget in
    let run = run_of_history k w.2 in
    let r = row_of_run run c.args.call c.call-row.result.now c.call-row.ensures.found in
    let a = (at_call (λ d below. IsSome c.in_ok-agreed.agreed ↔ Agrees d below (kept_state c.args.at.now)) c.in_ok-agreed.ensures.agrees w.2 run r).0
    (subst (λ o. IsSome o) (sym c.in-Some.is) refl) in
    let calls = a.calls in
    omega (arith, calls)

pub returns-in_ok-after-in-Some-clause-applied : goal.returns-in_ok-after-in-Some-clause-applied
returns-in_ok-after-in-Some-clause-applied c =
    let w = c.requires.run in
    let k = kept c.is_whole.ensures.whole w.1 w.2 c.requires.budget in
    let e = subst (λ o. IfSome o (λ f. IsEffectOf c.args.run.now.log c.call-row.result.now f)) c.in-Some.is c.in_ok-agreed.ensures.found in
    for_call (λ d below. kept_state c.in_ok-after-in-Some.after ≡ effects.apply d (kept_state c.args.at.now)) k c.call-row.ensures.found
    (λ input is g r. c.in_ok-after-in-Some.ensures ∙ applied_is g r c.args.at.now e (kept_state c.args.at.now))

pub returns-in_ok-after-in-Some-clause-stands : goal.returns-in_ok-after-in-Some-clause-stands
returns-in_ok-after-in-Some-clause-stands c =
    let w = c.requires.run in
    let k = kept c.is_whole.ensures.whole w.1 w.2 c.requires.budget in
    let e = subst (λ o. IfSome o (λ f. IsEffectOf c.args.run.now.log c.call-row.result.now f)) c.in-Some.is c.in_ok-agreed.ensures.found in
    let σ = kept_state c.args.at.now in
    for_call (λ d below. IsSound σ → RunsTo c.args.program.now d σ (kept_state c.in_ok-after-in-Some.after)) k c.call-row.ensures.found
    (λ input is g r s.
    let a = (at_call (λ d below. IsSome c.in_ok-agreed.agreed ↔ Agrees d below σ) c.in_ok-agreed.ensures.agrees is g r).0
    (subst (λ o. IsSome o) (sym c.in-Some.is) refl) in
    subst (RunsTo c.args.program.now r.call σ) (sym (c.in_ok-after-in-Some.ensures ∙ applied_is g r c.args.at.now e σ)) (runs_to g r σ a s))
