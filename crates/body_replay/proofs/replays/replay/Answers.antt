use Rattle.std.proofs.Common.{◌+◌, ◌∙◌, ◌≡◌, Some, ap, refl, subst, sym}
use Rattle.core_program.proofs.OutcomesCompose.{some_same}
use Rattle.eval_ops.specs.Machines.{Moment}
use Rattle.body_replay.proofs.StepsAreCounted.{counted_at_end}
use Rattle.body_replay.proofs.replays.replay.Goals as goal
use Rattle.body_replay.specs.Counting.{changes_met, own_steps}

pub returns-clause-events : goal.returns-clause-events
returns-clause-events g c input is = (c.in_ok-ending.ensures.work input is).events

pub returns-clause-way : goal.returns-clause-way
returns-clause-way g c input is = (c.in_ok-ending.ensures.work input is).way

pub returns-clause-result : goal.returns-clause-result
returns-clause-result g c input is = (c.in_ok-ending.ensures.work input is).result

pub returns-clause-exit : goal.returns-clause-exit
returns-clause-exit g c input is =
    (c.in_ok-ending.ensures.work input is).exit
    ∙ ap Some (sym (c.keep_state.ensures ∙ ap (λ (m : Moment). m.state) c.close_call.ensures.closed))

pub returns-clause-counted : goal.returns-clause-counted
returns-clause-counted g c row at =
    let w = c.requires.run in
    let end = (c.in_ok-ending.ensures.work w.0 w.2).steps in
    let run = c.args.run.now in
    let events = c.in_ok-ending.ending.events in
    subst (λ row. c.work_again.new.steps ≡ c.args.steps.now + own_steps run.calls.calls row events + changes_met run events)
    (some_same (sym c.call-row.ensures.found ∙ at)) (counted_at_end c.call-row.result.now c.in_ok-ending.ensures.counts refl end)
