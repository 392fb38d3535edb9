use Rattle.std.proofs.Common.{◌+◌, ◌∙◌, ◌≡◌, ◌≤◌, IsSome, Some, ap, subst, sym}
use Rattle.core_program.specs.{ProgramRows.routine_at, State.stack_end}
use Rattle.eval_ops.specs.Machines.{IsReady, machine_state}
use Rattle.body_replay.proofs.{FramesAgain.fits, FramesAgain.made_fell, StepsAreCounted.counts_fell}
use Rattle.body_replay.proofs.WorkEnds.{ends_framed, ends_unframed, job_in_frame, rests_at_first, routine_there}
use Rattle.body_replay.proofs.framed.work.Goals as goal
use Rattle.body_replay.specs.{Counting.CountsEachStep, Counting.Tally, Traces.FrameMade, Traces.tally}

pub unwrap-routine-requires : goal.unwrap-routine-requires
unwrap-routine-requires g c = subst (λ o. IsSome o) (sym c.routine.ensures) (routine_there c.requires.entered.2)

pub count_steps-requires : goal.count_steps-requires
count_steps-requires g c = record {
  fell = made_fell c.unwrap-routine.result c.args.row.now.args (machine_state c.args.machine) (machine_state c.frame_made.new.machine) c.in_ok-begun.begun
      c.in_ok-begun.ensures.made;
}

pub in_frame-requires-clause-fits : goal.in_frame-requires-clause-fits
in_frame-requires-clause-fits g c =
    let r = c.unwrap-routine.result in
    let σ = machine_state c.args.machine in
    let τ = machine_state c.frame_made.new.machine in
    let made = subst (λ o. FrameMade r c.args.row.now.args σ o τ) c.in-Framed.is c.in_ok-begun.ensures.made in
    subst (λ n. c.args.machine.top + n ≤ stack_end) (sym made.2) (fits r c.args.row.now.args σ τ made.0 made.1).top

pub in_frame-requires-clause-rests : goal.in_frame-requires-clause-rests
in_frame-requires-clause-rests g c =
    let w = c.requires.entered in
    let r = c.unwrap-routine.result in
    let τ = machine_state c.frame_made.new.machine in
    let found : routine_at c.args.program.now c.args.row.now.routine ≡ Some r = sym c.routine.ensures ∙ c.unwrap-routine.ensures in
    let made = subst (λ o. FrameMade r c.args.row.now.args (machine_state c.args.machine) o τ) c.in-Framed.is c.in_ok-begun.ensures.made in (
      job_in_frame w.2 r τ found c.in-Framed.cells made,
      rests_at_first w.2 r τ found c.in-Framed.cells made _ (c.new-body.ensures.begins c.args.program.now r found) _ (λ i. record {
        state = τ;
        events = c.new-events.ensures i;
        next = ap (λ k. k + 1) (sym w.1) i;
      }),
    )

pub returns-in_ok-ending-in-Framed-clause-ends : goal.returns-in_ok-ending-in-Framed-clause-ends
returns-in_ok-ending-in-Framed-clause-ends g c j e n =
    let r = c.unwrap-routine.result in
    let τ = machine_state c.frame_made.new.machine in
    let found : routine_at c.args.program.now c.args.row.now.routine ≡ Some r = sym c.routine.ensures ∙ c.unwrap-routine.ensures in
    let made = subst (λ o. FrameMade r c.args.row.now.args (machine_state c.args.machine) o τ) c.in-Framed.is c.in_ok-begun.ensures.made in
    ends_framed n r τ found c.in-Framed.cells made _ (c.in_ok-ending-in-Framed.ensures.ends (job_in_frame n r τ found c.in-Framed.cells made)
    (rests_at_first n r τ found c.in-Framed.cells made _
    (c.new-body.ensures.begins c.args.program.now r found) _ (λ i. record {
      state = τ;
      events = c.new-events.ensures i;
      next = ap (λ k. k + 1) (sym e) i;
    })))

pub returns-in_ok-ending-in-Framed-clause-counts : goal.returns-in_ok-ending-in-Framed-clause-counts
returns-in_ok-ending-in-Framed-clause-counts g c first k =
    let fell = made_fell c.unwrap-routine.result c.args.row.now.args (machine_state c.args.machine) (machine_state c.frame_made.new.machine) c.in_ok-begun.begun
    c.in_ok-begun.ensures.made in
    c.in_ok-ending-in-Framed.ensures.counts first (subst (λ es. CountsEachStep c.args.run.now first (tally c.count_steps.new.steps c.frame_made.new.machine es))
    (sym c.new-events.ensures) (counts_fell k _ _ fell c.count_steps.ensures.counted))

pub returns-in-Ended-clause-ends : goal.returns-in-Ended-clause-ends
returns-in-Ended-clause-ends g c j e n =
    let r = c.unwrap-routine.result in
    let τ = machine_state c.frame_made.new.machine in
    let found : routine_at c.args.program.now c.args.row.now.routine ≡ Some r = sym c.routine.ensures ∙ c.unwrap-routine.ensures in
    let made = subst (λ o. FrameMade r c.args.row.now.args (machine_state c.args.machine) o τ) c.in-Ended.is c.in_ok-begun.ensures.made in
    ends_unframed n r τ _ _ found made (record {
      way = c.refused.ensures.way;
      answer = c.refused.ensures.answer;
      machine = ap machine_state c.refused.ensures.machine;
      events = c.refused.ensures.events;
    })

pub returns-in-Ended-clause-ready : goal.returns-in-Ended-clause-ready
returns-in-Ended-clause-ready g c = subst IsReady (sym c.refused.ensures.machine) c.in_ok-begun.ensures.ready

pub returns-in-Ended-clause-counts : goal.returns-in-Ended-clause-counts
returns-in-Ended-clause-counts g c first k =
    let fell = made_fell c.unwrap-routine.result c.args.row.now.args (machine_state c.args.machine) (machine_state c.frame_made.new.machine) c.in_ok-begun.begun
    c.in_ok-begun.ensures.made in
    subst (λ (t : Tally). CountsEachStep c.args.run.now first t)
    (λ i. tally c.count_steps.new.steps (sym c.refused.ensures.machine i) (sym c.refused.ensures.events i))
    (counts_fell k _ _ fell c.count_steps.ensures.counted)
