use Rattle.std.proofs.Common.{◌+◌, ◌-◌, ◌∙◌, ◌≡◌, ap, arith, sym}
use Rattle.std.proofs.lemmas.Option.{slice_get_within}
use Rattle.core_program.specs.State.{State}
use Rattle.call_tree.specs.declared.records.Call as table
use Rattle.body_replay.proofs.StepsAreCounted.{counts_child}
use Rattle.body_replay.proofs.WorkGoesOn.{child, goes_on, known, recorded_as, room, steps_here, told_here}
use Rattle.body_replay.proofs.replayer.Replayer.meet.Goals as goal

pub call-call-requires : goal.call-call-requires
call-call-requires g c =
    let k = known c.requires.child.2 in
    record { entered = slice_get_within c.args.run.now.calls.calls c.args.self.now.next k.row k.stands }

pub apply-requires-clause-recorded : goal.apply-requires-clause-recorded
apply-requires-clause-recorded g c =
    let a = c.requires.child.2 in
    (child a, recorded_as a c.call-call.ensures.found, room a)

pub apply-requires-clause-told : goal.apply-requires-clause-told
apply-requires-clause-told g c = told_here c.requires.child.2 c.call-call.ensures.found

pub returns-clause-counts : goal.returns-clause-counts
returns-clause-counts g c first k =
    let a = c.requires.child.2 in
    let recorded = recorded_as a c.call-call.ensures.found in
    let state = c.in_ok-apply.ensures.applied (child a) recorded in
    counts_child k _ c.args.self.now.next c.call-call.result.now c.in_ok-push.ensures.added c.call-call.ensures.found (
      steps_here a recorded,
      ap (λ (σ : State). σ.steps) state
          ∙ ap (λ (row : table.Call). c.args.self.now.machine.steps - (row.entry.steps - row.exit.steps)) (sym recorded.is),
      c.in_ok-apply.ensures.counted,
    )

pub overflow_add-self : goal.overflow_add-self
overflow_add-self g c =
    let a = c.requires.child.2 in
    let k = known a in
    let recorded = recorded_as a c.call-call.ensures.found in
    let last : c.call-call.result.now.last ≡ c.args.self.now.next + (child a).below = ap (λ (r : table.Call). r.last) recorded.is in
    let few = k.last in
    omega (arith, last, few)

pub returns-clause-met : goal.returns-clause-met
returns-clause-met g c p j a =
    let recorded = recorded_as a c.call-call.ensures.found in
    goes_on a _ _ _ (record {
      state = c.in_ok-apply.ensures.applied (child a) recorded;
      events = c.in_ok-push.ensures.added;
      next = ap (λ (r : table.Call). r.last + 1) recorded.is;
      ended = ap (λ (r : table.Call). r.way) recorded.is;
      gave = ap (λ (r : table.Call). r.result) recorded.is;
    })

pub returns-clause-less : goal.returns-clause-less
returns-clause-less g c =
    let a = c.requires.child.2 in
    let recorded = recorded_as a c.call-call.ensures.found in
    let state = c.in_ok-apply.ensures.applied (child a) recorded in
    let steps = ap (λ (σ : State). σ.steps) state in
    let calls = ap (λ (σ : State). σ.calls) state in
    let room = (room a).calls in
    omega (arith, steps, calls, room)
