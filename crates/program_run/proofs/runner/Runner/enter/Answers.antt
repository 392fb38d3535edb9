use Rattle.std.proofs.Common.{◌+◌, ◌∙◌, ◌≡◌, ◌≤◌, Some, ap, arith, length, length-append, map, refl, reverse, subst, sym}
use Rattle.std.proofs.lemmas.Option.{slice_get_within}
use Rattle.core_program.specs.{ProgramRows.routine_at, Run.Halted, Run.whole}
use Rattle.call_tree.specs.Recording.{entered}
use Rattle.eval_ops.specs.Machines.{moment_of}
use Rattle.program_run.proofs.RunnerSteps.{begun_calls, counted_entered, entered_stands, few_begun, on_ok, pushed}
use Rattle.program_run.proofs.StepsLeadToTheRun.{calls_same, routines_same}
use Rattle.program_run.proofs.runner.Runner.enter.Goals as goal
use Rattle.program_run.specs.Runners.{CallBegun, invocation, open_in, rest_in, view_of, work_left}
use Rattle.program_run.specs.Tower.{Ends, Rests, TowerAt, View, activation}
use Rattle.program_run.specs.declared.runner.Runner.{Runner}

pub enter-requires-clause-few : goal.enter-requires-clause-few
enter-requires-clause-few c = let e = calls_same c.requires.calls.1 in let r = c.requires.room.calls in omega (arith, e, r)

pub enter-requires-clause-known : goal.enter-requires-clause-known
enter-requires-clause-known c =
    let w = slice_get_within c.args.program.now.routines c.args.routine c.unwrap-row.result (sym c.routine.ensures ∙ c.unwrap-row.ensures) in
    let e = routines_same c.requires.calls.1 in
    omega (arith, w, e)

pub enter-requires-clause-under_a_call : goal.enter-requires-clause-under_a_call
enter-requires-clause-under_a_call c h = let a = c.requires.under h in let b = c.requires.well.counted in omega (arith, a, b)

pub halt-requires : goal.halt-requires
halt-requires c =
    let p = c.args.program.now in
    let row = c.unwrap-row.result in
    let found : routine_at p c.args.routine ≡ Some row = sym c.routine.ensures ∙ c.unwrap-row.ensures in
    record {
      well = record {
        ready = c.in_ok-begun.ensures.ready;
        few = few_begun p (invocation c.args.routine row c.args.args) c.in_ok-begun.begun (moment_of c.args.self.now.machine) (moment_of c.begin.new.machine)
            (c.in_ok-begun.ensures.begins p c.args.routine found) c.requires.well.few;
        counted = counted_entered c.args.self.now.calls c.enter.new.self c.args.self.now.opens.items c.push-in-Ended.new.self.items _ c.args.routine c.args.args
            c.in_ok-entry.entry c.in_ok-enter.ensures.entered c.in_ok-push-in-Ended.ensures.items c.requires.well.counted;
      };
    }

pub returns-in_ok-push-in-Framed-clause-well : goal.returns-in_ok-push-in-Framed-clause-well
returns-in_ok-push-in-Framed-clause-well c =
    let p = c.args.program.now in
    let row = c.unwrap-row.result in
    let found : routine_at p c.args.routine ≡ Some row = sym c.routine.ensures ∙ c.unwrap-row.ensures in
    record {
      ready = c.in_ok-begun.ensures.ready;
      few = few_begun p (invocation c.args.routine row c.args.args) c.in_ok-begun.begun (moment_of c.args.self.now.machine) (moment_of c.begin.new.machine)
          (c.in_ok-begun.ensures.begins p c.args.routine found) c.requires.well.few;
      counted = counted_entered c.args.self.now.calls c.enter.new.self c.args.self.now.opens.items c.push.new.self.items _ c.args.routine c.args.args
          c.in_ok-entry.entry c.in_ok-enter.ensures.entered c.in_ok-push-in-Framed.ensures.items c.requires.well.counted;
    }

pub returns-in_ok-push-in-Framed-clause-rests : goal.returns-in_ok-push-in-Framed-clause-rests
returns-in_ok-push-in-Framed-clause-rests c first t =
    let p = c.args.program.now in
    let row = c.unwrap-row.result in
    let old = view_of p c.args.self.now in
    let found : routine_at p c.args.routine ≡ Some row = sym c.routine.ensures ∙ c.unwrap-row.ensures in
    let begun = subst (λ h. CallBegun p (invocation c.args.routine row c.args.args) h old.moment (moment_of c.begin.new.machine)) c.in-Framed.is
    (c.in_ok-begun.ensures.begins p c.args.routine found) in
    let new : View = record {
      opens = map (open_in p) (reverse c.push.new.self.items);
      moment = moment_of c.begin.new.machine;
      recording = c.enter.new.self;
    } in
    subst (λ tree. TowerAt p first (Rests tree) new) (sym (c.new.ensures.begins p row found))
    (entered_stands (activation c.args.routine c.args.args c.in-Framed.cells (Rests (whole p c.args.routine c.args.self.now.machine.top row)))
    (rest_in p c.args.caller)
    old new (record {
      begins = begun;
      recording = c.in_ok-enter.ensures.entered ∙ ap (entered c.args.self.now.calls c.args.routine c.args.args) c.in_ok-entry.ensures;
      opens = pushed p c.args.self.now.opens.items c.push.new.self.items _ c.in_ok-push-in-Framed.ensures.items;
    }) t)

pub returns-in_ok-push-in-Ended-clause-rests : goal.returns-in_ok-push-in-Ended-clause-rests
returns-in_ok-push-in-Ended-clause-rests c first t =
    let p = c.args.program.now in
    let row = c.unwrap-row.result in
    let old = view_of p c.args.self.now in
    let found : routine_at p c.args.routine ≡ Some row = sym c.routine.ensures ∙ c.unwrap-row.ensures in
    let begun = subst (λ h. CallBegun p (invocation c.args.routine row c.args.args) h old.moment (moment_of c.begin.new.machine)) c.in-Ended.is
    (c.in_ok-begun.ensures.begins p c.args.routine found) in
    c.halt.ensures.over p first
    (entered_stands (activation c.args.routine c.args.args 0 (Ends (Halted _))) (rest_in p c.args.caller) old _ (record {
      begins = begun;
      recording = c.in_ok-enter.ensures.entered ∙ ap (entered c.args.self.now.calls c.args.routine c.args.args) c.in_ok-entry.ensures;
      opens = pushed p c.args.self.now.opens.items c.push-in-Ended.new.self.items _ c.in_ok-push-in-Ended.ensures.items;
    }) t)

pub returns-in_ok-push-in-Framed-clause-less : goal.returns-in_ok-push-in-Framed-clause-less
returns-in_ok-push-in-Framed-clause-less c =
    let p = c.args.program.now in
    let row = c.unwrap-row.result in
    let found : routine_at p c.args.routine ≡ Some row = sym c.routine.ensures ∙ c.unwrap-row.ensures in
    let calls : c.begin.new.machine.calls ≡ c.args.self.now.machine.calls + 1 = begun_calls p (invocation c.args.routine row c.args.args) c.in_ok-begun.begun
    (moment_of c.args.self.now.machine) (moment_of c.begin.new.machine) (c.in_ok-begun.ensures.begins p c.args.routine found) in
    let spent = c.in_ok-begun.ensures.spent in
    let room = c.requires.room.calls in
    let items = ap length c.in_ok-push-in-Framed.ensures.items ∙ length-append c.args.self.now.opens.items _ in
    omega (arith, calls, spent, room, items)

pub returns-in_ok-push-in-Ended-clause-less : goal.returns-in_ok-push-in-Ended-clause-less
returns-in_ok-push-in-Ended-clause-less c =
    let p = c.args.program.now in
    let row = c.unwrap-row.result in
    let found : routine_at p c.args.routine ≡ Some row = sym c.routine.ensures ∙ c.unwrap-row.ensures in
    let calls : c.begin.new.machine.calls ≡ c.args.self.now.machine.calls + 1 = begun_calls p (invocation c.args.routine row c.args.args) c.in_ok-begun.begun
    (moment_of c.args.self.now.machine) (moment_of c.begin.new.machine) (c.in_ok-begun.ensures.begins p c.args.routine found) in
    let spent = c.in_ok-begun.ensures.spent in
    let room = c.requires.room.calls in
    let mid : Runner = record { machine = c.begin.new.machine; calls = c.enter.new.self; opens = c.push-in-Ended.new.self; body = c.args.self.now.body } in
    on_ok c.halt.result (work_left c.halt.new.self + length mid.opens.items ≤ work_left mid) (work_left c.halt.new.self + 1 ≤ work_left c.args.self.now)
    (λ h. omega (arith, h, calls, spent, room)) c.halt.ensures.less
