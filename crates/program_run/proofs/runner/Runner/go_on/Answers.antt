use Rattle.std.proofs.Common.{◌+◌, ◌<◌, ◌≡◌, ◌≤◌, arith, subst, sym}
use Rattle.core_program.specs.Replay.{end_of}
use Rattle.eval_ops.specs.Machines.{moment_of}
use Rattle.evaluator.specs.{Rest.rest_of, Rest.waiting, Stops.AtCall, Stops.AtEnd, Stops.AtLine, Stops.NextStopIs, Turns.stop_of}
use Rattle.program_run.proofs.{RunnerSteps.calls_onward, RunnerSteps.few_onward, RunnerSteps.on_ok, RunnerSteps.steps_onward, StepsLeadToTheRun.climb}
use Rattle.program_run.proofs.runner.Runner.go_on.Goals as goal
use Rattle.program_run.specs.{Runners.AtRest, Runners.rest_in, Runners.view_of, Runners.work_left, Tower.Calls, Tower.TowerAt, declared.runner.Runner.Runner}

pub enter-requires-clause-well : goal.enter-requires-clause-well
enter-requires-clause-well c = record {
  ready = c.go_on.ensures.ready;
  few = few_onward c.in_ok-go_on-in-Some.ensures.stops c.requires.well.few;
  counted = c.requires.well.counted;
}

pub enter-requires-clause-calls : goal.enter-requires-clause-calls
enter-requires-clause-calls c =
    let p = c.args.program.now in
    let first = c.requires.rests.0 in
    let self = c.args.self.now in
    let view = view_of p self in
    let old = moment_of self.machine in
    let new = moment_of c.go_on.new.machine in
    let tree = rest_of p c.in-Some.body in (
      first,
      subst (λ b. TowerAt p first (Calls c.in-Enter.routine c.in-Enter.args (rest_in p b)) (record view { moment = new })) (sym c.take-caller.ensures.value)
          (climb view tree (AtCall c.in-Enter.routine c.in-Enter.args (waiting p c.go_on.new.body)) new
          (subst (λ b. AtRest p first b self) c.in-Some.is c.requires.rests.1)
          (subst (λ s. NextStopIs p tree old (stop_of p c.go_on.new.body s) new) c.in-Enter.is c.in_ok-go_on-in-Some.ensures.stops)),
    )

pub end-requires-clause-well : goal.end-requires-clause-well
end-requires-clause-well c = record {
  ready = c.go_on.ensures.ready;
  few = few_onward c.in_ok-go_on-in-Some.ensures.stops c.requires.well.few;
  counted = c.requires.well.counted;
}

pub returns-in-Line-clause-rests : goal.returns-in-Line-clause-rests
returns-in-Line-clause-rests c first t =
    let p = c.args.program.now in
    let self = c.args.self.now in
    let old = moment_of self.machine in
    let new = moment_of c.go_on.new.machine in
    let tree = rest_of p c.in-Some.body in
    climb (view_of p self) tree (AtLine c.in-Line.field-0 (rest_of p c.go_on.new.body)) new (subst (λ b. AtRest p first b self) c.in-Some.is t)
    (subst (λ s. NextStopIs p tree old (stop_of p c.go_on.new.body s) new) c.in-Line.is c.in_ok-go_on-in-Some.ensures.stops)

pub returns-in-Line-clause-well : goal.returns-in-Line-clause-well
returns-in-Line-clause-well c = record {
  ready = c.go_on.ensures.ready;
  few = few_onward c.in_ok-go_on-in-Some.ensures.stops c.requires.well.few;
  counted = c.requires.well.counted;
}

pub returns-in-Enter-clause-rests : goal.returns-in-Enter-clause-rests
returns-in-Enter-clause-rests c first t =
    let p = c.args.program.now in
    let self = c.args.self.now in
    let view = view_of p self in
    let old = moment_of self.machine in
    let new = moment_of c.go_on.new.machine in
    let tree = rest_of p c.in-Some.body in
    c.enter.ensures.rests first
    (subst (λ b. TowerAt p first (Calls c.in-Enter.routine c.in-Enter.args (rest_in p b)) (record view { moment = new })) (sym c.take-caller.ensures.value)
    (climb view tree (AtCall c.in-Enter.routine c.in-Enter.args (waiting p c.go_on.new.body)) new (subst (λ b. AtRest p first b self) c.in-Some.is t)
    (subst (λ s. NextStopIs p tree old (stop_of p c.go_on.new.body s) new) c.in-Enter.is c.in_ok-go_on-in-Some.ensures.stops)))

pub returns-in-Ended-clause-rests : goal.returns-in-Ended-clause-rests
returns-in-Ended-clause-rests c first t =
    let p = c.args.program.now in
    let self = c.args.self.now in
    let old = moment_of self.machine in
    let new = moment_of c.go_on.new.machine in
    let tree = rest_of p c.in-Some.body in
    c.end.ensures.rests p first
    (climb (view_of p self) tree (AtEnd (end_of c.in-Ended.way c.in-Ended.answer)) new (subst (λ b. AtRest p first b self) c.in-Some.is t)
    (subst (λ s. NextStopIs p tree old (stop_of p c.go_on.new.body s) new) c.in-Ended.is c.in_ok-go_on-in-Some.ensures.stops))

pub returns-in-Line-clause-less : goal.returns-in-Line-clause-less
returns-in-Line-clause-less c body is =
    let p = c.args.program.now in
    let old = moment_of c.args.self.now.machine in
    let new = moment_of c.go_on.new.machine in
    let tree = rest_of p c.in-Some.body in
    let stops : NextStopIs p tree old (AtLine c.in-Line.field-0 (rest_of p c.go_on.new.body)) new =
    subst (λ s. NextStopIs p tree old (stop_of p c.go_on.new.body s) new) c.in-Line.is c.in_ok-go_on-in-Some.ensures.stops in
    let calls : c.go_on.new.machine.calls ≡ c.args.self.now.machine.calls = calls_onward stops in
    let steps = steps_onward stops in
    omega (arith, calls, steps)

pub returns-in-Enter-clause-less : goal.returns-in-Enter-clause-less
returns-in-Enter-clause-less c body is =
    let p = c.args.program.now in
    let old = moment_of c.args.self.now.machine in
    let new = moment_of c.go_on.new.machine in
    let tree = rest_of p c.in-Some.body in
    let stops : NextStopIs p tree old (AtCall c.in-Enter.routine c.in-Enter.args (waiting p c.go_on.new.body)) new =
    subst (λ s. NextStopIs p tree old (stop_of p c.go_on.new.body s) new) c.in-Enter.is c.in_ok-go_on-in-Some.ensures.stops in
    let calls : c.go_on.new.machine.calls ≡ c.args.self.now.machine.calls = calls_onward stops in
    let steps = steps_onward stops in
    let mid : Runner = record { machine = c.go_on.new.machine; calls = c.args.self.now.calls; opens = c.args.self.now.opens; body = c.take-caller.new.self } in
    on_ok c.enter.result (work_left c.enter.new.self + 1 ≤ work_left mid) (work_left c.enter.new.self < work_left c.args.self.now)
    (λ h. omega (arith, h, calls, steps)) c.enter.ensures.less

pub returns-in-Ended-clause-less : goal.returns-in-Ended-clause-less
returns-in-Ended-clause-less c body is =
    let p = c.args.program.now in
    let old = moment_of c.args.self.now.machine in
    let new = moment_of c.go_on.new.machine in
    let tree = rest_of p c.in-Some.body in
    let stops : NextStopIs p tree old (AtEnd (end_of c.in-Ended.way c.in-Ended.answer)) new =
    subst (λ s. NextStopIs p tree old (stop_of p c.go_on.new.body s) new) c.in-Ended.is c.in_ok-go_on-in-Some.ensures.stops in
    let calls : c.go_on.new.machine.calls ≡ c.args.self.now.machine.calls = calls_onward stops in
    let steps = steps_onward stops in
    let mid : Runner = record c.args.self.now { machine = c.go_on.new.machine } in
    on_ok c.end.result (work_left c.end.new.self < work_left mid) (work_left c.end.new.self < work_left c.args.self.now)
    (λ h. omega (arith, h, calls, steps)) c.end.ensures.less
