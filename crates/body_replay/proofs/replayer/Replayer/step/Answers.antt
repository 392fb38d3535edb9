use Rattle.std.proofs.Common.{ap, arith, subst, sym}
use Rattle.core_program.specs.Replay.{end_of}
use Rattle.eval_ops.specs.{Machines.moment_of, declared.machine.Machine.Machine}
use Rattle.evaluator.specs.{Rest.rest_of, Rest.waiting, Stops.AtCall, Stops.AtEnd, Stops.AtLine, Stops.NextStopIs, Turns.stop_of}
use Rattle.body_replay.proofs.StepsAreCounted.{counts_fell, counts_line}
use Rattle.body_replay.proofs.WorkGoesOn.{call_met, end_come, line_told, stop_calls, stop_fell, stop_steps}
use Rattle.body_replay.proofs.replayer.Replayer.step.Goals as goal
use Rattle.body_replay.specs.{Counting.CountsEachStep, Counting.Tally, Traces.tally}

pub count_steps-requires : goal.count_steps-requires
count_steps-requires g c = record { fell = stop_fell c.in_ok-stop.ensures.stops }

pub meet-requires-clause-child : goal.meet-requires-clause-child
meet-requires-clause-child g c =
    let p = c.args.program.now in
    let old = moment_of c.args.self.now.machine in
    let new = moment_of c.go_on.new.machine in
    let tree = rest_of p c.args.self.now.body in
    let s : NextStopIs p tree old (AtCall c.in-Enter.field-0 c.in-Enter.args (waiting p c.go_on.new.body)) new =
    subst (λ s. NextStopIs p tree old (stop_of p c.go_on.new.body s) new) c.in-Enter.is c.in_ok-stop.ensures.stops in
    (p, c.requires.rests.0, call_met c.requires.rests.1 old.log s.moves new _ _ _ s.is)

pub returns-in_ok-push-in-Line-clause-turned : goal.returns-in_ok-push-in-Line-clause-turned
returns-in_ok-push-in-Line-clause-turned g c j a =
    let p = c.args.program.now in
    let old = moment_of c.args.self.now.machine in
    let new = moment_of c.go_on.new.machine in
    let tree = rest_of p c.args.self.now.body in
    let s : NextStopIs p tree old (AtLine c.in-Line.line (rest_of p c.go_on.new.body)) new =
    subst (λ s. NextStopIs p tree old (stop_of p c.go_on.new.body s) new) c.in-Line.is c.in_ok-stop.ensures.stops in
    line_told a old.log s.moves new c.in-Line.line (rest_of p c.go_on.new.body) c.push.new.self s.is c.in_ok-push-in-Line.ensures.added

pub returns-in_ok-push-in-Line-clause-less : goal.returns-in_ok-push-in-Line-clause-less
returns-in_ok-push-in-Line-clause-less g c e =
    let p = c.args.program.now in
    let old = moment_of c.args.self.now.machine in
    let new = moment_of c.go_on.new.machine in
    let tree = rest_of p c.args.self.now.body in
    let s : NextStopIs p tree old (AtLine c.in-Line.line (rest_of p c.go_on.new.body)) new =
    subst (λ s. NextStopIs p tree old (stop_of p c.go_on.new.body s) new) c.in-Line.is c.in_ok-stop.ensures.stops in
    let steps = stop_steps s in
    let calls = stop_calls s in
    omega (arith, steps, calls)

pub returns-in_ok-way-in-Enter-clause-turned : goal.returns-in_ok-way-in-Enter-clause-turned
returns-in_ok-way-in-Enter-clause-turned g c j a =
    let p = c.args.program.now in
    let old = moment_of c.args.self.now.machine in
    let new = moment_of c.go_on.new.machine in
    let tree = rest_of p c.args.self.now.body in
    let s : NextStopIs p tree old (AtCall c.in-Enter.field-0 c.in-Enter.args (waiting p c.go_on.new.body)) new =
    subst (λ s. NextStopIs p tree old (stop_of p c.go_on.new.body s) new) c.in-Enter.is c.in_ok-stop.ensures.stops in
    c.resume.ensures.turned p c.args.run.now j (c.in_ok-way-in-Enter.ensures.met p j (call_met a old.log s.moves new _ _ _ s.is))

pub returns-in_ok-way-in-Enter-clause-less : goal.returns-in_ok-way-in-Enter-clause-less
returns-in_ok-way-in-Enter-clause-less g c e =
    let p = c.args.program.now in
    let old = moment_of c.args.self.now.machine in
    let new = moment_of c.go_on.new.machine in
    let tree = rest_of p c.args.self.now.body in
    let s : NextStopIs p tree old (AtCall c.in-Enter.field-0 c.in-Enter.args (waiting p c.go_on.new.body)) new =
    subst (λ s. NextStopIs p tree old (stop_of p c.go_on.new.body s) new) c.in-Enter.is c.in_ok-stop.ensures.stops in
    let steps = stop_steps s in
    let calls = stop_calls s in
    let same_steps = ap (λ (m : Machine). m.steps) c.resume.ensures.machine in
    let same_calls = ap (λ (m : Machine). m.calls) c.resume.ensures.machine in
    let less = c.in_ok-way-in-Enter.ensures.less in
    omega (arith, steps, calls, same_steps, same_calls, less)

pub returns-in-Ended-clause-turned : goal.returns-in-Ended-clause-turned
returns-in-Ended-clause-turned g c j a =
    let p = c.args.program.now in
    let old = moment_of c.args.self.now.machine in
    let new = moment_of c.go_on.new.machine in
    let tree = rest_of p c.args.self.now.body in
    let s : NextStopIs p tree old (AtEnd (end_of c.in-Ended.way c.in-Ended.answer)) new =
    subst (λ s. NextStopIs p tree old (stop_of p c.go_on.new.body s) new) c.in-Ended.is c.in_ok-stop.ensures.stops in
    end_come a old.log s.moves new (end_of c.in-Ended.way c.in-Ended.answer) s.is

pub returns-in_ok-push-in-Line-clause-counts : goal.returns-in_ok-push-in-Line-clause-counts
returns-in_ok-push-in-Line-clause-counts g c first k =
    counts_line (counts_fell k _ _ (stop_fell c.in_ok-stop.ensures.stops) c.count_steps.ensures.counted) c.push.new.self c.in-Line.line
    c.in_ok-push-in-Line.ensures.added

pub returns-in_ok-way-in-Enter-clause-counts : goal.returns-in_ok-way-in-Enter-clause-counts
returns-in_ok-way-in-Enter-clause-counts g c first k =
    let met = c.in_ok-way-in-Enter.ensures.counts first (counts_fell k _ _ (stop_fell c.in_ok-stop.ensures.stops) c.count_steps.ensures.counted) in
    subst (λ (t : Tally). CountsEachStep c.args.run.now first t) (λ i. tally c.meet.new.steps (sym c.resume.ensures.machine i) (sym c.resume.ensures.events i))
    met

pub returns-in-Ended-clause-counts : goal.returns-in-Ended-clause-counts
returns-in-Ended-clause-counts g c first k = counts_fell k _ _ (stop_fell c.in_ok-stop.ensures.stops) c.count_steps.ensures.counted
