use Rattle.std.proofs.Common.{◌∙◌, ap, subst}
use Rattle.eval_ops.specs.Machines.{moment_of}
use Rattle.program_run.proofs.CallsFromStates.{called_log, called_output, called_rows}
use Rattle.program_run.proofs.runs.run_from.Goals as goal
use Rattle.program_run.specs.{CalledFrom.state_from, Tower.IsOver, Tower.first_call}

pub returns-clause-calls : goal.returns-clause-calls
returns-clause-calls c =
    let r = c.in_ok-runner.runner in
    let p = c.args.program.now in
    let σ = state_from c.args.entry c.args.depth c.args.input.now in
    let state = c.machine_from-machine.ensures.state ∙ ap (state_from c.args.entry c.args.depth) c.in_ok-items.ensures.same in
    c.history_of.ensures.calls
    ∙ called_rows p c.is_whole.ensures.whole c.args.routine c.args.args.now σ (moment_of r.machine) r.calls
    (subst (λ first. IsOver p first (moment_of r.machine) r.calls) (λ i. first_call c.args.routine (c.in_ok-values.ensures i) (state i))
    c.in_ok-runner.ensures.over)

pub returns-clause-log : goal.returns-clause-log
returns-clause-log c =
    let r = c.in_ok-runner.runner in
    let p = c.args.program.now in
    let σ = state_from c.args.entry c.args.depth c.args.input.now in
    let state = c.machine_from-machine.ensures.state ∙ ap (state_from c.args.entry c.args.depth) c.in_ok-items.ensures.same in
    c.history_of.ensures.log
    ∙ called_log p c.is_whole.ensures.whole c.args.routine c.args.args.now σ (moment_of r.machine) r.calls
    (subst (λ first. IsOver p first (moment_of r.machine) r.calls) (λ i. first_call c.args.routine (c.in_ok-values.ensures i) (state i))
    c.in_ok-runner.ensures.over)

pub returns-clause-output : goal.returns-clause-output
returns-clause-output c =
    let r = c.in_ok-runner.runner in
    let p = c.args.program.now in
    let σ = state_from c.args.entry c.args.depth c.args.input.now in
    let state = c.machine_from-machine.ensures.state ∙ ap (state_from c.args.entry c.args.depth) c.in_ok-items.ensures.same in
    c.history_of.ensures.output
    ∙ called_output p c.is_whole.ensures.whole c.args.routine c.args.args.now σ (moment_of r.machine) r.calls
    (subst (λ first. IsOver p first (moment_of r.machine) r.calls) (λ i. first_call c.args.routine (c.in_ok-values.ensures i) (state i))
    c.in_ok-runner.ensures.over)

pub returns-clause-input : goal.returns-clause-input
returns-clause-input c =
    c.history_of.ensures.input ∙ c.in_ok-runner.ensures.over.items
    ∙ ap (λ σ. σ.items) c.machine_from-machine.ensures.state ∙ c.in_ok-items.ensures.same
