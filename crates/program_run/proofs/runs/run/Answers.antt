use Rattle.std.proofs.Common.{◌∙◌, ◌∷◌, [], subst}
use Rattle.cell_value.specs.declared.values.Value.TheVariants.{Nil}
use Rattle.eval_ops.specs.Machines.{moment_of}
use Rattle.program_run.proofs.RunsAreRuns.{calls_are, log_is, output_is}
use Rattle.program_run.proofs.runs.run.Goals as goal
use Rattle.program_run.specs.{History.first_state, Tower.IsOver, Tower.first_call}

pub run_items-requires-clause-block : goal.run_items-requires-clause-block
run_items-requires-clause-block c = c.is_whole.ensures.whole.main

pub returns-clause-calls : goal.returns-clause-calls
returns-clause-calls c =
    let r = c.in_ok-runner.runner in
    c.history_of.ensures.calls
    ∙ calls_are c.args.program.now c.is_whole.ensures.whole c.args.input.now c.args.budget (moment_of r.machine) r.calls
    (subst (λ xs. IsOver c.args.program.now (first_call 0 (Nil ∷ []) (first_state xs c.args.budget)) (moment_of r.machine) r.calls) c.in_ok-items.ensures
    c.in_ok-runner.ensures.over)

pub returns-clause-log : goal.returns-clause-log
returns-clause-log c =
    let r = c.in_ok-runner.runner in
    c.history_of.ensures.log
    ∙ log_is c.args.program.now c.is_whole.ensures.whole c.args.input.now c.args.budget (moment_of r.machine) r.calls
    (subst (λ xs. IsOver c.args.program.now (first_call 0 (Nil ∷ []) (first_state xs c.args.budget)) (moment_of r.machine) r.calls) c.in_ok-items.ensures
    c.in_ok-runner.ensures.over)

pub returns-clause-output : goal.returns-clause-output
returns-clause-output c =
    let r = c.in_ok-runner.runner in
    c.history_of.ensures.output
    ∙ output_is c.args.program.now c.is_whole.ensures.whole c.args.input.now c.args.budget (moment_of r.machine) r.calls
    (subst (λ xs. IsOver c.args.program.now (first_call 0 (Nil ∷ []) (first_state xs c.args.budget)) (moment_of r.machine) r.calls) c.in_ok-items.ensures
    c.in_ok-runner.ensures.over)

pub returns-clause-input : goal.returns-clause-input
returns-clause-input c = c.history_of.ensures.input ∙ c.in_ok-runner.ensures.over.items ∙ c.in_ok-items.ensures
