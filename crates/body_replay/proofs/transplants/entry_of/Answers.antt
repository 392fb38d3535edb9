use Rattle.std.proofs.Common.{◌∙◌, ◌≡◌}
use Rattle.body_replay.proofs.{RowsAgree.for_call, WorkBegins.output_before}
use Rattle.body_replay.proofs.RecordsOfRuns.{before_is, kept, row_of_run, run_of_history}
use Rattle.body_replay.proofs.transplants.entry_of.Goals as goal
use Rattle.body_replay.specs.Traces.{kept_state}

pub machine_before-requires : goal.machine_before-requires
machine_before-requires c =
    let w = c.requires.run in
    let run = run_of_history (kept c.is_whole.ensures.whole w.1 w.2 c.requires.budget) w.2 in
    record { output = output_before run (row_of_run run c.args.call c.call-row.result.now c.call-row.ensures.found) }

pub returns : goal.returns
returns c =
    let w = c.requires.run in
    for_call (λ d below. kept_state c.keep_state.result ≡ d.entry) (kept c.is_whole.ensures.whole w.1 w.2 c.requires.budget) c.call-row.ensures.found
    (λ input is g r. c.keep_state.ensures ∙ c.in_ok-machine.ensures.before ∙ before_is g r)
