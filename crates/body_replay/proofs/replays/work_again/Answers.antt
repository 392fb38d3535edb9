use Rattle.std.proofs.Common.{◌∙◌, ap, refl}
use Rattle.core_program.specs.State.{State}
use Rattle.eval_ops.specs.Machines.{Moment}
use Rattle.body_replay.proofs.RecordsOfRuns.{kept, row_of_run, run_of_history}
use Rattle.body_replay.proofs.StepsAreCounted.{counts_left, counts_none}
use Rattle.body_replay.proofs.WorkBegins.{entered, few_numbers, is_done, items_few, job, job_number, output_before, ready_before, room_before}
use Rattle.body_replay.proofs.replays.work_again.Goals as goal
use Rattle.body_replay.specs.Counting.{at_entry}

pub machine_before-requires : goal.machine_before-requires
machine_before-requires g c =
    let w = c.requires.run in
    let run = run_of_history (kept c.is_whole.ensures.whole w.1 w.2 c.requires.budget) w.2 in
    record { output = output_before run (row_of_run run c.args.number c.args.row.now c.requires.row) }

pub open_call-requires-clause-ready : goal.open_call-requires-clause-ready
open_call-requires-clause-ready g c =
    let w = c.requires.run in
    let run = run_of_history (kept c.is_whole.ensures.whole w.1 w.2 c.requires.budget) w.2 in
    ready_before run (row_of_run run c.args.number c.args.row.now c.requires.row)
    (record { state = c.in_ok-machine.ensures.before; log = c.in_ok-machine.ensures.log })

pub open_call-requires-clause-room : goal.open_call-requires-clause-room
open_call-requires-clause-room g c =
    let w = c.requires.run in
    let run = run_of_history (kept c.is_whole.ensures.whole w.1 w.2 c.requires.budget) w.2 in
    room_before run (row_of_run run c.args.number c.args.row.now c.requires.row)
    (record { state = c.in_ok-machine.ensures.before; log = c.in_ok-machine.ensures.log })

pub work-requires-clause-few : goal.work-requires-clause-few
work-requires-clause-few g c =
    let w = c.requires.run in
    let run = run_of_history (kept c.is_whole.ensures.whole w.1 w.2 c.requires.budget) w.2 in
    let row = row_of_run run c.args.number c.args.row.now c.requires.row in
    few_numbers run c.args.number row.call row.stands

pub work-requires-clause-entered : goal.work-requires-clause-entered
work-requires-clause-entered g c =
    let w = c.requires.run in
    let run = run_of_history (kept c.is_whole.ensures.whole w.1 w.2 c.requires.budget) w.2 in
    let row = row_of_run run c.args.number c.args.row.now c.requires.row in
    let items = items_few c.args.run.now c.args.row.now c.in_ok-machine.machine c.in_ok-machine.ensures.before c.in_ok-machine.ensures.few in (
      job run row items,
      job_number run row items,
      entered run row (record { state = c.in_ok-machine.ensures.before; log = c.in_ok-machine.ensures.log }) items _
          (ap (λ (m : Moment). m.state) c.open_call.ensures.opened),
    )

pub returns-clause-work : goal.returns-clause-work
returns-clause-work g c input is =
    let w = c.requires.run in
    is_done (record {
      at = c.requires.row;
      kept = kept c.is_whole.ensures.whole w.1 w.2 c.requires.budget;
      items = items_few c.args.run.now c.args.row.now c.in_ok-machine.machine c.in_ok-machine.ensures.before c.in_ok-machine.ensures.few;
      machine = c.in_ok-machine.machine;
      before = record { state = c.in_ok-machine.ensures.before; log = c.in_ok-machine.ensures.log };
      state = _;
      entered = ap (λ (m : Moment). m.state) c.open_call.ensures.opened;
      ends = λ j e n. c.in_ok-ending.ensures.ends j e n;
    }) is

pub returns-clause-counts : goal.returns-clause-counts
returns-clause-counts g c =
    c.in_ok-ending.ensures.counts (at_entry c.args.steps.now c.args.row.now) (counts_left (counts_none refl) _
    (ap (λ (m : Moment). m.state.steps) c.open_call.ensures.opened ∙ ap (λ (σ : State). σ.steps) c.in_ok-machine.ensures.before))
