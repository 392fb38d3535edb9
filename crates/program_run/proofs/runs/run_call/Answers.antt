use Rattle.std.proofs.Common.{◌∙◌, ap, map, refl, reverse}
use Rattle.call_tree.specs.Recording.{nothing_entered}
use Rattle.eval_ops.specs.Machines.{machine_state, moment_of}
use Rattle.program_run.proofs.RunsAreRuns.{starts}
use Rattle.program_run.proofs.runs.run_call.Goals as goal
use Rattle.program_run.specs.{Runners.open_in, Tower.View, Tower.first_call}

pub enter-requires-clause-calls : goal.enter-requires-clause-calls
enter-requires-clause-calls c =
    let p = c.args.program.now in
    let σ = machine_state c.args.machine in
    let v : View = record { opens = map (open_in p) (reverse c.new-2.result.items); moment = moment_of c.args.machine; recording = c.new.result } in (
      first_call c.args.routine c.args.args σ,
      starts p c.args.routine c.args.args σ v (record {
        state = refl;
        log = c.requires.log;
        opens = ap (λ os. map (open_in p) (reverse os)) c.new-2.ensures.items;
        recording = c.new.ensures ∙ ap nothing_entered c.routines.ensures;
      }),
    )

pub go-requires-clause-rests : goal.go-requires-clause-rests
go-requires-clause-rests c =
    let p = c.args.program.now in
    let σ = machine_state c.args.machine in
    let v : View = record { opens = map (open_in p) (reverse c.new-2.result.items); moment = moment_of c.args.machine; recording = c.new.result } in (
      first_call c.args.routine c.args.args σ,
      c.in_ok-enter.ensures.rests (first_call c.args.routine c.args.args σ)
          (starts p c.args.routine c.args.args σ v (record {
            state = refl;
            log = c.requires.log;
            opens = ap (λ os. map (open_in p) (reverse os)) c.new-2.ensures.items;
            recording = c.new.ensures ∙ ap nothing_entered c.routines.ensures;
          })),
    )

pub returns : goal.returns
returns c =
    let p = c.args.program.now in
    let σ = machine_state c.args.machine in
    let v : View = record { opens = map (open_in p) (reverse c.new-2.result.items); moment = moment_of c.args.machine; recording = c.new.result } in
    record {
      over = c.in_ok-go.ensures.over (first_call c.args.routine c.args.args σ) (c.in_ok-enter.ensures.rests (first_call c.args.routine c.args.args σ)
          (starts p c.args.routine c.args.args σ v (record {
            state = refl;
            log = c.requires.log;
            opens = ap (λ os. map (open_in p) (reverse os)) c.new-2.ensures.items;
            recording = c.new.ensures ∙ ap nothing_entered c.routines.ensures;
          })));
    }
