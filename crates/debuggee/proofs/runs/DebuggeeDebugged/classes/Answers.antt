use Rattle.std.proofs.Common.{sym}
use Rattle.core_program.specs.Run.{run}
use Rattle.body_replay.specs.Replays.{records_of}
use Rattle.debuggee.proofs.{ClassesOfRuns.one_for_each, ClassesOfRuns.told_classes, ClassesOfRuns.told_none, TracesAreOfBodies.is_of_run}
use Rattle.debuggee.proofs.runs.DebuggeeDebugged.classes.Goals as goal

pub returns-in-Ok-clause-told : goal.returns-in-Ok-clause-told
returns-in-Ok-clause-told c =
    let d = c.args.self.now in
    told_classes (records_of (run d.program d.input.now d.history.budget)) c.in-Ok.classes (c.in-Ok.ensures.classed d.input.now (is_of_run d.ran))

pub returns-in-Ok-clause-each : goal.returns-in-Ok-clause-each
returns-in-Ok-clause-each c =
    let d = c.args.self.now in (
      sym (told_classes (records_of (run d.program d.input.now d.history.budget)) c.in-Ok.classes
          (c.in-Ok.ensures.classed d.input.now (is_of_run d.ran))),
      one_for_each d.history.calls.calls c.in-Ok.classes c.in-Ok.ensures.each,
    )

pub returns-in-Err-TooMany-clause-told : goal.returns-in-Err-TooMany-clause-told
returns-in-Err-TooMany-clause-told c =
    let d = c.args.self.now in
    told_none (records_of (run d.program d.input.now d.history.budget)) _ _ c.in-Err-TooMany.field-0-is
    (c.in-Err-TooMany.ensures.classed d.input.now (is_of_run d.ran))
