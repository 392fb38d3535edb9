use Rattle.debuggee.proofs.TracesAreOfBodies.{is_of_run, trace_is}
use Rattle.debuggee.proofs.runs.DebuggeeDebugged.prepare_trace.Goals as goal
use Rattle.debuggee.specs.Execution.{execution}

pub returns : goal.returns
returns c =
    let debuggee = c.args.self.now in
    let done = c.in_ok-trace.trace in
    let run = is_of_run debuggee.ran in
    trace_is (execution debuggee) c.args.call done.events done.way (c.in_ok-trace.ensures.events debuggee.input.now run)
    (c.in_ok-trace.ensures.way debuggee.input.now run)
