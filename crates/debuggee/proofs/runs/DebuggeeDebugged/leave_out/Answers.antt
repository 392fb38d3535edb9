use Rattle.std.proofs.Common.{subst}
use Rattle.output_slice.specs.LeftOut.{AnswersLeftOut, left_out_below}
use Rattle.debuggee.proofs.SlicesOfRuns.{answers, entries_are, still_search}
use Rattle.debuggee.proofs.runs.DebuggeeDebugged.leave_out.Goals as goal
use Rattle.debuggee.specs.Execution.{execution}

pub leave_out-requires-clause-those_calls : goal.leave_out-requires-clause-those_calls
leave_out-requires-clause-those_calls c = c.requires.search.routine

pub leave_out-requires-clause-some : goal.leave_out-requires-clause-some
leave_out-requires-clause-some c = c.requires.prepared.some

pub leave_out-requires-clause-of_run : goal.leave_out-requires-clause-of_run
leave_out-requires-clause-of_run c = c.requires.prepared.of_run

pub returns-clause-answer : goal.returns-clause-answer
returns-clause-answer c =
    let d = c.args.self.now in
    answers (execution d) c.args.debug.now c.leave_out.new.debug c.requires.search c.args.slice.now.pairs c.args._call c.leave_out.result
    (subst (λ n. AnswersLeftOut c.args.debug.now n (left_out_below c.args.debug.now d.history.calls.calls c.args.slice.now.pairs n) c.leave_out.new.debug
    c.leave_out.result) c.requires.prepared.first c.leave_out.ensures.answer)

pub returns-clause-entries : goal.returns-clause-entries
returns-clause-entries c =
    let d = c.args.self.now in
    entries_are (execution d) c.args.debug.now c.leave_out.new.debug c.requires.search c.args.slice.now.pairs c.args._call c.leave_out.result
    (subst (λ n. AnswersLeftOut c.args.debug.now n (left_out_below c.args.debug.now d.history.calls.calls c.args.slice.now.pairs n) c.leave_out.new.debug
    c.leave_out.result) c.requires.prepared.first c.leave_out.ensures.answer)

pub returns-clause-search : goal.returns-clause-search
returns-clause-search c =
    let d = c.args.self.now in
    still_search (execution d) c.args.debug.now c.leave_out.new.debug c.requires.search c.args.slice.now.pairs c.args._call c.leave_out.result
    (subst (λ n. AnswersLeftOut c.args.debug.now n (left_out_below c.args.debug.now d.history.calls.calls c.args.slice.now.pairs n) c.leave_out.new.debug
    c.leave_out.result) c.requires.prepared.first c.leave_out.ensures.answer)
