use Rattle.std.proofs.{Common.arith, Common.subst, Common.sym, lemmas.Result.IfOk-weaker}
use Rattle.optimal_query.specs.Search.{Search}
use Rattle.dialog_replies.proofs.{ColumnsOfCalls.calls_counted, FitsTheRun.named_in_run, FitsTheRun.over_the_run}
use Rattle.dialog_replies.proofs.resuming.resume_with.Goals as goal
use Rattle.dialog_replies.specs.Kept.{IsSearchOf}

pub with_entries-requires-clause-a_call : goal.with_entries-requires-clause-a_call
with_entries-requires-clause-a_call g c =
    let counted = calls_counted (g.D.Debugged.subject c.args.run.now) c.calls.result.now c.calls.ensures in
    omega (arith, c.calls.ensures.some)

pub with_entries-requires-clause-named : goal.with_entries-requires-clause-named
with_entries-requires-clause-named g c =
    named_in_run (g.D.Debugged.subject c.args.run.now) c.calls.result.now c.args.entries.now c.calls.ensures c.requires.named

pub returns-clause-search : goal.returns-clause-search
returns-clause-search g c =
    let s = g.D.Debugged.subject c.args.run.now in
    IfOk-weaker c.with_entries.result _ _ (λ debug search. subst (λ (d : Search). IsSearchOf s d) (sym search)
    (over_the_run s c.calls.result.now c.args.entries.now c.calls.ensures)) c.with_entries.ensures.search
