use Rattle.std.proofs.{Common.◌<◌, Common.◌∙◌, Common.length, Common.subst, lemmas.List.length-map}
use Rattle.debuggee.proofs.{ReferencesSay.says, ReferencesSay.stands, SlicesOfRuns.call_of, TracesAreOfBodies.is_of_run}
use Rattle.debuggee.proofs.runs.DebuggeeDebugged.refer.Goals as goal
use Rattle.debuggee.specs.Execution.{execution}

pub returns : goal.returns
returns c =
    let d = c.args.self.now in
    let run = is_of_run d.ran in
    let calls = d.history.calls.calls in
    let inside : c.args.call < length calls = subst (λ n. c.args.call < n) (length-map calls (λ r. r.last)) c.requires in
    let k = call_of c.is_whole.ensures.whole d.short run d.few_steps inside in
    let at = stands k in
    c.referred.ensures
    ∙ says (execution d) c.args.reference.now c.args.call k.entry.event c.in_ok-verdict.verdict at
    (c.in_ok-verdict.ensures.tested d.input.now run k.entry.event at)
