use Rattle.std.proofs.Common.{◌≡◌, subst}
use Rattle.core_program.specs.ProgramRows.{ProgramRows}
use Rattle.body_replay.proofs.RecordsOfRuns.{kept, row_of_run, run_of_history}
use Rattle.reference_oracle.proofs.{CallsKept.has_row, CallsKept.kept_row, CallsKept.of_kept, CallsKept.says_by_rows, RowsSay.one_verdict}
use Rattle.reference_oracle.proofs.reference.Reference.judge.Goals as goal
use Rattle.reference_oracle.specs.{Compared.SaysByRows, Compared.compared, Fitting.asked, Kept.FitsIf, Verdicts.Says, Verdicts.verdict_on}
use Rattle.reference_oracle.specs.declared.verdicts.Verdict.TheVariants.{Unfit}

pub fit_of-requires : goal.fit_of-requires
fit_of-requires c =
    let w = c.requires.run in
    record {
      told = (
        c.args.run.now.input,
        (kept c.is_whole.ensures.whole w.1 w.2 c.requires.budget).told c.args.call c.call-row.result.now c.call-row.ensures.found,
      );
    }

pub answer_to-requires-clause-fits : goal.answer_to-requires-clause-fits
answer_to-requires-clause-fits c =
    let p = c.args.program.now in
    let w = c.requires.run in
    let run = run_of_history (kept c.is_whole.ensures.whole w.1 w.2 c.requires.budget) w.2 in
    let row = row_of_run run c.args.call c.call-row.result.now c.call-row.ensures.found in
    let k = kept_row run row in
    let a = asked p c.self.inside.program row.call c.args.run.now.budget in
    (p, row.call, k, subst (FitsIf a c.args.run.now c.call-row.result.now) c.in-Some.is (c.in_ok-found.ensures row.call k))

pub verdict_by-requires : goal.verdict_by-requires
verdict_by-requires c =
    let p = c.args.program.now in
    let w = c.requires.run in
    let run = run_of_history (kept c.is_whole.ensures.whole w.1 w.2 c.requires.budget) w.2 in
    let row = row_of_run run c.args.call c.call-row.result.now c.call-row.ensures.found in
    let k = kept_row run row in
    let a = asked p c.self.inside.program row.call c.args.run.now.budget in
    let f = subst (FitsIf a c.args.run.now c.call-row.result.now) c.in-Some.is (c.in_ok-found.ensures row.call k) in
    has_row a c.is_whole-2.ensures.whole c.args.run.now c.call-row.result.now c.in-Some.fit c.in_ok-answer-in-Some.answer k f
    (c.in_ok-answer-in-Some.ensures p row.call k f)

pub returns-in-None-clause-says : goal.returns-in-None-clause-says
returns-in-None-clause-says c =
    let p = c.args.program.now in
    let budget = c.args.run.now.budget in
    let w = c.requires.run in
    let kept = kept c.is_whole.ensures.whole w.1 w.2 c.requires.budget in
    of_kept c.args.call (λ d below. Says (asked p c.args.self.now d budget) Unfit) kept c.call-row.ensures.found (λ d below k.
    subst (λ (q : ProgramRows). Says (asked p q d budget) Unfit) c.self.view_is
    (subst (FitsIf (asked p c.self.inside.program d budget) c.args.run.now c.call-row.result.now) c.in-None.is (c.in_ok-found.ensures d k)))

pub returns-in-None-clause-tested : goal.returns-in-None-clause-tested
returns-in-None-clause-tested c =
    let p = c.args.program.now in
    let budget = c.args.run.now.budget in
    let w = c.requires.run in
    let kept = kept c.is_whole.ensures.whole w.1 w.2 c.requires.budget in
    of_kept c.args.call (λ d below. Unfit ≡ verdict_on (asked p c.args.self.now d budget)) kept c.call-row.ensures.found (λ d below k.
    subst (λ (q : ProgramRows). Unfit ≡ verdict_on (asked p q d budget)) c.self.view_is
    (one_verdict (asked p c.self.inside.program d budget) Unfit _
    (subst (FitsIf (asked p c.self.inside.program d budget) c.args.run.now c.call-row.result.now) c.in-None.is (c.in_ok-found.ensures d k))
    (c.verdicts_are_tested.ensures (asked p c.self.inside.program d budget) c.is_whole-2.ensures.whole)))

pub returns-in_ok-answer-in-Some-clause-says : goal.returns-in_ok-answer-in-Some-clause-says
returns-in_ok-answer-in-Some-clause-says c =
    let p = c.args.program.now in
    let budget = c.args.run.now.budget in
    let run = c.args.run.now in
    let row = c.call-row.result.now in
    let w = c.requires.run in
    let kept = kept c.is_whole.ensures.whole w.1 w.2 c.requires.budget in
    let v = c.verdict_by.result in
    of_kept c.args.call (λ d below. Says (asked p c.args.self.now d budget) v) kept c.call-row.ensures.found (λ d below k.
    let a = asked p c.self.inside.program d budget in
    let f = subst (FitsIf a run row) c.in-Some.is (c.in_ok-found.ensures d k) in
    subst (λ (q : ProgramRows). Says (asked p q d budget) v) c.self.view_is
    (says_by_rows a c.is_whole-2.ensures.whole run row c.in-Some.fit c.in_ok-answer-in-Some.answer k f (c.in_ok-answer-in-Some.ensures p d k f) v
    (λ first at. subst (λ places. SaysByRows (compared row c.in-Some.fit.found first c.in_ok-answer-in-Some.answer.output places) v)
    c.deref.ensures.value (c.verdict_by.ensures first at))))

pub returns-in_ok-answer-in-Some-clause-tested : goal.returns-in_ok-answer-in-Some-clause-tested
returns-in_ok-answer-in-Some-clause-tested c =
    let p = c.args.program.now in
    let budget = c.args.run.now.budget in
    let run = c.args.run.now in
    let row = c.call-row.result.now in
    let w = c.requires.run in
    let kept = kept c.is_whole.ensures.whole w.1 w.2 c.requires.budget in
    let v = c.verdict_by.result in
    of_kept c.args.call (λ d below. v ≡ verdict_on (asked p c.args.self.now d budget)) kept c.call-row.ensures.found (λ d below k.
    let a = asked p c.self.inside.program d budget in
    let f = subst (FitsIf a run row) c.in-Some.is (c.in_ok-found.ensures d k) in
    subst (λ (q : ProgramRows). v ≡ verdict_on (asked p q d budget)) c.self.view_is
    (one_verdict a v (verdict_on a)
    (says_by_rows a c.is_whole-2.ensures.whole run row c.in-Some.fit c.in_ok-answer-in-Some.answer k f (c.in_ok-answer-in-Some.ensures p d k f) v
    (λ first at. subst (λ places. SaysByRows (compared row c.in-Some.fit.found first c.in_ok-answer-in-Some.answer.output places) v)
    c.deref.ensures.value (c.verdict_by.ensures first at)))
    (c.verdicts_are_tested.ensures a c.is_whole-2.ensures.whole)))
