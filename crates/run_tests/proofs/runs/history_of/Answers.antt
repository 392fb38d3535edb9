use Rattle.std.proofs.Common.{ap, subst, sym}
use Rattle.program_run.specs.History.{IsOfRun}
use Rattle.run_tests.proofs.runs.history_of.Goals as goal

pub returns-clause-ran : goal.returns-clause-ran
returns-clause-ran c =
    let left = c.in_ok-history.ensures in
    let the : IsOfRun c.args.program.now c.args.input.now 1000 c.in_ok-history.history = record {
      calls = left.calls;
      log = left.log;
      output = left.output;
      items = left.input;
      steps = left.budget;
    } in (
      c.args.input.now,
      c.requires.short,
      subst (λ b. IsOfRun c.args.program.now c.args.input.now b c.in_ok-history.history) (sym left.budget) the,
    )

pub returns-clause-all_left : goal.returns-clause-all_left
returns-clause-all_left c = ap (λ calls. calls.open_calls) c.in_ok-history.ensures.calls
