use Rattle.std.proofs.Common.{◌∙◌, ap, arith, length}
use Rattle.program_run.specs.History.{IsOfRun}
use Rattle.cell_names.specs.Finding.{finding_of}
use Rattle.debuggee.proofs.{CallsAreNumbered.calls_kept, CallsAreNumbered.some_call, TracesAreOfBodies.history_is}
use Rattle.debuggee.proofs.source.run_program.Goals as goal
use Rattle.debuggee.specs.Execution.{Supply}

pub returns-clause-kept : goal.returns-clause-kept
returns-clause-kept c =
    let given : Supply = record { input = c.args.input.now; budget = c.args.budget } in
    let kept = c.in_ok-history.ensures in
    let calls = calls_kept c.args.source.program given c.in_ok-history.history.calls kept.calls in
    λ i. record {
      tokens = c.args.source.tokens;
      supply = record { input = c.args.input.now; budget = kept.budget i };
      recorded = record {
        program = c.args.source.program;
        tokens = length c.args.source.tokens.tokens;
        calls = calls i;
        log = kept.log i;
        items = kept.input i;
      };
    }

pub invariant_of-result : goal.invariant_of-result
invariant_of-result c =
    let p = c.args.source.program in
    let given : Supply = record { input = c.args.input.now; budget = c.args.budget } in
    let kept = c.in_ok-history.ensures in
    let history = c.in_ok-history.history in
    let of_run : IsOfRun p given.input given.budget history = record {
      calls = kept.calls;
      log = kept.log;
      output = kept.output;
      items = kept.input;
      steps = kept.budget;
    } in
    record {
      short = c.requires.input;
      some_steps = let some = c.requires.steps in let same = kept.budget in omega (arith, some, same);
      few_steps = let few = c.requires.few_steps in let same = kept.budget in omega (arith, few, same);
      ran = history_is of_run;
      some = some_call c.every_run_has_a_call.ensures c.every_program_runs.ensures p c.is_whole.ensures.whole given history.calls kept.calls;
      told = c.calls_are_told.ensures p given.input given.budget history c.requires.input of_run;
      named = c.in_ok-names.ensures ∙ ap (λ n. finding_of p n history.log) c.len.ensures.count;
    }
