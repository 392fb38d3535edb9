use Rattle.output_slice.proofs.{KeptOfRuns.kept_of, SliceAnswered.a_slice, SliceAnswered.no_output, SliceAnswered.too_many}
use Rattle.output_slice.proofs.slices.slice.Goals as goal
use Rattle.output_slice.specs.KeptRuns.{IsKeptRun}

pub touches_of_all-touches-requires-clause-kept : goal.touches_of_all-touches-requires-clause-kept
touches_of_all-touches-requires-clause-kept c = kept_of c.is_whole.ensures.whole c.requires.run.1 c.requires.run.2 c.requires.budget

pub has_it-requires-clause-kept : goal.has_it-requires-clause-kept
has_it-requires-clause-kept c = kept_of c.is_whole.ensures.whole c.requires.run.1 c.requires.run.2 c.requires.budget

pub of-requires-clause-kept : goal.of-requires-clause-kept
of-requires-clause-kept c = kept_of c.is_whole.ensures.whole c.requires.run.1 c.requires.run.2 c.requires.budget

pub returns-then-touches-gt-MOST_TOUCHES-clause-answer : goal.returns-then-touches-gt-MOST_TOUCHES-clause-answer
returns-then-touches-gt-MOST_TOUCHES-clause-answer c input few is r run e q =
    let k : IsKeptRun c.args.run.now r = record { program = c.args.program.now; input = input; few = few; run_is = run; kept = is } in
    too_many k c.args.call e c.args.output c.touches_of_all-touches.result (c.touches_of_all-touches.ensures r k e q) c.if-touches-gt-MOST_TOUCHES.true

pub returns-then-not-has-clause-answer : goal.returns-then-not-has-clause-answer
returns-then-not-has-clause-answer c input few is r run e q =
    let k : IsKeptRun c.args.run.now r = record { program = c.args.program.now; input = input; few = few; run_is = run; kept = is } in
    no_output k c.args.call e c.args.output c.touches_of_all-touches.result (c.touches_of_all-touches.ensures r k e q) c.if-touches-gt-MOST_TOUCHES.false
    c.in-Ok.has (c.in-Ok.ensures r k e q) c.if-not-has.true

pub returns-in-Ok-of-clause-answer : goal.returns-in-Ok-of-clause-answer
returns-in-Ok-of-clause-answer c input few is r run e q =
    let k : IsKeptRun c.args.run.now r = record { program = c.args.program.now; input = input; few = few; run_is = run; kept = is } in
    a_slice k c.args.call e c.args.output c.touches_of_all-touches.result (c.touches_of_all-touches.ensures r k e q) c.if-touches-gt-MOST_TOUCHES.false
    c.in-Ok.has (c.in-Ok.ensures r k e q) c.if-not-has.false c.in-Ok-of.slicing (c.in-Ok-of.ensures.pairs r k)
