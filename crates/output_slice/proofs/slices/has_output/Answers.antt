use Rattle.output_slice.proofs.KeptOfRuns.{kept_of}
use Rattle.output_slice.proofs.slices.has_output.Goals as goal
use Rattle.output_slice.specs.KeptRuns.{IsKeptRun}

pub has_it-requires-clause-kept : goal.has_it-requires-clause-kept
has_it-requires-clause-kept c = kept_of c.is_whole.ensures.whole c.requires.run.1 c.requires.run.2 c.requires.budget

pub returns : goal.returns
returns c input few is r run e q =
    let k : IsKeptRun c.args.run.now r = record { program = c.args.program.now; input = input; few = few; run_is = run; kept = is } in
    c.in_ok-has.ensures r k e q
