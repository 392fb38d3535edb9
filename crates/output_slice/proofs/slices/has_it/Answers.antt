use Rattle.output_slice.proofs.KeptOfRuns.{row_is}
use Rattle.output_slice.proofs.slices.has_it.Goals as goal

pub returns : goal.returns
returns c r k e q =
    c.is_among.ensures e.event (c.in_ok-effect.ensures.of_call r k e q) (row_is k c.args.call e c.call-row.result.now q c.call-row.ensures.found).ended
