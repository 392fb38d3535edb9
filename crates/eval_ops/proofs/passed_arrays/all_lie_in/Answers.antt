use Rattle.std.proofs.Common.{◌∙◌, sym}
use Rattle.eval_ops.proofs.DimensionsFound.{lies_past}
use Rattle.eval_ops.proofs.passed_arrays.all_lie_in.Goals as goal

pub returns-in-None : goal.returns-in-None
returns-in-None c =
    sym (lies_past c.args.extents.now c.args.schema.now c.extents.place c.extents-test.true c.in-None.ensures.lookup.3) ∙ c.extents.invariant
