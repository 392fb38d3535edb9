use Rattle.cell_value.proofs.Masks.{below_is}
use Rattle.cell_value.proofs.sets.below.Goals as goal

pub returns : goal.returns
returns c = rw (
  c.first_bits.ensures,
  c.first_bits-2.ensures,
  c.first_bits-3.ensures,
  c.first_bits-4.ensures,
  c.saturating_sub.ensures,
  c.saturating_sub-2.ensures,
  c.saturating_sub-3.ensures,
) (below_is c.args.bound)
