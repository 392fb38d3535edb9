use Rattle.std.proofs.{Common.arith, Common.w64, lemmas.Nat.Bits.bit_at-trailing_zeros}
use Rattle.weight_lanes.proofs.bits.lowest.Goals as goal

pub returns-clause-set : goal.returns-clause-set
returns-clause-set c = (bit_at-trailing_zeros w64 c.args.mask (omega (arith, c.requires)) c.ranges.mask.fits).1

pub returns-clause-below : goal.returns-clause-below
returns-clause-below c = (bit_at-trailing_zeros w64 c.args.mask (omega (arith, c.requires)) c.ranges.mask.fits).2
