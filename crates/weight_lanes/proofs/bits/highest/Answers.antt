use Rattle.std.proofs.{Common.arith, Common.suc, Math.Nat.two-pow-succ, lemmas.Nat.Bits.bit_at_above}
use Rattle.weight_lanes.proofs.bits.highest.Goals as goal

pub returns-clause-above : goal.returns-clause-above
returns-clause-above c bit above = bit_at_above c.args.mask (suc c.ilog2.result) bit (omega (arith, two-pow-succ c.ilog2.result, c.ilog2.ensures.next_power_gt))
    (omega arith)
