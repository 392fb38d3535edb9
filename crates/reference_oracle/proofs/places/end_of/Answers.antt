use Rattle.std.proofs.Common.{arith}
use Rattle.reference_oracle.proofs.PlacesPut.{ends_all, ends_more}
use Rattle.reference_oracle.proofs.places.end_of.Goals as goal

pub each-preserved : goal.each-preserved
each-preserved c =
    ends_more c.args.matches.now c.each.i c.each.end c.max-end.result _ (omega arith) c.each.invariant c.max-end.ensures

pub returns : goal.returns
returns c = ends_all c.args.matches.now c.each.i c.each.end (omega arith) c.each.invariant
