use Rattle.std.{proofs.Common.take, specs.HashMap.get}
use Rattle.reference_oracle.proofs.pairs.numbers_of.Given as goal
use Rattle.reference_oracle.specs.PairsOfTypes.{AreNumbers, Extends, StandAt, same_pair}

abbrev pub invariant-each : goal.invariant-each
invariant-each l = record {
  stand : StandAt l.pairs.items l.numbers.items (take l.i l.inside);
  more : Extends l.fn.pairs.items l.pairs.items;
  numbers : AreNumbers (get same_pair l.known) l.pairs.items;
}
