use Rattle.std.{proofs.Common.◌≡◌, proofs.Common.length, specs.HashMap.get}
use Rattle.reference_oracle.proofs.pairs.look_inside.Given as goal
use Rattle.reference_oracle.specs.{PairsOfTypes.AreNoted, PairsOfTypes.AreNumbers, PairsOfTypes.Extends, PairsOfTypes.same_pair, Shapes.programs}

abbrev pub invariant-pairs : goal.invariant-pairs
invariant-pairs l = record {
  noted : AreNoted (programs l.subject l.reference) l.list.items l.inside.items;
  size : length l.inside.items ≡ l.at;
  more : Extends l.fn.list.items l.list.items;
  numbers : AreNumbers (get same_pair l.known) l.list.items;
}
