use Rattle.std.proofs.Common.{refl}
use Rattle.core_program.proofs.CallsOfRunsNest.{forest_of, rooted}
use Rattle.core_program.proofs.NestedCallsAreIntervals.{parent_is, subtree_in, subtree_of}
use Rattle.core_program.proofs.laws.numbers_tell_the_tree.Goals as goal
use Rattle.core_program.specs.Numbering.{belows}

pub returns : goal.returns
returns c = record {
  subtree = λ p input budget r e k j h. (
    λ s. subtree_in (belows r.events) (forest_of p input budget r e) k j h s,
    λ x. subtree_of (belows r.events) (forest_of p input budget r e) k j x.0 x.1,
  );
  last = λ p input budget r e k h. (forest_of p input budget r e).inside k h;
  first = λ p input budget r e. (refl, refl);
  others = λ p input budget r e k a h. parent_is (belows r.events) (forest_of p input budget r e) k a h (rooted p input budget r e).first;
}
