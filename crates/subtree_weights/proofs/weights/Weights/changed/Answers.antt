use Rattle.std.proofs.Common.{◌<◌, ◌≡◌, arith, length, set}
use Rattle.subtree_weights.proofs.KeptLemmas.{change_starts, few_under, read_is}
use Rattle.subtree_weights.proofs.weights.Weights.changed.Goals as goal
use Rattle.subtree_weights.specs.Kept.{weighed_of}

pub weight_given-requires : goal.weight_given-requires
weight_given-requires g c =
    let inside : c.args.call < length (weighed_of c.self.inside).columns.last = rw (← c.self.view_is) at c.requires.a_call in
    let same = c.self.invariant.of_one_run.numbered.same_length in
    let summed = c.self.invariant.of_one_run.summed in
    let few = few_under _ _ _ _ _ c.self.invariant c.args.call inside in
    let read = read_is c.self.inside.unders.items c.args.call c.index-under.result.now (omega arith) c.index-under.ensures in
    record { room = omega arith }

pub weight_given-requires-2 : goal.weight_given-requires-2
weight_given-requires-2 g c =
    let inside : c.args.call < length (weighed_of c.self.inside).columns.last = rw (← c.self.view_is) at c.requires.a_call in
    let same = c.self.invariant.of_one_run.numbered.same_length in
    let summed = c.self.invariant.of_one_run.summed in
    let few = few_under _ _ _ _ _ c.self.invariant c.args.call inside in
    let read = read_is c.self.inside.unders.items c.args.call c.index-under.result.now (omega arith) c.index-under.ensures in
    record { room = omega arith }

pub carry-requires-clause-but_one : goal.carry-requires-clause-but_one
carry-requires-clause-but_one g c =
    let inside : c.args.call < length (weighed_of c.self.inside).columns.last = rw (← c.self.view_is) at c.requires.a_call in
    let in_force = rw (← c.self.view_is) at c.requires.in_force in
    let same = c.self.invariant.of_one_run.numbered.same_length in
    let summed = c.self.invariant.of_one_run.summed in
    let parents : c.deref.result.now ≡ c.self.inside.parents.items = c.deref.ensures.value in
    let marks : c.deref-2.result.now ≡ set c.self.inside.marks.items c.args.call c.args.after = c.deref-2.ensures.value in
    let weights : c.deref_mut.result.now ≡ set c.self.inside.weights.items c.args.call c.weight_given-2.result = c.deref_mut.ensures.value in
    let unders : c.deref_mut-2.result.now ≡ c.self.inside.unders.items = c.deref_mut-2.ensures.value in
    let read = read_is c.self.inside.unders.items c.args.call c.index-under.result.now (omega arith) c.index-under.ensures in
    rw (parents, marks, weights, unders, c.weight_given.ensures, c.weight_given-2.ensures, read)
    (change_starts _ _ _ _ _ c.self.invariant c.args.call c.args.before c.args.after inside in_force)
