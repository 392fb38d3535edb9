use Rattle.std.proofs.Common.{◌∙◌, ap, arith, refl, slice_index, sym}
use Rattle.subtree_weights.specs.RunColumns.{Columns}
use Rattle.optimal_query.proofs.CallsOfRoutine.{up_to_all, up_to_next, up_to_none, ways_to_end, ways_to_next, with_these}
use Rattle.optimal_query.proofs.Changes.{one_length}
use Rattle.optimal_query.proofs.markings.Markings.set_each.Goals as goal

pub calls-init : goal.calls-init
calls-init g c = record {
  columns = refl;
  up_to = up_to_none c.requires.were;
  not_fallen = omega arith;
  cost = omega arith;
  within = omega arith;
}

pub set-requires : goal.set-requires
set-requires g c =
    let next = rw c.requires.the_book at c.in-Some.ensures in
    let columns = c.requires.those_calls ∙ sym c.calls.invariant.columns in
    record { those_calls = columns; a_call = omega (arith, next.holds.inside, one_length c.args.calls.now.calls c.requires.the_book columns) }

pub calls-preserved : goal.calls-preserved
calls-preserved g c =
    let next = rw c.requires.the_book at c.in-Some.ensures in
    let same = ap (λ (k : Columns). slice_index k.depth c.in-Some.place) c.calls.invariant.columns in
    rw c.set.ensures.changed
    (record {
      columns = c.calls.invariant.columns;
      up_to = up_to_next c.in-Some.place c.mark-mark.result c.calls.invariant.up_to next c.mark-mark.ensures;
      not_fallen = omega (arith, c.calls.invariant.not_fallen, c.set.ensures.not_fallen);
      cost = omega (arith, c.calls.invariant.cost, c.set.ensures.cost, same, ways_to_next c.args.self.now.columns.depth c.in-Some.place next);
      within = omega (arith, next.holds.inside);
    })

pub returns-clause-looked_up : goal.returns-clause-looked_up
returns-clause-looked_up g c =
    with_these c.calls.self c.args.self.now c.calls.invariant.columns
    (up_to_all c.calls.invariant.up_to (rw c.requires.the_book at c.in_default.ensures))

pub returns-clause-cost : goal.returns-clause-cost
returns-clause-cost g c =
    let none = rw c.requires.the_book at c.in_default.ensures in
    omega (arith, c.calls.invariant.cost, ways_to_end c.args.self.now.columns.depth c.calls.invariant.within none)
