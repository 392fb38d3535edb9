use Rattle.std.proofs.Common.{ap, arith, sym}
use Rattle.subtree_weights.proofs.CarriedUp.{a_part, carried_on, carried_to_the_end, goes_on, room}
use Rattle.subtree_weights.proofs.changes.carry.Goals as goal
use Rattle.subtree_weights.specs.declared.changes.Change.{Change}

pub lift-change-requires-clause-a_part : goal.lift-change-requires-clause-a_part
lift-change-requires-clause-a_part g c =
    let up = c.up.invariant in
    let is = goes_on _ _ _ up.but_one.a_call (sym c.in-Some.ensures) in
    a_part up _ is

pub lift-change-requires-clause-room : goal.lift-change-requires-clause-room
lift-change-requires-clause-room g c =
    let up = c.up.invariant in
    let is = goes_on _ _ _ up.but_one.a_call (sym c.in-Some.ensures) in
    let few = room up _ is in
    omega arith

pub up-smaller : goal.up-smaller
up-smaller g c =
    let up = c.up.invariant in
    let is = goes_on _ _ _ up.but_one.a_call (sym c.in-Some.ensures) in
    let later = up.columns.numbered.child_is_later _ _ is in
    let call = ap (λ (change : Change). change.call) c.lift-change.ensures.change in
    omega arith

pub up-preserved : goal.up-preserved
up-preserved g c =
    let up = c.up.invariant in
    let is = goes_on _ _ _ up.but_one.a_call (sym c.in-Some.ensures) in
    let deep = c.requires.rooted.child_depth _ _ is in
    rw (c.lift-change.ensures.weight, c.lift-change.ensures.sum, c.lift-change.ensures.change)
    (carried_on up _ is deep c.tick.new.self c.tick.ensures)

pub returns-clause-sums : goal.returns-clause-sums
returns-clause-sums g c = carried_to_the_end c.up.invariant (sym c.in_default.ensures)
