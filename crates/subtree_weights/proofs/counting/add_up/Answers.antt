use Rattle.std.proofs.Common.{◌+◌, ◌-◌, ◌≡◌, arith}
use Rattle.subtree_weights.proofs.CountedDown.{counted_all, counted_at, counted_more, counted_none, raise_fits, raise_inside, weight_room}
use Rattle.subtree_weights.proofs.counting.add_up.Goals as goal

pub calls-init : goal.calls-init
calls-init g c = counted_none _ _ c.requires.columns c.requires.no_weight c.requires.nothing_under

pub weight_given-weight-requires : goal.weight_given-weight-requires
weight_given-weight-requires g c =
    let at : c.calls.call ≡ c.calls.call - 1 + 1 = omega arith in
    record { room = omega (arith, weight_room (c.calls.call - 1) (counted_at c.calls.invariant at)) }

pub raise-requires-clause-inside : goal.raise-requires-clause-inside
raise-requires-clause-inside g c =
    let at : c.calls.call ≡ c.calls.call - 1 + 1 = omega arith in
    raise_inside (c.calls.call - 1) (counted_at c.calls.invariant at)

pub raise-requires-clause-room : goal.raise-requires-clause-room
raise-requires-clause-room g c =
    let at : c.calls.call ≡ c.calls.call - 1 + 1 = omega arith in
    rw c.weight_given-weight.ensures (raise_fits (c.calls.call - 1) (counted_at c.calls.invariant at))

pub calls-preserved : goal.calls-preserved
calls-preserved g c =
    let at : c.calls.call ≡ c.calls.call - 1 + 1 = omega arith in
    rw (c.raise.ensures, c.weight_given-weight.ensures) (counted_more (c.calls.call - 1) (counted_at c.calls.invariant at) c.tick-in-calls.new.self
    (let one = c.tick.ensures in let two = c.tick-in-calls.ensures in omega arith))

pub returns-clause-sums : goal.returns-clause-sums
returns-clause-sums g c =
    let at : c.calls.call ≡ 0 = omega arith in
    counted_all (counted_at c.calls.invariant at)
