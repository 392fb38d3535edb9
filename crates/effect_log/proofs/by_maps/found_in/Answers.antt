use Rattle.std.proofs.Common.{◌-◌, ◌≡◌, [], ap, arith, drop, slice_range, take}
use Rattle.cell_value.specs.Effects.{IsCountable, made_by, taken_by}
use Rattle.effect_log.proofs.{SlicesGoOn.slice_has, SlicesGoOn.slice_more, SlicesGoOn.slice_sum, TouchesAddUp.one_more_found}
use Rattle.effect_log.proofs.by_maps.found_in.Goals as goal

pub loop-i-init : goal.loop-i-init
loop-i-init c =
    let none : c.args.from - c.args.from ≡ 0 = omega arith in
    let empty : slice_range c.args.log.now c.args.from c.args.from ≡ [] = ap (λ n. take n (drop c.args.from c.args.log.now)) none in
    rw empty (c.new-found.ensures c.args.base c.args.place)

pub take_in-requires-clause-countable : goal.take_in-requires-clause-countable
take_in-requires-clause-countable c =
    slice_has c.args.log.now c.args.from c.loop-i.i c.at.result c.loop-i.auto.i c.at.ensures.found IsCountable c.args.to c.loop-i-test.true c.requires.in_log
    c.requires.countable

pub take_in-requires-clause-made_fits : goal.take_in-requires-clause-made_fits
take_in-requires-clause-made_fits c =
    let most = slice_sum c.args.log.now c.args.from c.loop-i.i c.at.result c.loop-i.auto.i c.at.ensures.found made_by c.args.to c.loop-i-test.true in
    let so_far = c.loop-i.invariant.made in
    let fits = c.requires.made_fits in
    omega arith

pub take_in-requires-clause-taken_fits : goal.take_in-requires-clause-taken_fits
take_in-requires-clause-taken_fits c =
    let most = slice_sum c.args.log.now c.args.from c.loop-i.i c.at.result c.loop-i.auto.i c.at.ensures.found taken_by c.args.to c.loop-i-test.true in
    let so_far = c.loop-i.invariant.taken in
    let fits = c.requires.taken_fits in
    omega arith

pub loop-i-preserved : goal.loop-i-preserved
loop-i-preserved c =
    rw (slice_more c.args.log.now c.args.from c.loop-i.i c.at.result c.loop-i.auto.i c.at.ensures.found)
    (one_more_found c.args.base c.args.place _ c.at.result c.loop-i.found c.take_in.new.self c.loop-i.invariant c.in_ok-take_in.ensures)

pub returns : goal.returns
returns c =
    let ends : c.loop-i.i ≡ c.args.to = let past = c.loop-i-test.false in let most = c.loop-i.auto.i-end c.requires.in_order in omega arith in
    rw (← ends) c.loop-i.invariant
