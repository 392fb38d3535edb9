use Rattle.std.proofs.Common.{◌+◌, ◌-◌, ◌≡◌, arith, slice_range, subst}
use Rattle.cell_value.specs.Effects.{IsCountable}
use Rattle.effect_log.proofs.SlicesGoOn.{slice_has}
use Rattle.output_slice.proofs.NeedsPassed.{none_before, touch_passed}
use Rattle.output_slice.proofs.needs.Needs.pass_all.Goals as goal
use Rattle.output_slice.specs.{Backward.before_touches, Needed.AreWanted}

pub loop-i-init : goal.loop-i-init
loop-i-init c = record { least = c.requires.in_order; passed = none_before c.args.log.now c.args.to c.args.self.now }

pub pass-requires : goal.pass-requires
pass-requires c =
    let i = c.loop-i.i - 1 in
    record {
      countable = slice_has c.args.log.now c.args.from i c.at.result (omega (arith, c.loop-i-test.true)) c.at.ensures.found IsCountable c.args.to
          (omega (arith, c.loop-i-test.true, c.loop-i.auto.i)) c.requires.in_log c.requires.countable;
    }

pub loop-i-preserved : goal.loop-i-preserved
loop-i-preserved c =
    let i = c.loop-i.i - 1 in
    let log = c.args.log.now in
    let more : c.loop-i.i ≡ i + 1 = omega (arith, c.loop-i-test.true) in
    record {
      least = omega (arith, c.loop-i-test.true);
      passed = λ w h. touch_passed log i c.args.to c.at.result c.at.ensures.found (omega (arith, c.loop-i-test.true, c.loop-i.auto.i)) c.loop-i.self
          c.pass.new.self
          c.pass.ensures.cells c.pass.ensures.input c.pass.ensures.heap w
          (subst (λ n. AreWanted c.loop-i.self (before_touches (slice_range log n c.args.to) w)) more (c.loop-i.invariant.passed w h));
    }

pub returns : goal.returns
returns c w h =
    let ends : c.loop-i.i ≡ c.args.from = omega (arith, c.loop-i-test.false, c.loop-i.invariant.least) in
    subst (λ n. AreWanted c.loop-i.self (before_touches (slice_range c.args.log.now n c.args.to) w)) ends (c.loop-i.invariant.passed w h)
