use Rattle.std.proofs.Common.{arith}
use Rattle.cell_names.proofs.PartsSplit.{go_down, go_up}
use Rattle.cell_names.proofs.places.count_before.Goals as goal

pub halves-preserved-then-from-place : goal.halves-preserved-then-from-place
halves-preserved-then-from-place c =
    let t = c.halves-test.true in let h = c.if-from-place.true in let e = c.from.ensures in
    go_up c.args.place c.args.parts.now c.halves.low c.halves.high _ (record { place = 0; number = 0 }) c.requires c.halves.invariant (omega (arith, t))
    (omega (arith, h, e))

pub halves-preserved : goal.halves-preserved
halves-preserved c =
    let t = c.halves-test.true in let h = c.if-from-place.false in let e = c.from.ensures in
    go_down c.args.place c.args.parts.now c.halves.low c.halves.high _ (record { place = 0; number = 0 }) c.requires c.halves.invariant (omega arith)
    (omega (arith, t))
    (omega (arith, h, e))
