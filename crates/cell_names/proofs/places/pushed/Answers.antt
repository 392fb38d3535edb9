use Rattle.std.proofs.Common.{arith}
use Rattle.cell_names.proofs.PartsPushed.{pushed_all, pushed_first, pushed_on}
use Rattle.cell_names.proofs.places.pushed.Goals as goal

pub parts-init : goal.parts-init
parts-init c = pushed_first c.args.parts.now c.new-places.result c.new-places.ensures

pub parts-preserved : goal.parts-preserved
parts-preserved c =
    let t = c.parts-test.true in
    pushed_on c.args.parts.now c.parts.places c.push.new.self c.parts.at (record { place = 0; number = 0 }) (omega (arith, t)) c.in_ok-push.ensures
    c.parts.invariant

pub returns : goal.returns
returns c = let t = c.parts-test.false in pushed_all c.args.parts.now c.parts.places c.parts.at (omega (arith, t)) c.parts.invariant
