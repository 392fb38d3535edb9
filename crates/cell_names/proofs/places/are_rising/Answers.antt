use Rattle.std.proofs.Common.{arith}
use Rattle.cell_names.proofs.PartsSplit.{rises_first, rises_on}
use Rattle.cell_names.proofs.places.are_rising.Goals as goal

pub parts-init : goal.parts-init
parts-init c = record {
  some = omega arith;
  so_far = rises_first c.args.parts.now;
}

pub parts-preserved : goal.parts-preserved
parts-preserved c =
    let t = c.parts-test.true in let some = c.parts.invariant.some in let less = c.if-parts-at.false in
    record {
      some = omega (arith, some);
      so_far = rises_on c.args.parts.now c.parts.at (record { place = 0; number = 0 }) some (omega (arith, t)) (omega (arith, less))
          c.parts.invariant.so_far;
    }

pub returns : goal.returns
returns c = λ is i j d below inside. let t = c.parts-test.false in c.parts.invariant.so_far i j d below (omega (arith, t, inside))
