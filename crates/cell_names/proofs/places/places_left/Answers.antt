use Rattle.std.proofs.Common.{arith}
use Rattle.cell_names.proofs.PartsSplit.{still_split}
use Rattle.cell_names.proofs.places.places_left.Goals as goal

pub returns-then-begun-parts-clause-split : goal.returns-then-begun-parts-clause-split
returns-then-begun-parts-clause-split c = λ k below.
    let t = c.if-begun-parts.true in
    let a = c.saturating_sub-then-begun-parts.ensures in let b = c.saturating_sub.ensures in
    still_split c.args.parts.now c.args.at k c.args.begun (record { place = 0; number = 0 }) c.requires.rising c.requires.split (omega (arith, t))
    (omega (arith, below, a, b))
