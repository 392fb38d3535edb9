use Rattle.std.proofs.{Common.arith, lemmas.Bool.Decides.nat_tests}
use Rattle.cell_names.proofs.PartsSplit.{after_all}
use Rattle.cell_names.proofs.places.none_before.Goals as goal

pub returns-then-count-parts : goal.returns-then-count-parts
returns-then-count-parts c = λ is k d above inside.
    let e = c.from.ensures in let t = c.if-count-parts.true in
    after_all c.args.parts.now c.args.count c.args.place (record { place = 0; number = 0 }) c.requires (omega (arith, t)) (grind (arith, nat_tests, is, e))
    k d above inside
