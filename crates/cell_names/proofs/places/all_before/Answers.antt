use Rattle.std.proofs.{Common.arith, lemmas.Bool.Decides.nat_tests}
use Rattle.cell_names.proofs.PartsSplit.{before_all}
use Rattle.cell_names.proofs.places.all_before.Goals as goal

pub returns-else-count-eq0 : goal.returns-else-count-eq0
returns-else-count-eq0 c = λ is k d below.
    let e = c.from.ensures in
    before_all c.args.parts.now c.args.count c.args.place (record { place = 0; number = 0 }) c.requires.rising c.requires.inside c.if-count-eq0.false
    (grind (arith, nat_tests, is, e)) k d below
