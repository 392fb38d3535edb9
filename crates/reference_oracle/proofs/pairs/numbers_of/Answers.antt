use Rattle.std.proofs.Common.{◌++◌, ◌+◌, ◌<◌, ◌∷◌, [], arith, length, subst, sym, take}
use Rattle.std.proofs.lemmas.List.{take_more}
use Rattle.reference_oracle.proofs.{PairsMatch.stand_longer, PairsNumbered.extends_twice, PairsNumbered.stand_one}
use Rattle.reference_oracle.proofs.pairs.numbers_of.Goals as goal
use Rattle.reference_oracle.specs.PairsOfTypes.{StandAt}

pub each-preserved : goal.each-preserved
each-preserved c =
    let old = c.each.pairs.items in
    let new = c.number_of.new.pairs.items in
    let ns = c.each.numbers.items in
    let qs = c.args.inside.now in
    let i = c.each.i in
    let n = c.in_ok-number.number in
    let within : i < length qs = let e = c.each-test.true in omega (arith, e) in
    let one = stand_one new ns (take i qs) n _ (stand_longer old new c.in_ok-number.ensures.more ns (take i qs) c.each.invariant.stand)
    c.in_ok-number.ensures.there in
    record {
      stand = subst (λ l. StandAt new l (take (i + 1) qs)) (sym c.in_ok-push.ensures.items)
          (subst (StandAt new (ns ++ n ∷ [])) (sym (take_more qs i _ within)) one);
      more = extends_twice c.args.pairs.now.items old new c.each.invariant.more c.in_ok-number.ensures.more;
      numbers = c.in_ok-number.ensures.numbers;
    }
