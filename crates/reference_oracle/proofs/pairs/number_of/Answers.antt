use Rattle.std.proofs.Common.{◌≡◌, arith, length, subst, sym}
use Rattle.std.specs.HashMap.{get}
use Rattle.reference_oracle.proofs.PairsNumbered.{numbers_one}
use Rattle.reference_oracle.proofs.pairs.number_of.Goals as goal
use Rattle.reference_oracle.specs.PairsOfTypes.{AreNumbers, same_pair}

pub returns-in_ok-push-in-None-clause-numbers : goal.returns-in_ok-push-in-None-clause-numbers
returns-in_ok-push-in-None-clause-numbers c =
    let pairs = c.args.pairs.now.items in
    let size : c.in-Ok.number ≡ length pairs = let e = c.in-Ok.ensures in let f = c.len.ensures in omega (arith, e, f) in
    subst (AreNumbers (get same_pair c.note.new.known)) (sym c.in_ok-push-in-None.ensures.items)
    (numbers_one (get same_pair c.args.known.now) (get same_pair c.note.new.known) pairs c.args.pair c.in-Ok.number size c.requires.numbers
    c.in_ok-note-in-None.ensures)
